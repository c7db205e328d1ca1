-- Section after section.
use native.Mathlib.Omega.{arith}
use Prim.Native.Nat.{◌+◌, ◌*◌}
use Rattle.saved.proofs.Saves.{bit_is, saves, cut}
use Rattle.saved.proofs.save.Goals as goal

pub returns : goal.returns
returns c =
    let m = c.args.m in
    let q = m * m in
    let x = c.args.state.now in
    let at = c.places_of-at.result in
    saves c.places_of-at.ensures c.args.p c.args.r x c.args.t _ _ _ _ _ _ _ _ _ _ (bit_is c.args.t.live) c.requires.1 c.requires.2
    c.put_numbers.ensures
    c.put_floats.ensures
    (cut m (m + q) q at.star x _ (omega arith) c.put_floats-2.ensures)
    (cut (m + q) (m + q + q) q at.p_inf x _ (omega arith) c.put_floats-3.ensures)
    (cut (m + q + q) (m + q + q + q) q at.root x _ (omega arith) c.put_floats-4.ensures)
    (cut (m + q + q + q) (m + q + q + q + q) q at.unres x _ (omega arith) c.put_floats-5.ensures)
    c.put_floats-6.ensures
    c.put_numbers-2.ensures
