-- One number more is written; at the end all are.
use mathlib.Core.Path.{sym, ap, ◌∙◌}
use Prim.Native.Nat.{◌+◌, ◌*◌, ◌≤◌, ◌<◌}
use native.Mathlib.Omega.{arith}
use mathlib.Core.List.{map}
use lib.ListN.{length, length-map}
use Rattle.laws.specs.ReadBack.{get_d_map_in}
use Rattle.saved.proofs.Put.{numbers_none, numbers_more, numbers_all, counted_put}
use Rattle.saved.proofs.put_section.Goals as goal

pub loop-i-init : goal.loop-i-init
loop-i-init g c = λ q h. numbers_none _ (map q c.args.x.now)

pub loop-i-preserved : goal.loop-i-preserved
loop-i-preserved g c = λ q h.
    let a = c.args in
    let w = c.loop-i in
    let v = c.index-x-i in
    let within : w.i < length (map q a.x.now) = simp length-map c.loop-i-test.true in
    let room : a.at + 4 + w.i * 8 ≤ length c.put_four.new.out = omega (arith, c.put_four.auto.out, c.requires.room, c.loop-i-test.true) in
    let number = h _ _ c.number.ensures ∙ ap q v.is ∙ sym (get_d_map_in q a.x.now w.i v.result 0 c.loop-i-test.true) in
    numbers_more (a.at + 4) w.i (map q a.x.now) _ _ _ _ (w.invariant q h) within room number c.put_eight.ensures

pub returns : goal.returns
returns g c = λ q h.
    let a = c.args in
    let w = c.loop-i in
    let l = map q a.x.now in
    let all : length l ≤ w.i = simp length-map c.loop-i-test.false in
    counted_put a.at (length a.x.now) l _ _ _ (length-map a.x.now q) c.requires.room c.put_four.ensures (numbers_all (a.at + 4) w.i l _ _ all (w.invariant q h))
