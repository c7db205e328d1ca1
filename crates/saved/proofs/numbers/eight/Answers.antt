-- The bytes from the place on.
use mathlib.Core.Path.{◌≡◌, ap, ◌∙◌}
use Prim.Native.Nat.{ℕ, ◌+◌, ◌-◌}
use native.Mathlib.Omega.{arith}
use lib.ListN.{length, take, drop}
use Rattle.definition.specs.Saved.{from_bytes}
use Rattle.saved.proofs.Digits.{from_eight}
use Rattle.saved.proofs.numbers.eight.Goals as goal

pub returns : goal.returns
returns c =
    let at = c.args.at in
    let bytes = rw c.unwrap.ensures at c.try_into.ensures.1 in
    let width : at + 8 - at ≡ 8 = omega arith in
    c.from_be_bytes.ensures
    ∙ from_eight c.unwrap.result (ap length bytes.same ∙ bytes.long)
    ∙ ap from_bytes (bytes.same ∙ ap (λ (k : ℕ). take k (drop at c.args.s.now)) width)
