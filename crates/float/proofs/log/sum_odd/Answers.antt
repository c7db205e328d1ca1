-- A turn adds the next coefficient, which the table holds.
use mathlib.Core.Path.{◌≡◌, refl, sym, ap, ap₂, ◌∙◌}
use mathlib.Core.List.{List, [], ◌∷◌, ◌++◌}
use Prim.Native.Nat.{ℕ, suc, ◌-◌, ◌≤◌, ◌<◌}
use native.Mathlib.Omega.{arith}
use native.Mathlib.Numerals.{add-one}
use lib.Dec.{lit<}
use lib.ListN.{length, take, get_or, length-append}
use lib.Seq.{take-suc, take-append_seam, get_or-append_seam, length-take-le}
use lib.Ieee.{Float, nan, binary64, add, mul}
use Rattle.std.specs.List.{push}
use Rattle.float.proofs.Table.{patterns, odds, entry}
use Rattle.definition.specs.Log.{series, coefficient}
use Rattle.float.proofs.log.sum_odd.Goals as goal

-- the last of the first entries, and those before it
module _ (n : ℕ) (xs ys : List Float) (x : Float) (h : n < length xs) (e : take (suc n) xs ≡ push ys x) where
  both : take n xs ++ (get_or xs n nan ∷ []) ≡ ys ++ (x ∷ [])
  both = sym (take-suc xs n nan h) ∙ e

  long : length (take n xs) ≡ length ys
  long = omega (arith, ap length both, length-append (take n xs) (get_or xs n nan ∷ []), length-append ys (x ∷ []))

  front : ys ≡ take n xs
  front = sym (take-append_seam ys (x ∷ [])) ∙ ap₂ take (sym long) (sym both) ∙ take-append_seam (take n xs) (get_or xs n nan ∷ [])

  at_end : x ≡ get_or xs n nan
  at_end =
      sym (get_or-append_seam ys x [] nan) ∙ ap₂ (λ (l : List Float) (i : ℕ). get_or l i nan) (sym both) (sym long)
      ∙ get_or-append_seam (take n xs) (get_or xs n nan) [] nan

long_odds : (k : ℕ) → k < 12 → k < length odds
unfolding odds patterns
long_odds k h = h

length_first : (k : ℕ) → k ≤ 11 → length (take k odds) ≡ k
length_first k h = let n = long_odds 11 (lit< tt) in length-take-le k odds (omega arith)

pub loop-c-init : goal.loop-c-init
unfolding series odds patterns
loop-c-init c = (
  omega arith,
  rw (c.into_iter-c-iterator.ensures.into_iter_gives, c.rev-c-items.ensures.source, c.iter.ensures.rest) refl,
  entry 11 (lit< tt),
)

pub loop-c-preserved : goal.loop-c-preserved
unfolding series
loop-c-preserved c =
    let n = length c.loop-c.yielded in
    let w = c.args.w in
    let h = c.in-Some.ensures.steps in
    let v = c.loop-c.invariant in
    let some : n < 11 = omega (arith, ap length h, ap length v.1, length_first (11 - n) (omega arith), length-append c.next.new.self.iter.rest.now (c.in-Some.c.now ∷ [])) in
    let k = 10 - n in
    let next : suc k ≡ 11 - n = omega arith in
    let e : take (suc k) odds ≡ push c.next.new.self.iter.rest.now c.in-Some.c.now = ap (λ (i : ℕ). take i odds) next ∙ sym v.1 ∙ h in
    let in_table : k < length odds = long_odds k (omega arith) in
    let m : length (c.loop-c.yielded ++ (c.in-Some.c ∷ [])) ≡ suc n = length-append c.loop-c.yielded (c.in-Some.c ∷ []) ∙ add-one n in
    let t : 10 - n ≡ 11 - suc n = omega arith in (
      omega (arith, m),
      front k odds _ _ in_table e ∙ ap (λ (i : ℕ). take i odds) (omega (arith, m)),
      ap (λ (x : Float). add binary64 (mul binary64 x w) c.in-Some.c.now) v.2
          ∙ ap (λ (x : Float). add binary64 (mul binary64 (series w 11 n) w) x) (at_end k odds _ _ in_table e ∙ entry k (omega arith) ∙ ap coefficient t)
          ∙ ap (series w 11) (sym m),
    )

pub returns : goal.returns
returns c =
    let n = length c.loop-c.yielded in
    let v = c.loop-c.invariant in
    let e : n ≡ 11 = omega (arith, c.in-None.ensures.steps.0, ap length v.1, length_first (11 - n) (omega arith)) in
    v.2 ∙ ap (series c.args.w 11) e
