-- The search for the first block that is off, step by step, and the room that it has.
use mathlib.Core.Path.{◌≡◌, refl, sym, ap, ap₂, ◌∙◌}
use Prim.Native.Nat.{ℕ, suc, ◌+◌, ◌-◌, ◌*◌, ◌≤◌, ◌<◌}
use native.Mathlib.Nat.{add-zero, sub-zero, mul-le-mul_right}
use native.Mathlib.Numerals.{add-one}
use native.Mathlib.Omega.{arith}
use mathlib.Core.Bool.{Bool, true, false, cond, ◌||◌}
use mathlib.Core.List.{◌∷◌}
use Rattle.definition.specs.Num.{tab_from, tabulate}
use Rattle.definition.specs.Reports.{first_from}
use Rattle.laws.specs.Any.{or_true}
use Rattle.laws.specs.Passes.{block_in}
use Rattle.laws.specs.Sizes.{square_le}
use Rattle.reports.specs.Rooms.{Block, Blocks, CovRooms, MeanRooms}

module _ (done n : ℕ) (f : ℕ → Bool) where
  -- what is told of the blocks from t on
  abbrev pub rest : ℕ → ℕ
  rest t = first_from (done + t) (tab_from t (n - t) f)

  pub all : first_from done (tabulate n f) ≡ rest 0
  all = ap₂ (λ (i j : ℕ). first_from i (tab_from 0 j f)) (sym (add-zero done)) (sym (sub-zero n))

  split : (t : ℕ) → t < n → tab_from t (n - t) f ≡ f t ∷ tab_from (suc t) (n - suc t) f
  unfolding tab_from
  split t h = let e : n - t ≡ suc (n - suc t) = omega arith in ap (λ (j : ℕ). tab_from t j f) e

  pub here : (t : ℕ) → t < n → f t ≡ true → rest t ≡ done + t + 1
  unfolding first_from
  here t h e = ap (first_from (done + t)) (split t h ∙ ap (λ (b : Bool). b ∷ tab_from (suc t) (n - suc t) f) e) ∙ sym (add-one (done + t))

  pub later : (t : ℕ) → t < n → f t ≡ false → rest t ≡ rest (t + 1)
  unfolding first_from
  later t h e =
      let s : suc (done + t) ≡ done + suc t = omega arith in
      rw add-one (ap (first_from (done + t)) (split t h ∙ ap (λ (b : Bool). b ∷ tab_from (suc t) (n - suc t) f) e) ∙ ap (λ (i : ℕ). first_from i (tab_from (suc t) (n - suc t) f)) s)

  pub none : (t : ℕ) → n ≤ t → rest t ≡ 0
  unfolding tab_from first_from
  none t h = let e : n - t ≡ 0 = omega arith in ap (λ (j : ℕ). first_from (done + t) (tab_from t j f)) e

pub inside : {k n done a b c t : ℕ} → Blocks k n done a b c → t < n → Block k t a × Block k t b × Block k t c
inside {k} {n} {t = t} r h =
    let in-n = block_in t n k h in
    let t4096 : t ≤ 4096 = omega (arith, r.n4096) in (
      record { k64 = r.k64; t4096 = t4096; inside = omega (arith, in-n, r.in_a) },
      record { k64 = r.k64; t4096 = t4096; inside = omega (arith, in-n, r.in_b) },
      record { k64 = r.k64; t4096 = t4096; inside = omega (arith, in-n, r.in_c) },
    )

-- ---- three lists looked at in one loop

-- what was found in three lists, and three entries more, list by list
pub three_more : (a b c x y z : Bool) → ((((a || b) || c) || x) || y) || z ≡ ((a || x) || (b || y)) || (c || z)
three_more true b c x y z = refl
three_more false true c true y z = refl
three_more false true c false y z = refl
three_more false false true true y z = refl
three_more false false true false y z = sym (or_true y)
three_more false false false true y z = refl
three_more false false false false y z = refl

-- ---- what the passes' parts have: room for the blocks that are looked at

taken : (n few u : ℕ) (b : Bool) → few ≤ n → u ≡ cond b n few → u ≤ n
taken n few u true h e = omega (arith, e)
taken n few u false h e = omega (arith, e)

within : (u n k a : ℕ) → u ≤ n → n * k ≤ a → u * k ≤ a
within u n k a h r = omega (arith, mul-le-mul_right k h)

module _ {d m n done pc pi fc : ℕ} (r : CovRooms d m n done pc pi fc) where
  pub cov_place_n : Block (m * m) n pc
  cov_place_n = record { k64 = square_le m r.m8; t4096 = r.n4096; inside = r.pred }

  pub cov_blocks_lem : (u : ℕ) (b : Bool) → u ≡ cond b n d → Blocks (m * m) u done pc pi fc
  cov_blocks_lem u b e =
      let few : u ≤ n = taken n d u b r.few e in
      record {
        k64 = square_le m r.m8;
        n4096 = omega (arith, r.n4096);
        done4096 = r.done4096;
        in_a = within u n _ _ few (omega (arith, r.pred));
        in_b = within u n _ _ few r.inf;
        in_c = within u n _ _ few r.filt;
      }

module _ {m n done pm fm : ℕ} (r : MeanRooms m n done pm fm) where
  pub mean_place_n : Block m n pm
  mean_place_n = record { k64 = omega (arith, r.m8); t4096 = r.n4096; inside = r.pred }

  pub mean_blocks_lem : (u : ℕ) (b : Bool) → u ≡ cond b n 0 → Blocks m u done pm fm fm
  mean_blocks_lem u b e =
      let few : u ≤ n = taken n 0 u b (omega arith) e in
      record {
        k64 = omega (arith, r.m8);
        n4096 = omega (arith, r.n4096);
        done4096 = r.done4096;
        in_a = within u n _ _ few (omega (arith, r.pred));
        in_b = within u n _ _ few r.filt;
        in_c = within u n _ _ few r.filt;
      }
