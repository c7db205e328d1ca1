-- Symmetrised pair by pair: the start, one pair more, one column more, and all.
use Prim.Native.Nat.{ℕ, ◌+◌, ◌*◌, ◌≤◌, ◌<◌}
use mathlib.Core.Path.{◌≡◌, refl, ap, ap₂, ◌∙◌}
use mathlib.Core.List.{List}
use mathlib.Core.Logic.{◌⊎◌, inl, inr, ⊎_elim}
use native.Mathlib.Omega.{arith}
use lib.Ieee.{Float, nan}
use lib.ListN.{length, set, length-set}
use lib.Seq.{get_or-set_same, get_or-set_other}
use borrow.Author.Tests.{lt-ltb, le-ltb}
use Rattle.definition.specs.Num.{◌⊕◌, ◌⊗◌, half, ent}
use Rattle.definition.specs.Dense.{sym_at, symmetrise}
use Rattle.dense.specs.Views.{mat}
use Rattle.dense.specs.Pairs.{mean_of, Paired}
use Rattle.laws.specs.Passes.{block_in}
use Rattle.dense.proofs.Laws.{lt_or_le, rect_at, rect_by}

pub pair_start : (m : ℕ) (p : List Float) → Paired m 0 0 p p
pair_start m p =
    record {
      kept = refl;
      done = λ a b h g before. absurd (⊎_elim (λ (u : b < 0). omega arith) (λ (u : (b ≡ 0) × (a < 0)). omega arith) before);
      rest = λ a b h g after. (refl, refl);
      diagonal = λ a h. refl;
    }

pub pair_column : (m j i : ℕ) (p out : List Float) → i ≡ j → Paired m j i p out → Paired m (j + 1) 0 p out
pair_column m j i p out e q =
    record {
      kept = q.kept;
      done = λ a b h g before. q.done a b h g
          (⊎_elim (λ (u : b < j + 1). ⊎_elim (λ (v : b < j). inl v) (λ (v : j ≤ b). inr (omega arith, omega arith)) (lt_or_le b j)) (λ (u : (b ≡ j + 1) × (a < 0)). absurd (omega arith)) before);
      rest = λ a b h g after. q.rest a b h g (inl (⊎_elim (λ (u : j + 1 < b). omega arith) (λ (u : (b ≡ j + 1) × (0 ≤ a)). omega arith) after));
      diagonal = q.diagonal;
    }

-- two places are the same only where row and column are
same_place : (m a b i j : ℕ) → b < m → j < m → a * m + b ≡ i * m + j → (a ≡ i) × (b ≡ j)
same_place m a b i j hb hj e =
    ⊎_elim (λ (u : a < i). absurd (omega (arith, block_in a i m u)))
    (λ (u : i ≤ a). ⊎_elim (λ (v : i < a). absurd (omega (arith, block_in i a m v))) (λ (v : a ≤ i). let q : a ≡ i = omega arith in (q, omega (arith, ap (λ (x : ℕ). x * m) q))) (lt_or_le i a))
    (lt_or_le a i)

module _ (m j i : ℕ) (p out new : List Float) (v : Float) (hi : i < j) (hj : j < m) (room_for : m * m ≤ length p) (q : Paired m j i p out) (e : new ≡ set (set out (i * m + j) v) (j * m + i) v) (w : v ≡ mean_of m (mat m out) i j) where
  -- every other entry is as it was
  other : (a b : ℕ) → b < m → ((a ≡ i) × (b ≡ j) → ⊥) → ((a ≡ j) × (b ≡ i) → ⊥) → ent m new a b ≡ ent m out a b
  other a b hb n k =
      ap (λ (l : List Float). ent m l a b) e
      ∙ get_or-set_other (set out (i * m + j) v) (j * m + i) (a * m + b) v nan (λ s. k (same_place m a b j i hb (omega arith) s))
      ∙ get_or-set_other out (i * m + j) (a * m + b) v nan (λ s. n (same_place m a b i j hb hj s))

  upper : ent m new i j ≡ v
  upper =
      ap (λ (l : List Float). ent m l i j) e
      ∙ get_or-set_other (set out (i * m + j) v) (j * m + i) (i * m + j) v nan (λ s. omega (arith, same_place m i j j i hj (omega arith) s))
      ∙ get_or-set_same out (i * m + j) v nan (omega (arith, q.kept, block_in i m m (omega arith)))

  lower : ent m new j i ≡ v
  lower =
      ap (λ (l : List Float). ent m l j i) e
      ∙ get_or-set_same (set out (i * m + j) v) (j * m + i) v nan (omega (arith, q.kept, length-set out (i * m + j) v, block_in j m m hj))

  value : v ≡ mean_of m p i j
  unfolding mean_of
  value =
      let r = q.rest i j hi hj (inr (refl, omega arith)) in
      w
      ∙ ap₂ (λ (x y : Float). half ⊗ (x ⊕ y)) (rect_at m m i j out (omega arith) hj ∙ r.0) (rect_at m m j i out hj (omega arith) ∙ r.1)

  -- a pair a < b that is not the one: neither of its entries was stored to
  beside : (a b : ℕ) → a < b → b < m → ((a ≡ i) × (b ≡ j) → ⊥) → (ent m new a b ≡ ent m out a b) × (ent m new b a ≡ ent m out b a)
  beside a b h g n = (other a b g n (λ s. omega arith), other b a (omega arith) (λ s. omega arith) (λ s. n (s.1, s.0)))

  pub pair_next : Paired m j (i + 1) p new
  pair_next =
      record {
        kept = ap length e ∙ length-set (set out (i * m + j) v) (j * m + i) v ∙ length-set out (i * m + j) v ∙ q.kept;
        done = done;
        rest = λ a b h g after.
            let s = beside a b h g (λ t. ⊎_elim (λ (u : j < b). omega arith) (λ (u : (b ≡ j) × (i + 1 ≤ a)). omega arith) after) in
            let r = q.rest a b h g (⊎_elim (λ (u : j < b). inl u) (λ (u : (b ≡ j) × (i + 1 ≤ a)). inr (u.0, omega arith)) after) in
            (s.0 ∙ r.0, s.1 ∙ r.1);
        diagonal = λ a h. other a a h (λ s. omega arith) (λ s. omega arith) ∙ q.diagonal a h;
      }
    where
      earlier : (a b : ℕ) → a < b → b < m → (b < j) ⊎ ((b ≡ j) × (a < i)) → (ent m new a b ≡ mean_of m p a b) × (ent m new b a ≡ mean_of m p a b)
      earlier a b h g before =
          let s = beside a b h g (λ t. ⊎_elim (λ (u : b < j). omega arith) (λ (u : (b ≡ j) × (a < i)). omega arith) before) in
          let d = q.done a b h g before in
          (s.0 ∙ d.0, s.1 ∙ d.1)

      this : (a b : ℕ) → a ≡ i → b ≡ j → (ent m new a b ≡ mean_of m p a b) × (ent m new b a ≡ mean_of m p a b)
      this a b s t = rw (s, t) (upper ∙ value, lower ∙ value)

      done : (a b : ℕ) → a < b → b < m → (b < j) ⊎ ((b ≡ j) × (a < i + 1)) → (ent m new a b ≡ mean_of m p a b) × (ent m new b a ≡ mean_of m p a b)
      done a b h g before =
          ⊎_elim (λ (u : b < j). earlier a b h g (inl u))
          (λ (u : (b ≡ j) × (a < i + 1)). ⊎_elim (λ (x : a < i). earlier a b h g (inr (u.0, x))) (λ (x : i ≤ a). this a b (omega arith) u.0) (lt_or_le a i))
          before

pub pair_all : (m j : ℕ) (p out : List Float) → m ≤ j → m * m ≤ length p → Paired m j 0 p out → mat m out ≡ symmetrise m (mat m p)
unfolding symmetrise sym_at mean_of
pair_all m j p out hj h q = rect_by (sym_at m (mat m p)) m m out (omega (arith, q.kept)) entry
  where
    entry : (a b : ℕ) → a < m → b < m → ent m out a b ≡ sym_at m (mat m p) a b
    entry a b ha hb =
        let x = rect_at m m a b p ha hb in
        let y = rect_at m m b a p hb ha in
        ⊎_elim (λ (u : a < b). rw (lt-ltb a b u, x, y) (q.done a b u hb (inl (omega arith))).0)
        (λ (u : b ≤ a).
        ⊎_elim (λ (v : b < a). rw (le-ltb a b u, lt-ltb b a v, x, y) (q.done b a v ha (inl (omega arith))).1)
        (λ (v : a ≤ b). let s : b ≡ a = omega arith in rw (le-ltb a b u, le-ltb b a v, x) (rw s (q.diagonal a ha)))
        (lt_or_le b a))
        (lt_or_le a b)
