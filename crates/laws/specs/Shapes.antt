-- Shapes of the covariance run: each period decides on p elements, with vectors of m; each matrix has m * m places; the diffuse periods come first.
use Rattle.std.specs.Prelude.{◌≡◌, Bool, true, false, cond, get_or, ltb, Float}
use Rattle.std.proofs.Math.Path.{refl}
use Rattle.std.proofs.Common.{sym, ◌∙◌, zero-add, not-suc-le-zero, le_of_suc-le-suc, arith, lt-ltb, le-ltb, ltb-true, ltb-false}
use Prim.Native.Nat.{ℕ, zero, suc, ◌+◌, ◌*◌, ◌<◌}
use mathlib.Core.List.{List, [], ◌∷◌, map}
use Rattle.std.proofs.Math.ListN.{length}
use Rattle.std.proofs.lemmas.List.{length-map, length-replicate}
use Rattle.definition.specs.Num.{0ᶠ, zeros}
use Rattle.definition.specs.Dense.{mat_vec}
use Rattle.definition.specs.Run.{scan, chunks, count}
use Rattle.definition.specs.Cov.{System, Cov, Fixed, Inner, Cause, atGap, tooSmall, belowDust, failedReplay, skipped, CovPeriod, candidate, verdict, element_of, is_live, entered, ended, stepped, step_star, step_inf, period_of, period, cov_run}
use Rattle.definition.specs.Inputs.{Class, is_gap, gap_rows}
use Rattle.laws.specs.Lists.{chunks_each, length_tab, length-scan, length-chunks}
use Rattle.laws.specs.All.{AllOf, all_true, each_all, scan_all, scan_leaves}
use Rattle.laws.specs.ReadBack.{Shaped, Whole}
use Rattle.laws.specs.Verdicts.{judge_by}
use Rattle.laws.specs.Long.{either, symmetrise_long}

-- ---- the decisions

skipped_shaped : (m : ℕ) (c : Cause) → Shaped m (skipped c)
skipped_shaped m c = record { star = length-replicate m 0ᶠ; inf = length-replicate m 0ᶠ }

mat_vec_long : (m : ℕ) (a x : List Float) → length (mat_vec m a x) ≡ m
unfolding mat_vec
mat_vec_long m a x = length_tab m 0 _

verdict_shaped : (p m : ℕ) (h : List Float) (f : Fixed) (i : ℕ) (s : Inner) (gap : Bool) → Shaped m (verdict p m h f i s gap)
unfolding verdict
verdict_shaped p m h f i s true = skipped_shaped m atGap
verdict_shaped p m h f i s false =
    let e = candidate p m h f i s in
    let h = mat_vec_long m e.star e.z in
    judge_by
    (Shaped m)
    m
    e
    (λ f f∞. record { star = h; inf = mat_vec_long m e.pinf e.z })
    (λ f. record { star = h; inf = length-replicate m 0ᶠ })
    (skipped_shaped m tooSmall)
    (skipped_shaped m belowDust)
    (skipped_shaped m failedReplay)

period_whole : (y : System) (p t : ℕ) (c : Cov) (gaps : List Bool) → length gaps ≡ p → Whole p y.m (period y t c gaps).0.decisions
unfolding period_of ended element_of
period_whole y p t c gaps e =
    record {
      many = length-scan _ gaps 0 _ ∙ e;
      shaped = scan_all _ (λ x. Unit {0}) (Shaped y.m) (λ i s g u. verdict_shaped y.p y.m y.h _ i s g) gaps 0 _ (all_true gaps);
    }

-- of the run from any period t on
module _ (y : System) (t : ℕ) (c : Cov) (ks : List Class) (n p : ℕ) where
  pub run_whole : length ks ≡ n * p → AllOf (λ c. Whole p y.m c.decisions) (cov_run y t c (gap_rows n p ks)).0
  unfolding cov_run gap_rows
  run_whole e = scan_all (period y) (λ g. length g ≡ p) (λ c. Whole p y.m c.decisions) (λ t c g h. period_whole y p t c g h) (chunks n p (map is_gap ks)) t c (each_all p (chunks n p (map is_gap ks)) (chunks_each n p (map is_gap ks) (length-map ks is_gap ∙ e)))

  pub run_length : length (cov_run y t c (gap_rows n p ks)).0 ≡ n
  unfolding cov_run gap_rows
  run_length = length-scan (period y) (chunks n p (map is_gap ks)) t c ∙ length-chunks n p (map is_gap ks)

-- ---- diffuse periods come first
pub record First (f : ℕ → Cov → List Bool → CovPeriod × Cov) : Type 0 where
  pub ends : (t : ℕ) (c : Cov) (g : List Bool) → (f t c g).0.diffuse ≡ false → (f t c g).1.live ≡ false
  pub stays : (t : ℕ) (c : Cov) (g : List Bool) → c.live ≡ false → (f t c g).0.diffuse ≡ false

ltb_suc : (i n : ℕ) (b : Bool) → ltb i n ≡ b → ltb (suc i) (1 + n) ≡ b
ltb_suc i n true e = lt-ltb (suc i) (1 + n) (omega (arith, ltb-true i n e))
ltb_suc i n false e = le-ltb (suc i) (1 + n) (omega (arith, ltb-false i n e))

counts_one : (b : Bool) (n i : ℕ) → b ≡ true → (ltb 0 (cond b 1 0 + n) ≡ true) × (ltb (suc i) (cond b 1 0 + n) ≡ ltb i n)
counts_one true n i e = (lt-ltb 0 (1 + n) (omega arith), ltb_suc i n (ltb i n) refl)
counts_one false n i e = absurd (let z : ◌≡◌ {A = ℕ} 0 1 = cc in omega arith)

module _ (f : ℕ → Cov → List Bool → CovPeriod × Cov) (law : First f) (d : CovPeriod) where
  none_after : (xs : List (List Bool)) (t : ℕ) (c : Cov) → c.live ≡ false → count (λ q. q.diffuse) (scan f t c xs).0 ≡ 0
  unfolding scan count
  none_after [] t c e = refl
  none_after (x ∷ xs) t c e = let e0 = law.stays t c x e in rw (e0, zero-add) (none_after xs (suc t) (f t c x).1 (law.ends t c x e0))

  none_at : (xs : List (List Bool)) (t : ℕ) (c : Cov) (i : ℕ) → c.live ≡ false → i < length xs → (get_or (scan f t c xs).0 i d).diffuse ≡ false
  unfolding scan
  none_at [] t c i e h = absurd (not-suc-le-zero h)
  none_at (x ∷ xs) t c zero e h = law.stays t c x e
  none_at (x ∷ xs) t c (suc i) e h = none_at xs (suc t) (f t c x).1 i (law.ends t c x (law.stays t c x e)) (le_of_suc-le-suc h)

  one_step : (x : List Bool) (xs : List (List Bool)) (t : ℕ) (c : Cov) → ((i : ℕ) → i < length xs → ltb i (count (λ q. q.diffuse) (scan f (suc t) (f t c x).1 xs).0) ≡ (get_or (scan f (suc t) (f t c x).1 xs).0 i d).diffuse) → (b : Bool) → (f t c x).0.diffuse ≡ b → (i : ℕ) → i < suc (length xs) → ltb i (cond (f t c x).0.diffuse 1 0 + count (λ q. q.diffuse) (scan f (suc t) (f t c x).1 xs).0) ≡ (get_or ((f t c x).0 ∷ (scan f (suc t) (f t c x).1 xs).0) i d).diffuse
  one_step x xs t c rec true e zero h = (counts_one (f t c x).0.diffuse (count (λ q. q.diffuse) (scan f (suc t) (f t c x).1 xs).0) 0 e).0 ∙ sym e
  one_step x xs t c rec true e (suc i) h = (counts_one (f t c x).0.diffuse (count (λ q. q.diffuse) (scan f (suc t) (f t c x).1 xs).0) i e).1 ∙ rec i (le_of_suc-le-suc h)
  one_step x xs t c rec false e zero h = rw (e, none_after xs (suc t) (f t c x).1 (law.ends t c x e)) (le-ltb 0 0 (omega arith))
  one_step x xs t c rec false e (suc i) h = rw (e, none_after xs (suc t) (f t c x).1 (law.ends t c x e)) (le-ltb (suc i) 0 (omega arith) ∙ sym (none_at xs (suc t) (f t c x).1 i (law.ends t c x e) (le_of_suc-le-suc h)))

  pub first_ones : (xs : List (List Bool)) (t : ℕ) (c : Cov) (i : ℕ) → i < length xs → ltb i (count (λ q. q.diffuse) (scan f t c xs).0) ≡ (get_or (scan f t c xs).0 i d).diffuse
  unfolding scan count
  first_ones [] t c i h = absurd (not-suc-le-zero h)
  first_ones (x ∷ xs) t c i h = one_step x xs t c (λ j g. first_ones xs (suc t) (f t c x).1 j g) (f t c x).0.diffuse refl i h

pub period_first : (y : System) → First (period y)
unfolding period_of ended stepped is_live
period_first y = record { ends = λ t c g e. e; stays = λ t c g e. rw e refl }

-- ---- each predicted and each filtered matrix has m * m places
pub record Sized (m : ℕ) (c : Cov) : Type 0 where
  pub star : length c.star ≡ m * m
  pub pinf : length c.pinf ≡ m * m

pub record SizedP (m : ℕ) (c : CovPeriod) : Type 0 where
  pub pred : length c.pred ≡ m * m
  pub pred_inf : length c.pred_inf ≡ m * m
  pub filt : length c.filt ≡ m * m

pub record Keeps (m : ℕ) (f : ℕ → Cov → List Bool → CovPeriod × Cov) : Type 0 where
  pub leaves : (t : ℕ) (c : Cov) (g : List Bool) → Sized m c → SizedP m (f t c g).0
  pub goes_on : (t : ℕ) (c : Cov) (g : List Bool) → Sized m c → Sized m (f t c g).1

module _ (m : ℕ) (f : ℕ → Cov → List Bool → CovPeriod × Cov) (law : Keeps m f) where
  pub run_sized : (xs : List (List Bool)) (t : ℕ) (c : Cov) → Sized m c → AllOf (SizedP m) (scan f t c xs).0
  run_sized xs t c h = scan_leaves f (Sized m) (λ g. Unit {0}) (SizedP m) law.goes_on (λ t c g h u. law.leaves t c g h) xs t c h (all_true xs)

entered_long : (m : ℕ) (b : Bool) (a : List Float) → length a ≡ m * m → length (entered m b a) ≡ m * m
unfolding entered
entered_long m b a e = either b (m * m) a (zeros (m * m)) e (length-replicate (m * m) 0ᶠ)

pub period_keeps : (y : System) → Keeps y.m (period y)
unfolding period_of ended stepped step_star step_inf
period_keeps y =
    record {
      leaves = λ t c g h. record { pred = h.star; pred_inf = entered_long y.m _ c.pinf h.pinf; filt = symmetrise_long y.m _ };
      goes_on = λ t c g h. record { star = symmetrise_long y.m _; pinf = symmetrise_long y.m _ };
    }
