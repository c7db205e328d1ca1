-- The decisions read back from the flat parts are the decisions that were written.
use Rattle.std.specs.Prelude.{◌≡◌, ℕ, zero, suc, ◌+◌, ◌*◌, ◌<◌, Float}
use Rattle.std.proofs.Math.Path.{refl, sym, ap}
use Rattle.std.proofs.Common.{◌∙◌, zero-add, not-suc-le-zero, le_of_suc-le-suc}
use mathlib.Core.List.{List, [], ◌∷◌, ◌++◌, map}
use Rattle.std.proofs.Math.ListN.{length, get_or, length-map, get_or-append}
use Rattle.std.proofs.Math.Seq.{ext_get_or}
use Rattle.std.specs.Float.Ieee.{nan}
use Rattle.definition.specs.Num.{tab_from, tabulate, at}
use Rattle.definition.specs.Run.{join}
use Rattle.definition.specs.Cov.{atGap, tooSmall, belowDust, failedReplay, Decision, skipped, usual, diffuse, CovPeriod}
use Rattle.definition.specs.Parts.{fStar, fInf, mStar, mInf, kind_no, f_star_of, f_inf_of, m_star_of, m_inf_of, kind_block, cov_block}
use Rattle.laws.specs.All.{AllOf, all_append, all_at}
use Rattle.laws.specs.Flat.{Flat, decision_of, no_decision, read_back, decisions_at, decision_rows}
use Rattle.laws.specs.Lists.{Each, join_at, length-join, each_at, place_lt, tab_at, length_tab}
use Rattle.laws.specs.Passes.{map-append, join-append}

pub record Shaped (m : ℕ) (d : Decision) : Type 0 where
  pub star : length (m_star_of m d) ≡ m
  pub inf : length (m_inf_of m d) ≡ m

-- a period's decisions: p of them, each with vectors of m
pub record Whole (p m : ℕ) (ds : List Decision) : Type 0 where
  pub many : length ds ≡ p
  pub shaped : AllOf (Shaped m) ds

module _ {A B : Type 0} where
  pub get_d_map_in : (g : A → B) (l : List A) (i : ℕ) (d : A) (e : B) → i < length l → get_or (map g l) i e ≡ g (get_or l i d)
  get_d_map_in g [] i d e h = absurd (not-suc-le-zero h)
  get_d_map_in g (x ∷ l) zero d e h = refl
  get_d_map_in g (x ∷ l) (suc i) d e h = get_d_map_in g l i d e (le_of_suc-le-suc h)

  pub map-join : (g : A → B) (ls : List (List A)) → join (map (map g) ls) ≡ map g (join ls)
  unfolding join
  map-join g [] = refl
  map-join g (l ∷ ls) = ap (λ (r : List B). map g l ++ r) (map-join g ls) ∙ sym (map-append g l (join ls))

  pub join-join : (g : A → List B) (ls : List (List A)) → join (map (λ l. join (map g l)) ls) ≡ join (map g (join ls))
  unfolding join
  join-join g [] = refl
  join-join g (l ∷ ls) = ap (λ (r : List B). join (map g l) ++ r) (join-join g ls) ∙ sym (join-append (map g l) (map g (join ls))) ∙ ap join (sym (map-append g l (join ls)))

pub map-map : {A B C : Type 0} (g : B → C) (f : A → B) (l : List A) → map g (map f l) ≡ map (λ x. g (f x)) l
map-map g f [] = refl
map-map {C = C} g f (x ∷ l) = ap (λ (r : List C). g (f x) ∷ r) (map-map g f l)

module _ (p m : ℕ) where
  each_whole : (dss : List (List Decision)) → AllOf (Whole p m) dss → Each p dss
  each_whole [] h = tt
  each_whole (ds ∷ dss) h = (h.0.many, each_whole dss h.1)

  all_shaped : (dss : List (List Decision)) → AllOf (Whole p m) dss → AllOf (Shaped m) (join dss)
  unfolding join
  all_shaped [] h = tt
  all_shaped (ds ∷ dss) h = all_append (Shaped m) ds (join dss) h.0.shaped (all_shaped dss h.1)

each_star : (m : ℕ) (l : List Decision) → AllOf (Shaped m) l → Each m (map (m_star_of m) l)
each_star m [] h = tt
each_star m (d ∷ l) h = (h.0.star, each_star m l h.1)

each_inf : (m : ℕ) (l : List Decision) → AllOf (Shaped m) l → Each m (map (m_inf_of m) l)
each_inf m [] h = tt
each_inf m (d ∷ l) h = (h.0.inf, each_inf m l h.1)

again : (m : ℕ) (d : Decision) → decision_of (kind_no d) (f_star_of d) (f_inf_of d) (m_star_of m d) (m_inf_of m d) ≡ d
unfolding decision_of
again m (skipped atGap) = refl
again m (skipped tooSmall) = refl
again m (skipped belowDust) = refl
again m (skipped failedReplay) = refl
again m (usual f a) = refl
again m (diffuse f g a b) = refl

-- a vector of m places, read entry by entry from the joined list
vector_back : (m : ℕ) (g : Decision → List Float) (l : List Decision) (tail : List Float) (k : ℕ) → Each m (map g l) → k < length l → length (g (get_or l k no_decision)) ≡ m → tabulate m (λ j. at (join (map g l) ++ tail) (k * m + j)) ≡ g (get_or l k no_decision)
vector_back m g l tail k each h e =
    ext_get_or nan (tab_from 0 m (λ j. at (join (map g l) ++ tail) (k * m + j))) (g (get_or l k no_decision)) (length_tab m 0 (λ j. at (join (map g l) ++ tail) (k * m + j)) ∙ sym e) (λ j b.
    let j< : j < m = rw length_tab at b in
    let k< : k < length (map g l) = rw length-map h in
    let in-join : k * m + j < length (join (map g l)) = rw (length-join m (map g l) each, length-map l g) (place_lt (length l) m k j h j<) in
    tab_at m 0 j (λ j. at (join (map g l) ++ tail) (k * m + j)) nan j< ∙ ap (λ (i : ℕ). at (join (map g l) ++ tail) (k * m + i)) (zero-add j) ∙ get_or-append (join (map g l)) tail nan (k * m + j) in-join ∙ join_at m (map g l) k j nan each k< j<
    ∙ ap (λ (v : List Float). get_or v j nan) (get_d_map_in g l k no_decision [] h))

number_back : {B : Type 0} (g : Decision → B) (l : List Decision) (tail : List B) (k : ℕ) (e : B) → k < length l → get_or (map g l ++ tail) k e ≡ g (get_or l k no_decision)
number_back g l tail k e h = get_or-append (map g l) tail e k (rw length-map h) ∙ get_d_map_in g l k no_decision e h

-- the flat parts, whatever stands after them
module _ (m : ℕ) (l : List Decision) (sh : AllOf (Shaped m) l) (tk : List ℕ) (t1 t2 t3 t4 : List Float) where
  pub flat_of : Flat
  flat_of = record { kinds = map kind_no l ++ tk; f_stars = map f_star_of l ++ t1; f_infs = map f_inf_of l ++ t2; m_stars = join (map (m_star_of m) l) ++ t3; m_infs = join (map (m_inf_of m) l) ++ t4 }

  pub read_back_lem : (k : ℕ) → k < length l → read_back m flat_of k ≡ get_or l k no_decision
  unfolding read_back flat_of
  read_back_lem k h =
      let d = get_or l k no_decision in
      let s = all_at (Shaped m) l k no_decision sh h in
      rw (number_back kind_no l tk k 0 h, number_back f_star_of l t1 k nan h, number_back f_inf_of l t2 k nan h, vector_back m (m_star_of m) l t3 k (each_star m l sh) h s.star, vector_back m (m_inf_of m) l t4 k (each_inf m l sh) h s.inf) (again m d)

-- something of each decision, period by period
pub flat_of_lem : {B : Type 0} (g : Decision → B) (cs : List CovPeriod) → join (map (λ c. map g c.decisions) cs) ≡ map g (join (map (λ c. c.decisions) cs))
flat_of_lem g cs = ap join (sym (map-map (map g) (λ c. c.decisions) cs)) ∙ map-join g (map (λ c. c.decisions) cs)

-- the kinds of all periods
pub kinds_join : (cs : List CovPeriod) → join (map kind_block cs) ≡ map kind_no (join (map (λ c. c.decisions) cs))
unfolding kind_block
kinds_join cs = flat_of_lem kind_no cs

-- p decisions in each period
pub each_many : (p m : ℕ) (cs : List CovPeriod) → AllOf (λ c. Whole p m c.decisions) cs → Each p (map (λ c. c.decisions) cs)
each_many p m [] h = tt
each_many p m (c ∷ cs) h = (h.0.many, each_many p m cs h.1)

-- the periods' decisions, from the parts that hold their blocks
module _ (p m : ℕ) (cs : List CovPeriod) (wh : AllOf (λ c. Whole p m c.decisions) cs) where
  dss : List (List Decision)
  dss = map (λ c. c.decisions) cs

  whole : (cs : List CovPeriod) → AllOf (λ c. Whole p m c.decisions) cs → AllOf (Whole p m) (map (λ c. c.decisions) cs)
  whole [] h = tt
  whole (c ∷ cs) h = (h.0, whole cs h.1)

  kinds_flat : join (map kind_block cs) ≡ map kind_no (join dss)
  unfolding dss
  kinds_flat = kinds_join cs

  fs_flat : join (map (cov_block m fStar) cs) ≡ map f_star_of (join dss)
  unfolding cov_block dss
  fs_flat = flat_of_lem f_star_of cs

  fi_flat : join (map (cov_block m fInf) cs) ≡ map f_inf_of (join dss)
  unfolding cov_block dss
  fi_flat = flat_of_lem f_inf_of cs

  ms_flat : join (map (cov_block m mStar) cs) ≡ join (map (m_star_of m) (join dss))
  unfolding cov_block dss
  ms_flat = ap join (sym (map-map (λ l. join (map (m_star_of m) l)) (λ c. c.decisions) cs)) ∙ join-join (m_star_of m) (map (λ c. c.decisions) cs)

  mi_flat : join (map (cov_block m mInf) cs) ≡ join (map (m_inf_of m) (join dss))
  unfolding cov_block dss
  mi_flat = ap join (sym (map-map (λ l. join (map (m_inf_of m) l)) (λ c. c.decisions) cs)) ∙ join-join (m_inf_of m) (map (λ c. c.decisions) cs)

  pub rows_back : (n : ℕ) (tk : List ℕ) (t1 t2 t3 t4 : List Float) → length cs ≡ n → decision_rows n p m (record { kinds = join (map kind_block cs) ++ tk; f_stars = join (map (cov_block m fStar) cs) ++ t1; f_infs = join (map (cov_block m fInf) cs) ++ t2; m_stars = join (map (cov_block m mStar) cs) ++ t3; m_infs = join (map (cov_block m mInf) cs) ++ t4 }) ≡ map (λ c. c.decisions) cs
  unfolding decision_rows decisions_at dss flat_of
  rows_back n tk t1 t2 t3 t4 e =
      let w = whole cs wh in
      let each = each_whole p m dss w in
      let sh = all_shaped p m dss w in
      let r = flat_of m (join dss) sh tk t1 t2 t3 t4 in
      let ln : length dss ≡ n = length-map cs (λ c. c.decisions) ∙ e in
      rw (kinds_flat, fs_flat, fi_flat, ms_flat, mi_flat)
      (ext_get_or [] (tab_from 0 n (decisions_at p m r)) dss (length_tab n 0 (decisions_at p m r) ∙ sym ln) (λ t b.
      let t< : t < n = rw length_tab at b in
      let t<' : t < length dss = rw ln t< in
      tab_at n 0 t (decisions_at p m r) [] t< ∙ ap (decisions_at p m r) (zero-add t)
      ∙ ext_get_or no_decision (decisions_at p m r t) (get_or dss t []) (length_tab p 0 (λ i. read_back m r (t * p + i)) ∙ sym (each_at p dss t each t<')) (λ i g.
      let i< : i < p = rw length_tab at g in
      let in-join : t * p + i < length (join dss) = rw (length-join p dss each, ln) (place_lt n p t i t< i<) in
      tab_at p 0 i (λ i. read_back m r (t * p + i)) no_decision i< ∙ ap (λ (j : ℕ). read_back m r (t * p + j)) (zero-add i) ∙ read_back_lem m (join dss) sh tk t1 t2 t3 t4 (t * p + i) in-join ∙ join_at p dss t i no_decision each t<' i<)))
