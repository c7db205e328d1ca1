-- Laws of a pass from the last period to the first, and: what is read back of a period is what was written.
use Rattle.std.proofs.Math.Path.{◌≡◌, refl, sym, ap}
use Rattle.std.proofs.Common.{◌∙◌, zero-mul, zero-add, length-append, length-drop, take-append-drop, drop-cons, length-take-le, get_or-take, get_or-drop}
use Prim.Native.Nat.{ℕ, suc, ◌+◌, ◌-◌, ◌*◌, ◌≤◌, ◌<◌}
use Rattle.std.proofs.Math.Nat.{suc-mul}
use native.Mathlib.Omega.{arith}
use Rattle.std.specs.Prelude.{Bool, ltb, Float}
use mathlib.Core.List.{List, [], ◌∷◌, ◌++◌, map, append_assoc}
use Rattle.std.proofs.Math.ListN.{length, get_or, take, drop, length-take, length-map, get_or-append}
use Rattle.std.proofs.Math.Seq.{drop-length, drop_at, take-take, drop-drop, take-append-le, ext_get_or}
use Rattle.std.specs.Float.{nan}
use borrow.Rule.Slice.PartMut.{mid_of, same_len_mid}
use Rattle.definition.specs.Num.{tab_from, tabulate, at}
use Rattle.definition.specs.Dense.{row, row_at}
use Rattle.definition.specs.Run.{scan_back, fold_back, pairs, join}
use Rattle.definition.specs.Cov.{Decision, CovPeriod}
use Rattle.definition.specs.Mean.{Frame, MeanPeriod}
use Rattle.definition.specs.Smooth.{back_cov_of, back_mean_of, back_cov, back_mean, no_ns, no_rs, smooth_cov, smooth_mean}
use Rattle.definition.specs.Parts.{predCov, pred_inf, fStar, fInf, mStar, mInf, cov_block, kind_block, predMean, innovations, mean_block}
use Rattle.laws.specs.Flat.{Flat, decisions_at, decision_rows, block_at, look_of, mean_look_of, look_at, looks, mean_look_at, mean_looks}
use Rattle.laws.specs.Lists.{Each, join_at, length-join, place_lt, tab_at, length_tab, each_at}
use Rattle.laws.specs.Passes.{over, Laid, block_in}
use Rattle.laws.specs.All.{AllOf}
use Rattle.laws.specs.ReadBack.{Whole, get_d_map_in, rows_back}
use Rattle.laws.specs.Shapes.{SizedP}

module _ {A S X : Type 0} (f : ℕ → S → A → List X × S) (k : ℕ) (xs : List A) (s : S) where
  -- the periods from t on, from the last
  abbrev pub later : ℕ → List (List X) × S
  later t = scan_back f t s (drop t xs)

  -- what those leave in a part: their blocks; before and after them it is as it was
  abbrev pub WroteFrom : List X → List X → ℕ → Type 0
  WroteFrom old o t = (length o ≡ length old) × (o ≡ take (t * k) old ++ (join (later t).0 ++ drop (length xs * k) old))

  pub from_none : (old : List X) (n : ℕ) → length xs ≡ n → WroteFrom old old n
  unfolding scan_back join
  from_none old n e = rw (← e, drop-length xs) ((refl, sym (take-append-drop (length xs * k) old)))

  pub later_none : (n : ℕ) → length xs ≡ n → s ≡ (later n).1
  unfolding scan_back
  later_none n e = rw (← e, drop-length xs) refl

  pub later_step : (t : ℕ) (d : A) → t < length xs → later t ≡ ((f t (later (suc t)).1 (get_or xs t d)).0 ∷ (later (suc t)).0, (f t (later (suc t)).1 (get_or xs t d)).1)
  unfolding scan_back
  later_step t d h = ap (scan_back f t s) (drop-cons xs t d h)

  pub from_next : (t : ℕ) (d : A) (old o ys : List X) → t < length xs → length xs * k ≤ length old → WroteFrom old o (suc t) → length ys ≡ k → ys ≡ (f t (later (suc t)).1 (get_or xs t d)).0 → WroteFrom old (over t k o ys) t
  unfolding join
  from_next t d old o ys h room w ly e =
      let b = block_in t (length xs) k h in
      let l : length ys ≡ length (mid_of (t * k) (t * k + k - t * k) o) = simp (length-take, length-drop) (omega (arith, w.0)) in
      let z : t * k + k - t * k ≡ k = omega arith in
      let sm : suc t * k ≡ t * k + k = suc-mul t k in
      let R = join (later (suc t)).0 ++ drop (length xs * k) old in
      let is : o ≡ take (t * k + k) old ++ R = w.1 ∙ ap (λ (i : ℕ). take i old ++ R) sm in
      let front : take (t * k) o ≡ take (t * k) old = ap (take (t * k)) is ∙ take-append-le (t * k) (take (t * k + k) old) R (simp length-take (omega arith)) ∙ take-take (t * k) (t * k + k) old (omega arith) in
      let rest : drop k (drop (t * k) o) ≡ R = drop-drop k (t * k) o ∙ ap (drop (t * k + k)) is ∙ drop_at (take (t * k + k) old) R (t * k + k) (length-take-le (t * k + k) old (omega arith)) in
      let more : join (later t).0 ≡ ys ++ join (later (suc t)).0 = ap (λ (r : List (List X) × S). join r.0) (later_step t d h) ∙ ap (λ (y : List X). y ++ join (later (suc t)).0) (sym e) in (
        same_len_mid (t * k) (t * k + k - t * k) o ys l ∙ w.0,
        rw (z, front, rest, more) (ap (λ (q : List X). take (t * k) old ++ q) (sym (append_assoc ys (join (later (suc t)).0) (drop (length xs * k) old)))),
      )

  pub from_all : (n : ℕ) (old o : List X) → length xs ≡ n → n * k ≤ length old → WroteFrom old o 0 → Laid (n * k) (join (scan_back f 0 s xs).0) old o
  from_all n old o e h w =
      let is : o ≡ join (scan_back f 0 s xs).0 ++ drop (n * k) old = rw (zero-mul, e) at w.1 in
      let l = simp (length-append, length-drop) at (ap length is) in
      let long : length (join (scan_back f 0 s xs).0) ≡ n * k = omega (arith, w.0) in
      record { long = long; is = is ∙ ap (λ (i : ℕ). join (scan_back f 0 s xs).0 ++ drop i old) (sym long) }

-- ---- the elements of a period, from the last: the state with those from t on done
module _ {A S : Type 0} (f : ℕ → S → A → S) (xs : List A) (s : S) where
  pub fold_none : (n : ℕ) → length xs ≡ n → s ≡ fold_back f n s (drop n xs)
  unfolding fold_back
  fold_none n e = rw (← e, drop-length xs) refl

  pub fold_step : (t : ℕ) (d : A) → t < length xs → fold_back f t s (drop t xs) ≡ f t (fold_back f (suc t) s (drop (suc t) xs)) (get_or xs t d)
  unfolding fold_back
  fold_step t d h = ap (fold_back f t s) (drop-cons xs t d h)

-- ---- the count, down

pub one_less : {i n : ℕ} → 0 < i → i ≤ n → i - 1 < n
one_less h g = omega arith

pub falls : {i : ℕ} → 0 < i → i - 1 < i
falls h = omega arith

pub up : {i : ℕ} → 0 < i → i - 1 + 1 ≡ i
up h = omega arith

-- ---- a part of a slice, as the block that it is
pub part_block : (t k : ℕ) (l : List Float) → t * k + k ≤ length l → take (t * k + k - t * k) (drop (t * k) l) ≡ block_at k l t
unfolding block_at
part_block t k l h =
    let s : t * k + k - t * k ≡ k = omega arith in
    rw s
    (ext_get_or nan (take k (drop (t * k) l)) (tabulate k (λ j. at l (t * k + j))) (simp (length-take, length-drop, length_tab) (omega arith)) (λ j b.
    let j< : j < k = omega (arith, simp (length-take, length-drop) at b) in
    get_or-take k (drop (t * k) l) j nan j< ∙ get_or-drop (t * k) l j nan ∙ sym (tab_at k 0 j (λ j. at l (t * k + j)) nan j< ∙ ap (λ (i : ℕ). at l (t * k + i)) (zero-add j))))

pub part_row : (i m : ℕ) (l : List Float) → i * m + m ≤ length l → take (i * m + m - i * m) (drop (i * m) l) ≡ row m l i
unfolding row row_at block_at
part_row i m l h = part_block i m l h

pub block_long : {A : Type 0} (t k : ℕ) (l : List A) → t * k + k ≤ length l → length (take (t * k + k - t * k) (drop (t * k) l)) ≡ k
block_long t k l h = simp (length-take, length-drop) (omega arith)

-- ---- a block read back
pub block_back : (k : ℕ) (ls : List (List Float)) (tail : List Float) (t : ℕ) → Each k ls → t < length ls → block_at k (join ls ++ tail) t ≡ get_or ls t []
unfolding block_at
block_back k ls tail t each h =
    ext_get_or nan (tab_from 0 k (λ j. at (join ls ++ tail) (t * k + j))) (get_or ls t []) (length_tab k 0 (λ j. at (join ls ++ tail) (t * k + j)) ∙ sym (each_at k ls t each h)) (λ j b.
    let j< : j < k = rw length_tab at b in
    let in-join : t * k + j < length (join ls) = rw (length-join k ls each) (place_lt (length ls) k t j h j<) in
    tab_at k 0 j (λ j. at (join ls ++ tail) (t * k + j)) nan j< ∙ ap (λ (i : ℕ). at (join ls ++ tail) (t * k + i)) (zero-add j) ∙ get_or-append (join ls) tail nan (t * k + j) in-join ∙ join_at k ls t j nan each h j<)

-- ---- what the way back reads
at_row : (n p m : ℕ) (r : Flat) (t : ℕ) → t < n → decisions_at p m r t ≡ get_or (decision_rows n p m r) t []
unfolding decision_rows
at_row n p m r t h = ap (decisions_at p m r) (sym (zero-add t)) ∙ sym (tab_at n 0 t (decisions_at p m r) [] h)

pub each_pred : (m : ℕ) (cs : List CovPeriod) → AllOf (SizedP m) cs → Each (m * m) (map (cov_block m predCov) cs)
unfolding cov_block
each_pred m [] h = tt
each_pred m (c ∷ cs) h = (h.0.pred, each_pred m cs h.1)

pub each_inf : (m : ℕ) (cs : List CovPeriod) → AllOf (SizedP m) cs → Each (m * m) (map (cov_block m pred_inf) cs)
unfolding cov_block
each_inf m [] h = tt
each_inf m (c ∷ cs) h = (h.0.pred_inf, each_inf m cs h.1)

module _ (n p m dd : ℕ) (cs : List CovPeriod) (wh : AllOf (λ c. Whole p m c.decisions) cs) (sz : AllOf (SizedP m) cs) (long : length cs ≡ n) (d : CovPeriod) (firsts : (i : ℕ) → i < length cs → ltb i dd ≡ (get_or cs i d).diffuse) where
  pub looks_back : (tk : List ℕ) (t0 t1 t2 t3 t4 t5 : List Float) → looks n p m dd (join (map (cov_block m predCov) cs) ++ t0) (join (map (cov_block m pred_inf) cs) ++ t5) (record { kinds = join (map kind_block cs) ++ tk; f_stars = join (map (cov_block m fStar) cs) ++ t1; f_infs = join (map (cov_block m fInf) cs) ++ t2; m_stars = join (map (cov_block m mStar) cs) ++ t3; m_infs = join (map (cov_block m mInf) cs) ++ t4 }) ≡ map look_of cs
  unfolding looks look_at look_of cov_block
  looks_back tk t0 t1 t2 t3 t4 t5 =
      let r : Flat = record { kinds = join (map kind_block cs) ++ tk; f_stars = join (map (cov_block m fStar) cs) ++ t1; f_infs = join (map (cov_block m fInf) cs) ++ t2; m_stars = join (map (cov_block m mStar) cs) ++ t3; m_infs = join (map (cov_block m mInf) cs) ++ t4 } in
      let pc = join (map (cov_block m predCov) cs) ++ t0 in
      let pi = join (map (cov_block m pred_inf) cs) ++ t5 in
      let rows = rows_back p m cs wh n tk t1 t2 t3 t4 long in
      ext_get_or (look_of d) (tab_from 0 n (look_at p m dd pc pi r)) (map look_of cs) (length_tab n 0 (look_at p m dd pc pi r) ∙ sym (length-map cs look_of ∙ long)) (λ t b.
      let t< : t < n = rw length_tab at b in
      let t<' : t < length cs = rw long t< in
      let row : decisions_at p m r t ≡ (get_or cs t d).decisions = at_row n p m r t t< ∙ ap (λ (l : List (List _)). get_or l t []) rows ∙ get_d_map_in (λ (c : CovPeriod). c.decisions) cs t d [] t<' in
      let p1 : block_at (m * m) pc t ≡ (get_or cs t d).pred = block_back (m * m) (map (cov_block m predCov) cs) t0 t (each_pred m cs sz) (rw length-map t<') ∙ get_d_map_in (cov_block m predCov) cs t d [] t<' in
      let p2 : block_at (m * m) pi t ≡ (get_or cs t d).pred_inf = block_back (m * m) (map (cov_block m pred_inf) cs) t5 t (each_inf m cs sz) (rw length-map t<') ∙ get_d_map_in (cov_block m pred_inf) cs t d [] t<' in
      tab_at n 0 t (look_at p m dd pc pi r) (look_of d) t< ∙ ap (look_at p m dd pc pi r) (zero-add t) ∙ same (firsts t t<') p1 p2 row ∙ sym (get_d_map_in look_of cs t d (look_of d) t<'))
    where
      same : {a a' : Bool} {u u' v v' : List Float} {w w' : List Decision} → a ≡ a' → u ≡ u' → v ≡ v' → w ≡ w' → ◌≡◌ {A = CovPeriod} (record { diffuse = a; pred = u; pred_inf = v; decisions = w; filt = [] }) (record { diffuse = a'; pred = u'; pred_inf = v'; decisions = w'; filt = [] })
      same e1 e2 e3 e4 = cc

-- ---- and of the means
pub record LongP (p m : ℕ) (s : MeanPeriod) : Type 0 where
  pub pred : length s.pred ≡ m
  pub vs : length s.vs ≡ p

each_mean : (p m : ℕ) (ss : List MeanPeriod) → AllOf (LongP p m) ss → Each m (map (mean_block predMean) ss)
unfolding mean_block
each_mean p m [] h = tt
each_mean p m (s ∷ ss) h = (h.0.pred, each_mean p m ss h.1)

pub each_vs : (p m : ℕ) (ss : List MeanPeriod) → AllOf (LongP p m) ss → Each p (map (mean_block innovations) ss)
unfolding mean_block
each_vs p m [] h = tt
each_vs p m (s ∷ ss) h = (h.0.vs, each_vs p m ss h.1)

module _ (n p m : ℕ) (ss : List MeanPeriod) (sz : AllOf (LongP p m) ss) (long : length ss ≡ n) (d : MeanPeriod) where
  pub mean_looks_back : (t0 t1 : List Float) → mean_looks n p m (join (map (mean_block predMean) ss) ++ t0) (join (map (mean_block innovations) ss) ++ t1) ≡ map mean_look_of ss
  unfolding mean_looks mean_look_at mean_look_of mean_block
  mean_looks_back t0 t1 =
      let pm = join (map (mean_block predMean) ss) ++ t0 in
      let vs = join (map (mean_block innovations) ss) ++ t1 in
      ext_get_or (mean_look_of d) (tab_from 0 n (mean_look_at p m pm vs)) (map mean_look_of ss) (length_tab n 0 (mean_look_at p m pm vs) ∙ sym (length-map ss mean_look_of ∙ long)) (λ t b.
      let t< : t < n = rw length_tab at b in
      let t<' : t < length ss = rw long t< in
      let p1 : block_at m pm t ≡ (get_or ss t d).pred = block_back m (map (mean_block predMean) ss) t0 t (each_mean p m ss sz) (rw length-map t<') ∙ get_d_map_in (mean_block predMean) ss t d [] t<' in
      let p2 : block_at p vs t ≡ (get_or ss t d).vs = block_back p (map (mean_block innovations) ss) t1 t (each_vs p m ss sz) (rw length-map t<') ∙ get_d_map_in (mean_block innovations) ss t d [] t<' in
      tab_at n 0 t (mean_look_at p m pm vs) (mean_look_of d) t< ∙ ap (mean_look_at p m pm vs) (zero-add t) ∙ same p1 p2 ∙ sym (get_d_map_in mean_look_of ss t d (mean_look_of d) t<'))
    where
      same : {u u' v v' : List Float} → u ≡ u' → v ≡ v' → ◌≡◌ {A = MeanPeriod} (record { pred = u; vs = v; filt = [] }) (record { pred = u'; vs = v'; filt = [] })
      same e1 e2 = cc

-- ---- the way back does not read the filtered moments

scan_back_map : {A B S : Type 0} (f : ℕ → S → A → B × S) (g : A → A) → ((t : ℕ) (s : S) (x : A) → f t s (g x) ≡ f t s x) → (xs : List A) (t : ℕ) (s : S) → scan_back f t s (map g xs) ≡ scan_back f t s xs
unfolding scan_back
scan_back_map f g e [] t s = refl
scan_back_map f g e (x ∷ xs) t s = rw (scan_back_map f g e xs (suc t) s, e t) refl

pairs-map : {A B : Type 0} (g : A → A) (h : B → B) (xs : List A) (ys : List B) → pairs (map g xs) (map h ys) ≡ map (λ (e : A × B). (g e.0, h e.1)) (pairs xs ys)
unfolding pairs
pairs-map g h [] ys = refl
pairs-map g h (x ∷ xs) [] = refl
pairs-map g h (x ∷ xs) (y ∷ ys) = ap (λ l. (g x, h y) ∷ l) (pairs-map g h xs ys)

pub cov_looked : (y : Frame) (cs : List CovPeriod) → (scan_back (back_cov y) 0 (no_ns y.m) (map look_of cs)).0 ≡ smooth_cov y cs
unfolding smooth_cov back_cov_of look_of
cov_looked y cs = ap (λ r. r.0) (scan_back_map (back_cov y) look_of (λ t s c. refl) cs 0 (no_ns y.m))

pub mean_looked : (y : Frame) (cs : List CovPeriod) (ss : List MeanPeriod) → (scan_back (back_mean y) 0 (no_rs y.m) (pairs (map look_of cs) (map mean_look_of ss))).0 ≡ smooth_mean y cs ss
unfolding smooth_mean back_mean_of look_of mean_look_of
mean_looked y cs ss =
    rw (pairs-map look_of mean_look_of cs ss)
    (ap (λ r. r.0) (scan_back_map (back_mean y) (λ (e : CovPeriod × MeanPeriod). (look_of e.0, mean_look_of e.1)) (λ t s e. refl) (pairs cs ss) 0 (no_rs y.m)))
