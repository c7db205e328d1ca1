-- What a run carries on is as long as it was: m numbers of the mean, m * m of each matrix.
use Rattle.std.specs.Prelude.{◌≡◌, ℕ, ◌*◌, Bool, true, false, cond, List, [], length, Float}
use Rattle.definition.specs.Dense.{axpy, outer_sub, product, sandwich, symmetrise, row}
use Rattle.definition.specs.Cov.{System, Cov, Fixed, Inner, Decision, skipped, usual, diffuse, apply, root_less, verdict, element_of, is_live, entered, ended, stepped, step_star, step_inf, period_of, period, cov_run}
use Rattle.definition.specs.Mean.{Mean, Frame, Shift, mean_step, mean_ended, mean_period_of, mean_period, mean_run}
use Rattle.laws.specs.All.{scan_keeps}
use Rattle.laws.specs.Lists.{length_tab}

pub record Long (m : ℕ) (c : Cov) : Type 0 where
  pub star : length c.star ≡ m * m
  pub pinf : length c.pinf ≡ m * m
  pub root : length c.root ≡ m * m
  pub unres : length c.unres ≡ m * m

pub either : (b : Bool) (k : ℕ) (u v : List Float) → length u ≡ k → length v ≡ k → length (cond b u v) ≡ k
either true k u v h g = h
either false k u v h g = g

pub symmetrise_long : (m : ℕ) (a : List Float) → length (symmetrise m a) ≡ m * m
unfolding symmetrise
symmetrise_long m a = length_tab (m * m) 0 _

product_long : (m : ℕ) (a b : List Float) → length (product m m m a b) ≡ m * m
unfolding product
product_long m a b = length_tab (m * m) 0 _

sandwich_long : (m : ℕ) (a b : List Float) → length (sandwich m a b) ≡ m * m
unfolding sandwich
sandwich_long m a b = product_long m _ _

root_long : (m : ℕ) (z : List Float) (i : ℕ) (s : Inner) (d : Decision) → length s.root ≡ m * m → length (apply m z i s d).root ≡ m * m
unfolding apply root_less outer_sub
root_long m z i s (skipped c) h = h
root_long m z i s (usual f a) h = h
root_long m z i s (diffuse f g a b) h = length_tab (m * m) 0 _

period_long : (y : System) (t : ℕ) (c : Cov) (g : List Bool) → Long y.m c → Long y.m (period y t c g).1
unfolding period_of ended stepped step_star step_inf element_of
period_long y t c g h =
    let m = y.m in
    let lasts = is_live m c.live c.pinf in
    let f : Fixed = record { diffuse = lasts; z = y.design_at t; pre = c.star; unres = c.unres } in
    let s : Inner = record { star = c.star; pinf = entered m lasts c.pinf; root = c.root; taken = [] } in
    let root = scan_keeps (element_of y.p m y.h f) (λ (s : Inner). length s.root ≡ m * m) (λ i s b k. root_long m (row m f.z i) i s (verdict y.p m y.h f i s b) k) g 0 s h.root in
    record {
      star = symmetrise_long m _;
      pinf = symmetrise_long m _;
      root = either lasts (m * m) _ _ (product_long m _ _) root;
      unres = either lasts (m * m) _ _ (sandwich_long m _ _) h.unres;
    }

pub covs_long : (y : System) (t : ℕ) (c : Cov) (gaps : List (List Bool)) → Long y.m c → Long y.m (cov_run y t c gaps).1
unfolding cov_run
covs_long y t c gaps h = scan_keeps (period y) (Long y.m) (period_long y) gaps t c h

pub mean_long : (y : Frame) (x : Shift) (t : ℕ) (s : Mean) (es : List (List Decision × List Float)) → length s.a ≡ y.m → length (mean_run y x t s es).1.a ≡ y.m
unfolding mean_run mean_period_of mean_ended mean_step axpy
mean_long y x t s es h = scan_keeps (mean_period y x) (λ (s : Mean). length s.a ≡ y.m) (λ t s e k. length_tab y.m 0 _) es t s h
