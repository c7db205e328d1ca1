-- The loop over the periods, from the last to the first: what holds with the periods from t on done, how a period keeps it, and what it comes to.
use mathlib.Core.Path.{◌≡◌, refl, sym, ap, ap₂, ◌∙◌}
use Prim.Native.Nat.{ℕ, suc, ◌-◌, ◌*◌, ◌≤◌, ◌<◌}
use native.Mathlib.Nat.{zero-add}
use native.Mathlib.Omega.{arith}
use mathlib.Core.Bool.{Bool, true, false}
use mathlib.Core.List.{List}
use lib.ListN.{length, get_or}
use lib.Ieee.{Float}
use Rattle.definition.specs.Num.{zeros}
use Rattle.definition.specs.Dense.{axpy}
use Rattle.definition.specs.Run.{scan_back, join}
use Rattle.definition.specs.Cov.{CovPeriod}
use Rattle.definition.specs.Mean.{Frame, MeanPeriod}
use Rattle.definition.specs.Smooth.{Rs, back_a, back_mean_of, back_mean, no_rs}
use Rattle.definition.specs.Inputs.{part_from, transition_from, frame_from}
use Rattle.laws.specs.Lists.{tab_at, length_tab, pairs_at, length_pairs}
use Rattle.laws.specs.Flat.{Flat, look_at, looks, mean_look_at, mean_looks}
use Rattle.laws.specs.Passes.{over, Laid}
use Rattle.laws.specs.Backward.{later, WroteFrom, from_none, later_none, later_step, from_next, from_all}
use Rattle.dense.specs.Views.{vec}
use Rattle.mean_back.specs.View.{looked_at, looked}

-- a smoothed mean has m places
smoothed_long : (m : ℕ) (live : Bool) (p p∞ a : List Float) (r : Rs) → length (back_a m live p p∞ a r) ≡ m
unfolding back_a axpy
smoothed_long m true p p∞ a r = length_tab m 0 _
smoothed_long m false p p∞ a r = length_tab m 0 _

module _ (n p m dd : ℕ) (pm pc pi vs : List Float) (r : Flat) where
  looks_long : length (looks n p m dd pc pi r) ≡ n
  unfolding looks
  looks_long = length_tab n 0 (look_at p m dd pc pi r)

  mean_looks_long : length (mean_looks n p m pm vs) ≡ n
  unfolding mean_looks
  mean_looks_long = length_tab n 0 (mean_look_at p m pm vs)

  looked_long : length (looked n p m dd pm pc pi vs r) ≡ n
  looked_long = length_pairs n (looks n p m dd pc pi r) (mean_looks n p m pm vs) looks_long mean_looks_long

  looked_at_lem : (t : ℕ) (d : CovPeriod × MeanPeriod) → t < n → get_or (looked n p m dd pm pc pi vs r) t d ≡ looked_at p m dd pm pc pi vs r t
  unfolding looks mean_looks
  looked_at_lem t d h =
      pairs_at (looks n p m dd pc pi r) (mean_looks n p m pm vs) t d.0 d.1 d (rw looks_long h) (rw mean_looks_long h)
      ∙ ap₂ (λ (a : CovPeriod) (b : MeanPeriod). (a, b)) (tab_at n 0 t (look_at p m dd pc pi r) d.0 h ∙ ap (look_at p m dd pc pi r) (zero-add t)) (tab_at n 0 t (mean_look_at p m pm vs) d.1 h ∙ ap (mean_look_at p m pm vs) (zero-add t))

  module _ (y : Frame) (s₀ : Rs) where
    abbrev pub es : List (CovPeriod × MeanPeriod)
    es = looked n p m dd pm pc pi vs r

    pub record Going (i : ℕ) (s : Rs) (o₀ o : List Float) : Type 0 where
      pub low : i ≤ n
      pub state : s ≡ (later (back_mean y) m es s₀ i).1
      pub out : WroteFrom (back_mean y) m es s₀ o₀ o i

    pub going_none : (o : List Float) → Going n s₀ o o
    going_none o = record { low = omega arith; state = later_none (back_mean y) m es s₀ n looked_long; out = from_none (back_mean y) m es s₀ o n looked_long }

    module _ {i : ℕ} {s s' : Rs} {o₀ o : List Float} (b : List Float) where
      -- period i - 1 leaves b in its block
      pub going_next : Going i s o₀ o → 0 < i → n * m ≤ length o₀ → y.m ≡ m → ◌≡◌ (b, s') (back_mean y (i - 1) s (looked_at p m dd pm pc pi vs r (i - 1))) → Going (i - 1) s' o₀ (over (i - 1) m o b)
      unfolding back_mean_of
      going_next g h room em q =
          let up : i ≡ suc (i - 1) = omega arith in
          let t = i - 1 in
          let t< : t < n = omega (arith, g.low) in
          let d = looked_at p m dd pm pc pi vs r t in
          let hl : t < length es = rw looked_long t< in
          let st : s ≡ (later (back_mean y) m es s₀ (suc t)).1 = rw up at g.state in
          let wr : WroteFrom (back_mean y) m es s₀ o₀ o (suc t) = rw up at g.out in
          let lb : length b ≡ m = ap (λ (x : List Float × Rs). length x.0) q ∙ smoothed_long y.m _ _ _ _ _ ∙ em in
          let now : ◌≡◌ (b, s') (back_mean y t (later (back_mean y) m es s₀ (suc t)).1 (get_or es t d)) = q ∙ ap₂ (back_mean y t) st (sym (looked_at_lem t d t<)) in
          record {
            low = omega (arith, g.low);
            state = ap (λ (x : List Float × Rs). x.1) now ∙ sym (ap (λ (x : List (List Float) × Rs). x.1) (later_step (back_mean y) m es s₀ t d hl));
            out = from_next (back_mean y) m es s₀ t d o₀ o b hl (rw looked_long room) wr lb (ap (λ (x : List Float × Rs). x.0) now);
          }

    pub going_all : {i : ℕ} {s : Rs} {o₀ o : List Float} → Going i s o₀ o → i ≤ 0 → n * m ≤ length o₀ → Laid (n * m) (join (scan_back (back_mean y) 0 s₀ es).0) o₀ o
    going_all {i} {s} {o₀} {o} g h room = let e : i ≡ 0 = omega arith in from_all (back_mean y) m es s₀ n o₀ o looked_long room (rw e at g.out)

-- the frame's period, with the design and the T that the code has: the period's, and that of the period u before it
pub framed : (p m t u : ℕ) (z zs tr trs design step : List Float) (s : Rs) (c : CovPeriod × MeanPeriod) {b : List Float × Rs} → design ≡ part_from (p * m) z zs t → u ≡ t - 1 → step ≡ transition_from m tr trs u → b ≡ back_mean_of m step design s c
    → b ≡ back_mean (frame_from p m z zs tr trs) t s c
unfolding frame_from
framed p m t u z zs tr trs design step s c ed eu es h = h ∙ ap₂ (λ (a d : List Float). back_mean_of m a d s c) (es ∙ ap (transition_from m tr trs) eu) ed

pub framed_m : (p m : ℕ) (z zs tr trs : List Float) → (frame_from p m z zs tr trs).m ≡ m
unfolding frame_from
framed_m p m z zs tr trs = refl

-- r0 and r1 set to zeros
pub started : (m : ℕ) (r0 r1 : List Float) → vec m r0 ≡ zeros m → vec m r1 ≡ zeros m → ◌≡◌ {A = Rs} (record { r0 = vec m r0; r1 = vec m r1 }) (no_rs m)
unfolding no_rs
started m r0 r1 e h = cc

pub passed : (n p m : ℕ) (z zs t ts : List Float) (es : List (CovPeriod × MeanPeriod)) (s : Rs) {o₀ o : List Float} → Laid (n * m) (join (scan_back (back_mean (frame_from p m z zs t ts)) 0 s es).0) o₀ o → s ≡ no_rs m
    → Laid (n * m) (join (scan_back (back_mean (frame_from p m z zs t ts)) 0 (no_rs m) es).0) o₀ o
passed n p m z zs t ts es s g e = rw e at g
