-- The loop from the last period to the first: what holds with the periods from i on done, how a period keeps it, and what it comes to.
use mathlib.Core.Path.{◌≡◌, refl, sym, ap, ap₂, ◌∙◌}
use Prim.Native.Nat.{ℕ, suc, ◌+◌, ◌-◌, ◌*◌, ◌≤◌, ◌<◌}
use native.Mathlib.Nat.{zero-add}
use native.Mathlib.Omega.{arith}
use mathlib.Core.List.{List}
use lib.ListN.{length, get_or, replicate}
use lib.Ieee.{Float}
use Rattle.definition.specs.Num.{0ᶠ}
use Rattle.definition.specs.Run.{scan_back, join}
use Rattle.definition.specs.Inputs.{part_from, transition_from, frame_from}
use Rattle.definition.specs.Cov.{CovPeriod}
use Rattle.definition.specs.Mean.{Frame}
use Rattle.definition.specs.Smooth.{Ns, back_cov_of, back_cov, no_ns}
use Rattle.laws.specs.Lists.{tab_at, length_tab}
use Rattle.laws.specs.Flat.{Flat, look_at, looks}
use Rattle.laws.specs.Passes.{over, Laid}
use Rattle.laws.specs.Backward.{later, WroteFrom, from_none, later_none, later_step, from_next, from_all}
use Rattle.dense.specs.Views.{vec, rect}
use Rattle.dense.proofs.Laws.{vec-zeros}
use Rattle.element_back.specs.View.{ns_in}

module _ (y : Frame) (s₀ : Ns) (n p m dd : ℕ) (pc pi : List Float) (r : Flat) where
  abbrev pub ls : List CovPeriod
  ls = looks n p m dd pc pi r

  pub record Going (i : ℕ) (s : Ns) (o₀ o : List Float) : Type 0 where
    pub low : i ≤ n
    pub state : s ≡ (later (back_cov y) (m * m) ls s₀ i).1
    pub out : WroteFrom (back_cov y) (m * m) ls s₀ o₀ o i

  long : length ls ≡ n
  unfolding looks
  long = length_tab n 0 (look_at p m dd pc pi r)

  look_at_lem : (t : ℕ) (d : CovPeriod) → t < n → get_or ls t d ≡ look_at p m dd pc pi r t
  unfolding looks
  look_at_lem t d h = tab_at n 0 t (look_at p m dd pc pi r) d h ∙ ap (look_at p m dd pc pi r) (zero-add t)

  pub going_none : (o : List Float) → Going n s₀ o o
  going_none o = record { low = omega arith; state = later_none (back_cov y) (m * m) ls s₀ n long; out = from_none (back_cov y) (m * m) ls s₀ o n long }

  module _ {t i : ℕ} {s s' : Ns} {o₀ o : List Float} (b : List Float) where
    -- period t leaves b in its own block
    pub going_next : Going i s o₀ o → t + 1 ≡ i → n * (m * m) ≤ length o₀ → length b ≡ m * m → ◌≡◌ (b, s') (back_cov y t s (look_at p m dd pc pi r t)) → Going t s' o₀ (over t (m * m) o b)
    going_next g e room lb q =
        let e' : i ≡ suc t = omega arith in
        let h : t < n = omega (arith, g.low) in
        let d = look_at p m dd pc pi r t in
        let hl : t < length ls = rw long h in
        let st : s ≡ (later (back_cov y) (m * m) ls s₀ (suc t)).1 = rw e' at g.state in
        let wr : WroteFrom (back_cov y) (m * m) ls s₀ o₀ o (suc t) = rw e' at g.out in
        let now : ◌≡◌ (b, s') (back_cov y t (later (back_cov y) (m * m) ls s₀ (suc t)).1 (get_or ls t d)) = q ∙ ap₂ (back_cov y t) st (sym (look_at_lem t d h)) in
        record {
          low = omega arith;
          state = ap (λ (q : List Float × Ns). q.1) now ∙ sym (ap (λ (q : List (List Float) × Ns). q.1) (later_step (back_cov y) (m * m) ls s₀ t d hl));
          out = from_next (back_cov y) (m * m) ls s₀ t d o₀ o b hl (rw long room) wr lb (ap (λ (q : List Float × Ns). q.0) now);
        }

  module _ {i : ℕ} {s : Ns} {o₀ o : List Float} where
    pub going_all : Going i s o₀ o → i ≤ 0 → n * (m * m) ≤ length o₀ → Laid (n * (m * m)) (join (scan_back (back_cov y) 0 s₀ ls).0) o₀ o
    going_all g h room = let e : i ≡ 0 = omega arith in from_all (back_cov y) (m * m) ls s₀ n o₀ o long room (rw e at g.out)

-- the frame's period, with the design and the T that the code has: the period's, and that of the period u before it
pub framed : (p m t u : ℕ) (z zs tr trs design step : List Float) (s : Ns) (l : CovPeriod) {b : List Float × Ns} → design ≡ part_from (p * m) z zs t → u ≡ t - 1 → step ≡ transition_from m tr trs u → b ≡ back_cov_of m step design s l
    → b ≡ back_cov (frame_from p m z zs tr trs) t s l
unfolding frame_from
framed p m t u z zs tr trs design step s l ed eu es h = h ∙ ap₂ (λ (a d : List Float). back_cov_of m a d s l) (es ∙ ap (transition_from m tr trs) eu) ed

-- ---- N0, N1 and N2 of zeros

none_yet : (m : ℕ) → m * m ≤ 64 → ns_in m (replicate 64 0ᶠ) (replicate 64 0ᶠ) (replicate 64 0ᶠ) ≡ no_ns m
unfolding no_ns vec rect
none_yet m h = rw (vec-zeros (m * m) 64 h) refl

pub passed : (p m k : ℕ) (z zs t ts : List Float) (ls : List CovPeriod) {o₀ o : List Float} → m * m ≤ 64 → Laid k (join (scan_back (back_cov (frame_from p m z zs t ts)) 0 (ns_in m (replicate 64 0ᶠ) (replicate 64 0ᶠ) (replicate 64 0ᶠ)) ls).0) o₀ o
    → Laid k (join (scan_back (back_cov (frame_from p m z zs t ts)) 0 (no_ns m) ls).0) o₀ o
passed p m k z zs t ts ls h l = rw (none_yet m h) at l
