-- The loop over the periods: what holds before period i, how a period keeps it, and what it comes to.
use mathlib.Core.Path.{◌≡◌, refl, sym, ap, ap₂, ◌∙◌}
use Prim.Native.Nat.{ℕ, ◌+◌, ◌*◌, ◌≤◌, ◌<◌}
use native.Mathlib.Nat.{zero-add}
use native.Mathlib.Omega.{arith}
use mathlib.Core.List.{List, [], map}
use lib.ListN.{length, get_or, take}
use lib.Ieee.{Float}
use Rattle.definition.specs.Run.{scan, join, chunks}
use Rattle.definition.specs.Cov.{Decision}
use Rattle.definition.specs.Mean.{Frame, Shift, Mean, MeanPeriod, mean_period_of, mean_period, mean_run}
use Rattle.definition.specs.Parts.{predMean, filtMean, innovations, mean_block}
use Rattle.definition.specs.Outcome.{mean_written}
use Rattle.definition.specs.Inputs.{part_from, transition_from, frame_from}
use Rattle.laws.specs.Lists.{tab_at, length_tab, length-chunks, pairs_at, length_pairs}
use Rattle.laws.specs.Flat.{Flat, decisions_at, decision_rows}
use Rattle.laws.specs.Passes.{Wrote, wrote_none, wrote_next, wrote_all, state_next, state_all, chunk_at, block_in, over, lay_last}
use Rattle.dense.specs.Views.{vec}
use Rattle.dense.specs.Places.{Saved, saved}
use Rattle.carried.specs.State.{mean_kept}
use Rattle.promise.specs.declared.Answer.{Answer}
use Rattle.mean.specs.View.{mean_in, left_in, with_loglik, entry_at, entries, Room, Looped, Passed}

module _ (n p m : ℕ) (r : Flat) (ys : List Float) where
  entries-length : length (entries n p m r ys) ≡ n
  unfolding entries decision_rows
  entries-length = length_pairs n (decision_rows n p m r) (chunks n p ys) (length_tab n 0 (decisions_at p m r)) (length-chunks n p ys)

  entries_at : (t : ℕ) → t < n → get_or (entries n p m r ys) t ([], []) ≡ entry_at p m r ys t
  unfolding entries entry_at decision_rows
  entries_at t h =
      pairs_at (decision_rows n p m r) (chunks n p ys) t [] [] ([], []) (rw length_tab h) (rw length-chunks h)
      ∙ ap₂ (λ (d : List Decision) (l : List Float). (d, l)) (tab_at n 0 t (decisions_at p m r) [] h ∙ ap (decisions_at p m r) (zero-add t)) (chunk_at n p ys t h)

module _ (y : Frame) (x : Shift) (s₀ : Mean) (p m n : ℕ) (r : Flat) (ys : List Float) where
  abbrev pub es : List (List Decision × List Float)
  es = entries n p m r ys

  abbrev pub past : ℕ → List MeanPeriod × Mean
  past i = scan (mean_period y x) 0 s₀ (take i es)

  pub record Going (i : ℕ) (s : Mean) (pm₀ pm' fm₀ fm' v₀ v' : List Float) : Type 0 where
    pub low : i ≤ n
    pub state : s ≡ (past i).1
    pub pm : Wrote (mean_period y x) (mean_block predMean) m es s₀ pm₀ pm' i
    pub fm : Wrote (mean_period y x) (mean_block filtMean) m es s₀ fm₀ fm' i
    pub vs : Wrote (mean_period y x) (mean_block innovations) p es s₀ v₀ v' i

  pub going_none : (pm fm v : List Float) → Going 0 s₀ pm pm fm fm v v
  unfolding scan
  going_none pm fm v =
      record {
        low = omega arith;
        state = refl;
        pm = wrote_none (mean_period y x) (mean_block predMean) m es s₀ pm;
        fm = wrote_none (mean_period y x) (mean_block filtMean) m es s₀ fm;
        vs = wrote_none (mean_period y x) (mean_block innovations) p es s₀ v;
      }

  module _ {i : ℕ} {s s' : Mean} {pm₀ pm' fm₀ fm' v₀ v' : List Float} (pb fb vb : List Float) where
    -- period i leaves pb, vb and fb, each in its own block
    pub going_next : Going i s pm₀ pm' fm₀ fm' v₀ v' → i < n → Room p m n (length pm₀) (length fm₀) (length v₀) → length pb ≡ m → length fb ≡ m → length vb ≡ p → ◌≡◌ (left_in pb vb fb, s') (mean_period y x i s (entry_at p m r ys i))
        → Going (i + 1) s' pm₀ (over i m pm' pb) fm₀ (over i m fm' fb) v₀ (over i p v' vb)
    unfolding mean_block
    going_next g h room lp lf lv q =
        let k : i < length es = rw entries-length h in
        let bm = block_in i n m h in
        let bp = block_in i n p h in
        let now : ◌≡◌ (left_in pb vb fb, s') (mean_period y x i (past i).1 (get_or es i ([], []))) = q ∙ ap₂ (mean_period y x i) g.state (sym (entries_at n p m r ys i h)) in
        record {
          low = omega arith;
          state = state_next (mean_period y x) es s₀ i ([], []) (past i).1 s' k refl (ap (λ (b : MeanPeriod × Mean). b.1) now);
          pm = wrote_next (mean_period y x) (mean_block predMean) m es s₀ i ([], []) pm₀ pm' pb k (omega (arith, room.pm)) g.pm lp (ap (λ (b : MeanPeriod × Mean). b.0.pred) now);
          fm = wrote_next (mean_period y x) (mean_block filtMean) m es s₀ i ([], []) fm₀ fm' fb k (omega (arith, room.fm)) g.fm lf (ap (λ (b : MeanPeriod × Mean). b.0.filt) now);
          vs = wrote_next (mean_period y x) (mean_block innovations) p es s₀ i ([], []) v₀ v' vb k (omega (arith, room.vs)) g.vs lv (ap (λ (b : MeanPeriod × Mean). b.0.vs) now);
        }

  module _ {i : ℕ} {s : Mean} {pm₀ pm' fm₀ fm' v₀ v' : List Float} where
    pub going_all : Going i s pm₀ pm' fm₀ fm' v₀ v' → n ≤ i → Room p m n (length pm₀) (length fm₀) (length v₀) → Looped p m n (mean_run y x 0 s₀ es) s pm₀ pm' fm₀ fm' v₀ v'
    unfolding mean_run
    going_all g h room =
        let e : i ≡ n = omega (arith, g.low) in
        let le = entries-length n p m r ys in
        record {
          state = state_all (mean_period y x) es s₀ n i s le e g.state;
          pm = wrote_all (mean_period y x) (mean_block predMean) m es s₀ n i pm₀ pm' le e room.pm g.pm;
          fm = wrote_all (mean_period y x) (mean_block filtMean) m es s₀ n i fm₀ fm' le e room.fm g.fm;
          vs = wrote_all (mean_period y x) (mean_block innovations) p es s₀ n i v₀ v' le e room.vs g.vs;
        }

-- the frame's period, with the design and T that the code has
pub framed : (p m t : ℕ) (z zs tr trs c d design step : List Float) (s : Mean) (e : List Decision × List Float) {b : MeanPeriod × Mean} → design ≡ part_from (p * m) z zs t → step ≡ transition_from m tr trs t
    → b ≡ mean_period_of m step c d design s e → b ≡ mean_period (frame_from p m z zs tr trs) (record { c = c; d = d }) t s e
unfolding frame_from
framed p m t z zs tr trs c d design step s e q k h = h ∙ ap₂ (λ (u l : List Float). mean_period_of m u c d l s e) k q

-- place n written after the loop, through its part, and the state kept
placed : {p m n k : ℕ} (r : List MeanPeriod × Mean) (w : Answer) {l : Float} {a' s s' pm₀ pm' fm₀ fm' v₀ v' : List Float} (b : List Float) → Looped p m n r (mean_in m a' l) pm₀ pm' fm₀ fm' v₀ v' → k ≡ m → Saved k a' b → s' ≡ mean_kept m s (vec m a')
    → Passed p m n r w (with_loglik w l) s s' pm₀ (over n m pm' b) fm₀ fm' v₀ v'
unfolding mean_written vec
placed {m = m} {n} r w {a' = a'} {s} {s'} {pm₀} {pm'} b g e q h =
    record {
      answer = ap (λ (u : Mean). with_loglik w u.loglik) g.state;
      state = h ∙ ap (λ (u : Mean). mean_kept m s u.a) g.state;
      pm = rw (← ap (λ (s : Mean). s.a) g.state, ← saved e q) (lay_last n m (join (map (mean_block predMean) r.0)) b pm₀ pm' g.pm (q.kept ∙ e));
      fm = g.fm;
      vs = g.vs;
    }

-- c and the first mean loaded before it
pub passed : (p m n : ℕ) (z zs t ts c d a1 sh a : List Float) (es : List (List Decision × List Float)) {k : ℕ} (w : Answer) {l : Float} {a' s s' pm₀ pm' fm₀ fm' v₀ v' : List Float} (b : List Float)
    → Looped p m n (mean_run (frame_from p m z zs t ts) (record { c = vec m sh; d = d }) 0 (mean_in m a w.loglik) es) (mean_in m a' l) pm₀ pm' fm₀ fm' v₀ v' → vec m sh ≡ c → vec m a ≡ a1 → k ≡ m → Saved k a' b → s' ≡ mean_kept m s (vec m a')
    → Passed p m n (mean_run (frame_from p m z zs t ts) (record { c = c; d = d }) 0 (record { a = a1; loglik = w.loglik }) es) w (with_loglik w l) s s' pm₀ (over n m pm' b) fm₀ fm' v₀ v'
passed p m n z zs t ts c d a1 sh a es w b g ec ea e q h = placed _ w b (rw (ec, ea) at g) e q h
