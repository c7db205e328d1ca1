-- Demand 3 of a stretch, the second half: what becomes of the answer, the lent parts and the saved bytes where a finite reading that was judged no
-- news is another number, or a gap (`Unmoved`, `SavedLess`). The theorems on the call are in proofs/StretchUnheard.antt; of two saved states,
-- `less_saved`.
use Rattle.std.specs.Prelude.{◌≡◌, refl, ◌⊎◌, ℕ, zero, suc, ◌<◌, Bool, false, cond, T, Float}
use Rattle.std.proofs.Math.Path.{sym, ap}
use Rattle.std.proofs.Common.{◌∙◌}
use mathlib.Core.List.{List, [], ◌∷◌, map}
use Rattle.std.proofs.Math.ListN.{get_or, set}
use Rattle.std.specs.Float.Ieee.{nan}
use Rattle.definition.specs.Num.{is_finite, at}
use Rattle.definition.specs.Cov.{Cov}
use Rattle.definition.specs.Mean.{Mean}
use Rattle.definition.specs.Inputs.{Model, Offsets}
use Rattle.definition.specs.Outcome.{CovParts, MeanParts, CovOutcome}
use Rattle.definition.specs.Carried.{Past, Carried, went}
use Rattle.definition.specs.Saved.{bits, section_at, number_at, sections, saved_of, widths, numbers_in, diffuse_in, heard_in, news_in, state_in, cov_off_in, mean_off_in}
use Rattle.definition.specs.Stretch.{From, carried_in, stretch_outcome}
use Rattle.laws.specs.SavedBack.{Savable, read}
use Rattle.demands.specs.Values.{OneLess}

-- the same past, but for one reading less heard
pub record PastLess (p p' : Past) : Type 0 where
  pub done : p'.done ≡ p.done
  pub cov : p'.cov ≡ p.cov
  pub d_diffuse : p'.counts.d_diffuse ≡ p.counts.d_diffuse
  pub heard : suc p'.counts.heard ≡ p.counts.heard
  pub news : p'.counts.news ≡ p.counts.news
  pub cov_off : p'.cov_off ≡ p.cov_off

-- ---- a call

-- an answered stretch judged the finite reading at place k of y no news: its record, in the lent kinds, is 3, 4 or 5; and there was news since the run
-- began, or it is not the last
pub record NoNews (y : List Float) (last : Bool) (c : CovOutcome) (k : ℕ) : Type 0 where
  pub read : T (is_finite (at y k))
  pub answers : c.refused ≡ 0
  pub skip : 2 < get_or c.parts.kinds k 0
  pub news : (0 < c.counts.news) ⊎ (last ≡ false)

-- the state that is saved has the mean and the mean report of the other, and its past but for one reading less heard
pub record Less (s s' : Carried) : Type 0 where
  pub past : PastLess s.past s'.past
  pub mean : s'.mean ≡ s.mean
  pub mean_off : s'.mean_off ≡ s.mean_off

pub record Unmoved (x : Model) (o : Offsets) (w : From) (last : Bool) (y : List Float) (b : CovParts) (b' : MeanParts) (save : List ℕ) (k : ℕ) : Type 0 where
  -- another finite number at place k changes nothing
  pub number : (v : Float) → T (is_finite v) → stretch_outcome x o w last (set y k v) b b' save ≡ stretch_outcome x o w last y b b' save
  -- a gap there changes only the count of readings heard and the cause in its record
  pub gap_cov : OneLess (stretch_outcome x o w last y b b' save).cov (stretch_outcome x o w last (set y k nan) b b' save).cov k
  pub gap_mean : (stretch_outcome x o w last (set y k nan) b b' save).mean ≡ (stretch_outcome x o w last y b b' save).mean
  pub gap_state : Less (went x o (carried_in x o w) y) (went x o (carried_in x o w) (set y k nan))

-- ---- what is saved then: the bytes of the number heard, and no others

pub record SavedLess (m : ℕ) (bs bs' : List ℕ) : Type 0 where
  pub others : (j : ℕ) → (j ≡ 7 → ⊥) → section_at (numbers_in (widths m) bs') j ≡ section_at (numbers_in (widths m) bs) j
  pub diffuse : diffuse_in (numbers_in (widths m) bs') ≡ diffuse_in (numbers_in (widths m) bs)
  pub heard : suc (heard_in (numbers_in (widths m) bs')) ≡ heard_in (numbers_in (widths m) bs)
  pub news : news_in (numbers_in (widths m) bs') ≡ news_in (numbers_in (widths m) bs)
  pub state : state_in (numbers_in (widths m) bs') ≡ state_in (numbers_in (widths m) bs)
  pub cov_off : cov_off_in (numbers_in (widths m) bs') ≡ cov_off_in (numbers_in (widths m) bs)
  pub mean_off : mean_off_in (numbers_in (widths m) bs') ≡ mean_off_in (numbers_in (widths m) bs)

sections_less : (p m r : ℕ) (s s' : Carried) → Less s s' → (j : ℕ) → (j ≡ 7 → ⊥) → section_at (sections p m r s') j ≡ section_at (sections p m r s) j
unfolding sections
sections_less p m r s s' l zero n = ap (λ (d : ℕ). p ∷ m ∷ r ∷ d ∷ []) l.past.done
sections_less p m r s s' l (suc zero) n = ap (λ (m : Mean). map bits m.a) l.mean
sections_less p m r s s' l (suc (suc zero)) n = ap (λ (c : Cov). map bits c.star) l.past.cov
sections_less p m r s s' l (suc (suc (suc zero))) n = ap (λ (c : Cov). map bits c.pinf) l.past.cov
sections_less p m r s s' l (suc (suc (suc (suc zero)))) n = ap (λ (c : Cov). map bits c.root) l.past.cov
sections_less p m r s s' l (suc (suc (suc (suc (suc zero))))) n = ap (λ (c : Cov). map bits c.unres) l.past.cov
sections_less p m r s s' l (suc (suc (suc (suc (suc (suc zero)))))) n = ap (λ (m : Mean). bits m.loglik ∷ []) l.mean
sections_less p m r s s' l (suc (suc (suc (suc (suc (suc (suc zero))))))) n = absurd (n refl)
sections_less p m r s s' l (suc (suc (suc (suc (suc (suc (suc (suc j)))))))) n = refl

pub less_saved : (p m r : ℕ) (s s' : Carried) → Savable p m r s → Savable p m r s' → Less s s' → SavedLess m (saved_of p m r s) (saved_of p m r s')
unfolding sections
less_saved p m r s s' a b l =
    let rd = read p m r s a in
    let rd' = read p m r s' b in
    let was : (i : ℕ) → number_at (numbers_in (widths m) (saved_of p m r s)) 7 i ≡ number_at (sections p m r s) 7 i = λ i. ap (λ (ns : List (List ℕ)). number_at ns 7 i) rd in
    let is : (i : ℕ) → number_at (numbers_in (widths m) (saved_of p m r s')) 7 i ≡ number_at (sections p m r s') 7 i = λ i. ap (λ (ns : List (List ℕ)). number_at ns 7 i) rd' in
    record {
      others = λ j n. ap (λ (ns : List (List ℕ)). section_at ns j) rd' ∙ sections_less p m r s s' l j n ∙ sym (ap (λ (ns : List (List ℕ)). section_at ns j) rd);
      diffuse = is 0 ∙ l.past.d_diffuse ∙ sym (was 0);
      heard = ap suc (is 1) ∙ l.past.heard ∙ sym (was 1);
      news = is 2 ∙ l.past.news ∙ sym (was 2);
      state = is 3 ∙ ap (λ (c : Cov). cond c.live 1 0) l.past.cov ∙ sym (was 3);
      cov_off = is 4 ∙ l.past.cov_off ∙ sym (was 4);
      mean_off = is 5 ∙ l.mean_off ∙ sym (was 5);
    }
