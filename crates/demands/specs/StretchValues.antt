-- Demand 3 of a stretch, the first half: the values of finite readings, and of the mean, the likelihood and the mean report that were saved, reach no
-- refusal, count, decision, variance, gain or covariance, nor the report on the covariances; and what is saved differs in those three alone.
use Rattle.std.specs.Prelude.{◌≡◌, refl, ℕ, zero, suc, ◌+◌, false, not, length, take, ltb, eqb, Float}
use Rattle.std.proofs.Common.{sym, ◌∙◌, inl, arith}
use Rattle.std.proofs.Math.Path.{ap, ap₂}
use Rattle.std.proofs.Math.Bool.{Bool, cond}
use mathlib.Core.List.{List, [], ◌∷◌, map}
use Rattle.definition.specs.Inputs.{Model, Offsets, Class, class_of}
use Rattle.definition.specs.Outcome.{CovParts, MeanParts, CovOutcome}
use Rattle.definition.specs.Carried.{Past, Carried, begun_past, past_on, went}
use Rattle.definition.specs.Saved.{bits, numbers_in, widths, section_at, number_at, sections, saved_of, saved_need, bad_saved, loaded_past}
use Rattle.definition.specs.Stretch.{From, StretchOutcome, past_in, carried_in, bad_from, roomy_stretch, stretch_ending, cov_stretch, stretch_outcome}
use Rattle.laws.specs.SavedBack.{Savable, loaded, read, saved_length, bad_is}
use Rattle.laws.specs.AcceptedStretch.{Ready}
use Rattle.laws.specs.AcceptedStretch as stretch
use Rattle.demands.specs.Values.{Alike, alike_classes}

-- two saved runs that differ only in the mean, the likelihood and the mean report, which is the last of the tallies, and are both refused or both not
pub record Akin (p m r n : ℕ) (bs bs' : List ℕ) : Type 0 where
  pub long : length bs ≡ length bs'
  pub bad : bad_saved p m r n bs ≡ bad_saved p m r n bs'
  pub others : (j : ℕ) → (j ≡ 1 → ⊥) → (j ≡ 6 → ⊥) → (j ≡ 7 → ⊥) → section_at (numbers_in (widths m) bs) j ≡ section_at (numbers_in (widths m) bs') j
  pub tallies : (i : ℕ) → (i ≡ 5 → ⊥) → number_at (numbers_in (widths m) bs) 7 i ≡ number_at (numbers_in (widths m) bs') 7 i

akin_past : (p m r n : ℕ) (bs bs' : List ℕ) → Akin p m r n bs bs' → (loaded m bs).past ≡ (loaded m bs').past
unfolding loaded_past
akin_past p m r n bs bs' a =
    let s0 = a.others 0 (λ q. omega arith) (λ q. omega arith) (λ q. omega arith) in
    let s2 = a.others 2 (λ q. omega arith) (λ q. omega arith) (λ q. omega arith) in
    let s3 = a.others 3 (λ q. omega arith) (λ q. omega arith) (λ q. omega arith) in
    let s4 = a.others 4 (λ q. omega arith) (λ q. omega arith) (λ q. omega arith) in
    let s5 = a.others 5 (λ q. omega arith) (λ q. omega arith) (λ q. omega arith) in
    let t0 = a.tallies 0 (λ q. omega arith) in
    let t1 = a.tallies 1 (λ q. omega arith) in
    let t2 = a.tallies 2 (λ q. omega arith) in
    let t3 = a.tallies 3 (λ q. omega arith) in
    let t4 = a.tallies 4 (λ q. omega arith) in
    cc

abbrev pub from : Bool → List ℕ → From
from b bs = record { begins = b; saved = bs }

module _ (x : Model) (begins : Bool) (bs bs' : List ℕ) (akin : Akin x.p x.m x.r x.n bs bs') where
  pub akin_pasts : past_in x (from begins bs) ≡ past_in x (from begins bs')
  unfolding past_in
  akin_pasts = ap (cond begins (begun_past x)) (akin_past x.p x.m x.r x.n bs bs' akin)

  akin_bad : bad_from x (from begins bs) ≡ bad_from x (from begins bs')
  unfolding bad_from
  akin_bad = ap₂ (λ (n : ℕ) (b : Bool). cond begins (not (eqb n 0)) b) akin.long akin.bad

  pub values : (o : Offsets) (last : Bool) (y y' : List Float) → Alike y y' → (b : CovParts) (b' : MeanParts) (save : List ℕ)
      → (stretch_outcome x o (from begins bs) last y b b' save).cov ≡ (stretch_outcome x o (from begins bs') last y' b b' save).cov
  unfolding stretch_outcome
  values o last y y' alike b b' save =
      let room = roomy_stretch x last b b' save in
      let half : Bool → Past → List Class → CovOutcome = λ bad s ks. cov_stretch x (stretch_ending x o s bad last ks room) s ks b in
      ap₂ (half (bad_from x (from begins bs))) akin_pasts (alike_classes y y' alike) ∙ ap (λ (bad : Bool). half bad (past_in x (from begins bs')) (map class_of y')) akin_bad

-- ---- and what is saved

sections_but : (p m r : ℕ) (s s' : Carried) → s.past ≡ s'.past → (j : ℕ) → (j ≡ 1 → ⊥) → (j ≡ 6 → ⊥) → (j ≡ 7 → ⊥) → section_at (sections p m r s) j ≡ section_at (sections p m r s') j
unfolding sections
sections_but p m r s s' e zero h g k = ap (λ (u : Past). p ∷ m ∷ r ∷ u.done ∷ []) e
sections_but p m r s s' e (suc zero) h g k = absurd (h refl)
sections_but p m r s s' e (suc (suc zero)) h g k = ap (λ (u : Past). map bits u.cov.star) e
sections_but p m r s s' e (suc (suc (suc zero))) h g k = ap (λ (u : Past). map bits u.cov.pinf) e
sections_but p m r s s' e (suc (suc (suc (suc zero)))) h g k = ap (λ (u : Past). map bits u.cov.root) e
sections_but p m r s s' e (suc (suc (suc (suc (suc zero))))) h g k = ap (λ (u : Past). map bits u.cov.unres) e
sections_but p m r s s' e (suc (suc (suc (suc (suc (suc zero)))))) h g k = absurd (g refl)
sections_but p m r s s' e (suc (suc (suc (suc (suc (suc (suc zero))))))) h g k = absurd (k refl)
sections_but p m r s s' e (suc (suc (suc (suc (suc (suc (suc (suc j)))))))) h g k = refl

tallies_but : (p m r : ℕ) (s s' : Carried) → s.past ≡ s'.past → (i : ℕ) → (i ≡ 5 → ⊥) → number_at (sections p m r s) 7 i ≡ number_at (sections p m r s') 7 i
unfolding sections
tallies_but p m r s s' e zero h = ap (λ (u : Past). u.counts.d_diffuse) e
tallies_but p m r s s' e (suc zero) h = ap (λ (u : Past). u.counts.heard) e
tallies_but p m r s s' e (suc (suc zero)) h = ap (λ (u : Past). u.counts.news) e
tallies_but p m r s s' e (suc (suc (suc zero))) h = ap (λ (u : Past). cond u.cov.live 1 0) e
tallies_but p m r s s' e (suc (suc (suc (suc zero)))) h = ap (λ (u : Past). u.cov_off) e
tallies_but p m r s s' e (suc (suc (suc (suc (suc zero))))) h = absurd (h refl)
tallies_but p m r s s' e (suc (suc (suc (suc (suc (suc i)))))) h = refl

-- states with one past save as runs that are akin, whatever the next stretch's length
akin_saved : (p m r : ℕ) (s s' : Carried) (n : ℕ) → Savable p m r s → Savable p m r s' → s.past ≡ s'.past → Akin p m r n (saved_of p m r s) (saved_of p m r s')
akin_saved p m r s s' n a b e =
    let rd = read p m r s a in
    let rd' = read p m r s' b in
    record {
      long = saved_length p m r s a ∙ sym (saved_length p m r s' b);
      bad = bad_is p m r s a n ∙ ap (λ (u : Past). ltb 4096 (u.done + n)) e ∙ sym (bad_is p m r s' b n);
      others = λ j h g k. ap (λ (ns : List (List ℕ)). section_at ns j) rd ∙ sections_but p m r s s' e j h g k ∙ sym (ap (λ (ns : List (List ℕ)). section_at ns j) rd');
      tallies = λ i h. ap (λ (ns : List (List ℕ)). number_at ns 7 i) rd ∙ tallies_but p m r s s' e i h ∙ sym (ap (λ (ns : List (List ℕ)). number_at ns 7 i) rd');
    }

module _ (x : Model) (begins : Bool) (bs bs' : List ℕ) (akin : Akin x.p x.m x.r x.n bs bs') (o o' : Offsets) (last : Bool) (y y' : List Float) (alike : Alike y y') (b : CovParts) (b' c' : MeanParts) (save save' : List ℕ) where
  abbrev first : StretchOutcome
  first = stretch_outcome x o (from begins bs) last y b b' save

  abbrev second : StretchOutcome
  second = stretch_outcome x o' (from begins bs') last y' b c' save'

  -- what two such stretches save is akin again, whatever their offsets: so the runs may be cut anywhere
  pub saved_akin : last ≡ false → Ready x o (from begins bs) → Ready x o' (from begins bs') → first.cov.refused ≡ 0 → second.cov.refused ≡ 0 → (k : ℕ)
      → Akin x.p x.m x.r k (take (saved_need x.m) first.save) (take (saved_need x.m) second.save)
  unfolding went
  saved_akin z ready ready' e e' k =
      let w = from begins bs in
      let w' = from begins bs' in
      let ok = stretch.free x o w last y b b' save (inl e) in
      let ok' = stretch.free x o' w' last y' b c' save' (inl e') in
      let pasts : (went x o (carried_in x o w) y).past ≡ (went x o' (carried_in x o' w') y').past =
      ap₂ (past_on x) (akin_pasts x begins bs bs' akin) (alike_classes y y' alike) in
      rw (stretch.saved_is x o w last y b b' save ready ok z, stretch.saved_is x o' w' last y' b c' save' ready' ok' z)
      (akin_saved x.p x.m x.r _ _ k (stretch.ended x o w last y b b' save ready ok) (stretch.ended x o' w' last y' b c' save' ready' ok') pasts)

-- with the same offsets the second answers where the first does
module _ (x : Model) (begins : Bool) (bs bs' : List ℕ) (akin : Akin x.p x.m x.r x.n bs bs') (o : Offsets) (last : Bool) (y y' : List Float) (alike : Alike y y') (b : CovParts) (b' : MeanParts) (save : List ℕ) where
  pub values_saved : last ≡ false → Ready x o (from begins bs) → Ready x o (from begins bs') → (stretch_outcome x o (from begins bs) last y b b' save).cov.refused ≡ 0 → (k : ℕ)
      → Akin x.p x.m x.r k (take (saved_need x.m) (stretch_outcome x o (from begins bs) last y b b' save).save) (take (saved_need x.m) (stretch_outcome x o (from begins bs') last y' b b' save).save)
  values_saved z ready ready' e =
      saved_akin x begins bs bs' akin o o last y y' alike b b' b' save save z ready ready' e
      (ap (λ (c : CovOutcome). c.refused) (sym (values x begins bs bs' akin o last y y' alike b b' save)) ∙ e)
