-- What a stretch that is refused leaves: 12 blanks what the stretch lent and saves nothing (`blanked`); the others leave every lent part as it was
-- (`keeps`). The last stretch saves nothing (`last_keeps`); none writes past a saved run's length (`tail_keeps`). Which refusal it is, `refuses` says,
-- in proofs/StretchRefusals.antt.
use Rattle.std.specs.Prelude.{◌≡◌, Bool, true, false, cond, length, drop, Float}
use Rattle.std.proofs.Math.Path.{refl, ap}
use Rattle.std.proofs.Common.{◌∙◌, drop_at}
use Prim.Native.Nat.{ℕ, ◌<◌}
use mathlib.Core.List.{List, [], map}
use Rattle.definition.specs.Num.{0ᶠ}
use Rattle.definition.specs.Inputs.{Model, Offsets, class_of}
use Rattle.definition.specs.Outcome.{CovParts, MeanParts, Ending, turned, silent, answered, after, kinds_need, cov_need, mean_need}
use Rattle.definition.specs.Carried.{went}
use Rattle.definition.specs.Saved.{saved_need, saved_of}
use Rattle.definition.specs.Stretch.{From, StretchOutcome, past_in, carried_in, bad_from, roomy_stretch, stretch_ending, cov_stretch, mean_stretch, save_stretch, stretch_outcome}
use Rattle.laws.specs.Says.{Says, says_itself, says_as, says_and, says_or, says_le}
use Rattle.laws.specs.SavedBack.{saved_length}
use Rattle.laws.specs.AcceptedStretch.{not_twelve, Ready}
use Rattle.laws.specs.AcceptedStretch as stretch
use Rattle.demands.specs.Unheard.{answered_by}
use Rattle.demands.specs.Refusals.{early, twelfth, Blank, blanks, says_room}
use Rattle.demands.specs.StretchConditions.{RoomToo}

-- ---- the room that is lent

pub says_room_too : (x : Model) (last : Bool) (b : CovParts) (b' : MeanParts) (save : List ℕ) → Says (roomy_stretch x last b b' save) (RoomToo x last b b' save)
unfolding roomy_stretch
says_room_too x last b b' save =
    says_as (λ h. record { outputs = h.0; saves = h.1 }) (λ h. (h.outputs, h.saves))
    (says_and (says_room x b b') (says_or (says_itself last) (says_le (saved_need x.m) (length save))))

module _ (x : Model) (o : Offsets) (w : From) (final : Bool) (y : List Float) (b : CovParts) (b' : MeanParts) (save : List ℕ) where
  abbrev now : StretchOutcome
  now = stretch_outcome x o w final y b b' save

  abbrev room : Bool
  room = roomy_stretch x final b b' save

  -- ---- what a refusal leaves

  pub record Untouched : Type 0 where
    pub covs : now.cov.parts ≡ b
    pub means : now.mean.parts ≡ b'
    pub saved : now.save ≡ save

  pub keeps : (k : ℕ) → 0 < k → (k ≡ 12 → ⊥) → now.cov.refused ≡ k → Untouched
  unfolding stretch_outcome cov_stretch mean_stretch save_stretch stretch_ending after
  keeps k l n e =
      let f = early _ _ k l n e in
      let ks = map class_of y in
      let s = carried_in x o w in
      record {
        covs = ap (λ (f : Ending). (cov_stretch x f s.past ks b).parts) f;
        means = ap (λ (f : Ending). (mean_stretch x f o s y b').parts) f;
        saved = ap (λ (f : Ending). save_stretch x f o s final y save) f;
      }

  pub blanked : now.cov.refused ≡ 12 → Blank x b b' (now.cov, now.mean) × (now.save ≡ save)
  unfolding stretch_outcome cov_stretch mean_stretch save_stretch stretch_ending after
  blanked e =
      let f = twelfth _ _ (not_twelve x o _ _ _ _ _) e in
      let g = stretch_ending x o (past_in x w) (bad_from x w) final (map class_of y) room in (
        record {
          kinds = blanks g _ b.kinds (kinds_need x) 0 f;
          covs = λ q. blanks g _ (b.part q) (cov_need x q) 0ᶠ f;
          means = λ q. blanks g _ (b' q) (mean_need x q) 0ᶠ f;
        },
        ap (λ (f : Ending). save_stretch x f o (carried_in x o w) final y save) f,
      )

  nothing : (f : Ending) → after f [] [] save ≡ save
  unfolding after
  nothing (turned k) = refl
  nothing silent = refl
  nothing answered = refl

  -- the last one saves nothing
  pub last_keeps : final ≡ true → now.save ≡ save
  unfolding stretch_outcome save_stretch
  last_keeps e = ap (λ (z : Bool). after (stretch_ending x o (past_in x w) (bad_from x w) final (map class_of y) room) (cond z [] (saved_of x.p x.m x.r (went x o (carried_in x o w) y))) [] save) e ∙ nothing (stretch_ending x o (past_in x w) (bad_from x w) final (map class_of y) room)

  -- what was lent past a saved run's length stays
  pub tail_keeps : Ready x o w → drop (saved_need x.m) now.save ≡ drop (saved_need x.m) save
  unfolding stretch_outcome save_stretch stretch_ending after
  tail_keeps ready = go (stretch_ending x o (past_in x w) (bad_from x w) final (map class_of y) room) final refl
    where
      bytes : List ℕ
      bytes = saved_of x.p x.m x.r (went x o (carried_in x o w) y)

      go : (f : Ending) (z : Bool) → stretch_ending x o (past_in x w) (bad_from x w) final (map class_of y) room ≡ f → drop (saved_need x.m) (after f (cond z [] bytes) [] save) ≡ drop (saved_need x.m) save
      go (turned k) z e = refl
      go silent z e = refl
      go answered true e = refl
      go answered false e =
          let l : length bytes ≡ saved_need x.m = saved_length x.p x.m x.r _ (stretch.ended x o w final y b b' save ready (answered_by _ _ e).0) in
          drop_at bytes (drop (length bytes) save) (saved_need x.m) l ∙ ap (λ (n : ℕ). drop n save) l
