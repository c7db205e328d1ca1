-- Document 02, request g: a call reads the same of a constant T and of a list of k copies of it (`same`). So it has one outcome, by
-- proofs/Copies.antt.
use Rattle.std.specs.Prelude.{◌≡◌, refl, ℕ, suc, ◌*◌, ◌/◌, ◌≤◌, ◌<◌, ◌||◌, length, Float}
use Rattle.std.proofs.Math.Path.{sym}
use Rattle.std.proofs.Common.{ap, ◌∙◌, mul-pos, mul-div_cancel, arith}
use mathlib.Core.List.{List, []}
use borrow.Author.Tests.{eq-eqb, ne_eqb, le-leb}
use Rattle.definition.specs.Run.{any_of}
use Rattle.definition.specs.Inputs.{Model, part_from}
use Rattle.definition.specs.Refusals.{part_fits, outrun, unfit, not_finite, bad_system}
use Rattle.laws.specs.Any.{or_false}
use Rattle.laws.specs.Entries.{copies, any_copies, length-copies, part_of_copies}
use Rattle.demands.specs.Refusals.{not_outrun}

-- the model with these two parts of T
abbrev pub with_t : List Float → List Float → Model → Model
with_t once list x = record { p = x.p; m = x.m; r = x.r; n = x.n; z_once = x.z_once; z_list = x.z_list; repeats = x.repeats; h = x.h; t_once = once; t_list = list; rr = x.rr; q = x.q; flags = x.flags; p_star = x.p_star }

-- ---- all that a call reads of T is the same of one matrix and of its k copies

pub record Same (x : Model) (t : List Float) (k periods : ℕ) : Type 0 where
  pub fits : part_fits (x.m * x.m) 0 (length (copies k t)) ≡ part_fits (x.m * x.m) (length t) 0
  pub reach : outrun (x.m * x.m) (length (copies k t)) periods ≡ outrun (x.m * x.m) 0 periods
  pub finite : bad_system x.z_once x.z_list x.h [] (copies k t) x.rr x.q ≡ bad_system x.z_once x.z_list x.h t [] x.rr x.q
  pub each : part_from (x.m * x.m) [] (copies k t) ≡ part_from (x.m * x.m) t []

module _ (x : Model) (t : List Float) (whole : length t ≡ x.m * x.m) (m0 : 0 < x.m) (j : ℕ) (few : suc j ≤ 4096) where
  abbrev mm : ℕ
  mm = x.m * x.m

  mm0 : 0 < mm
  mm0 = mul-pos m0 m0

  long : length (copies (suc j) t) ≡ suc j * mm
  long = length-copies (suc j) mm t whole

  many : length (copies (suc j) t) / mm ≡ suc j
  many = ap (λ (i : ℕ). i / mm) long ∙ mul-div_cancel (suc j) mm0

  pub same : (periods : ℕ) → periods ≤ suc j → Same x t (suc j) periods
  unfolding part_fits bad_system any_of part_from
  same periods h =
      let all = not_finite x.z_once || not_finite x.z_list || not_finite x.h in
      record {
        fits = rw (ne_eqb 0 mm (λ e. omega (arith, mm0)), many, eq-eqb _ _ long, ne_eqb (suc j) 0 (λ e. omega arith), le-leb (suc j) 4096 few, eq-eqb _ _ whole);
        reach = not_outrun mm (copies (suc j) t) periods (λ s. omega (arith, many, s.1)) ∙ sym (not_outrun mm [] periods (λ s. s.0 refl));
        finite = rw (or_false all, any_copies unfit t j, or_false (all || not_finite t));
        each = λ i n. part_of_copies mm j [] t mm0 whole n i;
      }
