-- What may run by the whole lists may run by their later parts, whatever periods those begin with: so a list that is counted wrongly fails at the
-- promise, and not here.
use mathlib.Core.Path.{◌≡◌}
use Prim.Native.Nat.{ℕ, ◌*◌, ◌≤◌}
use native.Mathlib.Nat.{mul-pos}
use mathlib.Core.List.{List}
use lib.ListN.{length}
use lib.Ieee.{Float}
use Rattle.definition.specs.Inputs.{Model, Offsets, noise}
use Rattle.definition.specs.Outcome.{CovParts, MeanParts, kinds_need, cov_need, mean_need}
use Rattle.laws.specs.Later.{later_from, later_chosen}
use Rattle.model.specs.Lists.{Whole, whole_list}
use Rattle.promise.specs.declared.Answer.{Answer}
use Rattle.forward.specs.View.{FitOn}
use Rattle.onward.specs.Later.{with_lists}

module _ {x : Model} {o : Offsets} {y : ℕ} {rqr : List Float} {w : CovParts} {w' : MeanParts} {size done : ℕ} {before : Answer} (f : FitOn x o y rqr w w' size done before) where
  pub of_designs_lem : {k : ℕ} → k ≤ 4096 → (x.p ≤ 8) × (x.m ≤ 8) × (k ≤ 4096) × ((length x.z_list ≡ 0 → ⊥) → Whole (x.p * x.m) (length x.z_list))
  of_designs_lem h = (f.sizes.p8, f.sizes.m8, h, whole_list f.inputs.design)

  pub of_steps : {k : ℕ} → k ≤ 4096 → (x.m ≤ 8) × (x.m ≤ 8) × (k ≤ 4096) × ((length x.t_list ≡ 0 → ⊥) → Whole (x.m * x.m) (length x.t_list))
  of_steps h = (f.sizes.m8, f.sizes.m8, h, whole_list f.inputs.transition)

  pub fit_later : (a b : ℕ) → FitOn (with_lists x (later_from (x.p * x.m) a x.z_list) (later_from (x.m * x.m) b x.t_list)) o y rqr w w' size done before
  unfolding noise kinds_need cov_need mean_need
  fit_later a b =
      let i = f.inputs in
      let s = f.sizes in
      record {
        sizes = s;
        inputs =
            record {
              design = later_chosen (x.p * x.m) a x.z_once x.z_list (mul-pos s.p0 s.m0) i.design;
              h = i.h;
              transition = later_chosen (x.m * x.m) b x.t_once x.t_list (mul-pos s.m0 s.m0) i.transition;
              rr = i.rr;
              q = i.q;
              c = i.c;
              d = i.d;
              a1 = i.a1;
              p_star = i.p_star;
              flags = i.flags;
            };
        readings = f.readings;
        noise = f.noise;
        room = record { kinds = f.room.kinds; cov = f.room.cov; mean = f.room.mean };
        state = f.state;
        early = f.early;
        tallies = f.tallies;
      }
