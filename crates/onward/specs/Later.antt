-- The model of a run that goes on: with the later parts of its lists.
use Rattle.std.specs.Prelude.{ℕ, ◌*◌, List, Float}
use Rattle.definition.specs.Inputs.{Model}
use Rattle.laws.specs.Later.{later_from}

-- the model with other lists of designs and of transitions, and with the later parts of its own
abbrev pub with_lists : Model → List Float → List Float → Model
with_lists x zs ts =
    record {
      p = x.p;
      m = x.m;
      r = x.r;
      n = x.n;
      z_once = x.z_once;
      z_list = zs;
      repeats = x.repeats;
      h = x.h;
      t_once = x.t_once;
      t_list = ts;
      rr = x.rr;
      q = x.q;
      flags = x.flags;
      p_star = x.p_star;
    }

abbrev pub later_of : Model → ℕ → Model
later_of x done = with_lists x (later_from (x.p * x.m) done x.z_list) (later_from (x.m * x.m) done x.t_list)
