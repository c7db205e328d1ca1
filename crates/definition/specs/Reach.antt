-- How far a list of designs and a list of transitions must reach (document 02, requests d and g), by computation: calls of one state and one element,
-- and the refusal of each.
use Rattle.std.specs.Prelude.{ℕ, Bool, true, false, List, [], ◌∷◌, ◌++◌, replicate, T, Float}
use Rattle.std.specs.Float.{nan}
use Rattle.definition.specs.Num.{0ᶠ, 1ᶠ}
use Rattle.definition.specs.Inputs.{Model, Offsets}
use Rattle.definition.specs.Refusals.{refusal}
use Rattle.definition.specs.Stretch.{outside_stretch, stretch_tests, stretch_refusal}
use Rattle.definition.specs.Computed.{hold, opened}

-- so many periods, a constant design or a list, marked or not, H, and a constant transition or a list
record Call : Type 0 where
  n : ℕ
  z_once : List Float
  z_list : List Float
  repeats : Bool
  h : List Float
  t_once : List Float
  t_list : List Float

abbrev model_of : Call → Model
model_of k =
    record {
      p = 1;
      m = 1;
      r = 1;
      n = k.n;
      z_once = k.z_once;
      z_list = k.z_list;
      repeats = k.repeats;
      h = k.h;
      t_once = k.t_once;
      t_list = k.t_list;
      rr = 1ᶠ ∷ [];
      q = 1ᶠ ∷ [];
      flags = 0 ∷ [];
      p_star = 1ᶠ ∷ [];
    }

abbrev no_offsets : Offsets
no_offsets = let o = 0ᶠ ∷ [] in record { c = o; d = o; a1 = o }

abbrev listed : ℕ → ℕ → Bool → List Float → Call
listed n k repeats h = record { n = n; z_once = []; z_list = replicate k 1ᶠ; repeats = repeats; h = h; t_once = 1ᶠ ∷ []; t_list = [] }

-- fourteen periods, a constant design, and these transitions
abbrev constant : Bool → List Float → List Float → Call
constant repeats once list = record { n = 14; z_once = 1ᶠ ∷ []; z_list = []; repeats = repeats; h = 1ᶠ ∷ []; t_once = once; t_list = list }

-- so many periods, so many designs and so many transitions, marked or not
abbrev both : ℕ → ℕ → ℕ → Bool → List Float → Call
both n k j repeats h = record { n = n; z_once = []; z_list = replicate k 1ᶠ; repeats = repeats; h = h; t_once = []; t_list = replicate j 1ᶠ }

-- ---- the filter's call and the smoother's

abbrev came : Call → List ℕ
came k = refusal (model_of k) no_offsets k.n false true ∷ []

abbrev rows : List (List ℕ × List ℕ)
rows =
    let one = 1ᶠ ∷ [] in
    -- for fourteen periods: twelve designs are refused unless marked, thirteen too; fourteen do, and more do
    (came (listed 14 12 false one), 14 ∷ [])
    ∷ (came (listed 14 12 true one), 0 ∷ [])
    ∷ (came (listed 14 13 false one), 14 ∷ [])
    ∷ (came (listed 14 14 false one), 0 ∷ [])
    ∷ (came (listed 14 15 false one), 0 ∷ [])
    -- the marker is void for a constant design
    ∷ (came (constant false one []), 0 ∷ [])
    ∷ (came (constant true one []), 0 ∷ [])
    -- 14 stands right after 2: no H at all is told before it, an H that is no number after it
    ∷ (came (listed 14 12 false []), 2 ∷ [])
    ∷ (came (listed 14 12 false (nan ∷ [])), 14 ∷ [])
    ∷ (came (listed 14 12 true (nan ∷ [])), 3 ∷ [])
    -- thirteen transitions are refused 2, marked too; fourteen do, and more do, up to 4096; both kinds of T, and none, are refused 2
    ∷ (came (constant false [] (replicate 13 1ᶠ)), 2 ∷ [])
    ∷ (came (constant true [] (replicate 13 1ᶠ)), 2 ∷ [])
    ∷ (came (constant false [] (replicate 14 1ᶠ)), 0 ∷ [])
    ∷ (came (constant false [] (replicate 4096 1ᶠ)), 0 ∷ [])
    ∷ (came (constant false [] (replicate 4097 1ᶠ)), 2 ∷ [])
    ∷ (came (constant false one (replicate 14 1ᶠ)), 2 ∷ [])
    ∷ (came (constant false [] []), 2 ∷ [])
    -- where both lists are short it is 2; then 14, then 3
    ∷ (came (both 14 13 13 false (nan ∷ [])), 2 ∷ [])
    ∷ (came (both 14 13 14 false (nan ∷ [])), 14 ∷ [])
    ∷ (came (both 14 14 14 false (nan ∷ [])), 3 ∷ [])
    -- 3 looks at every transition, past the run's end too
    ∷ (came (constant false [] (replicate 14 1ᶠ ++ (nan ∷ []))), 3 ∷ [])
    ∷ []

pub reaches : T (hold rows)
unfolding opened
reaches = tt

-- ---- a stretch, after so many periods done, with saved bytes that are refused or not

abbrev stretched : ℕ → Bool → Call → List ℕ
stretched done bad k = stretch_refusal (model_of k) no_offsets k.n false true bad done ∷ []

abbrev stretch_rows : List (List ℕ × List ℕ)
stretch_rows =
    let one = 1ᶠ ∷ [] in
    -- twelve designs are enough for ten periods and two more, not for three more, unless marked; for no period at all one is
    (stretched 10 false (listed 2 12 false one), 0 ∷ [])
    ∷ (stretched 10 false (listed 3 12 false one), 14 ∷ [])
    ∷ (stretched 10 false (listed 3 12 true one), 0 ∷ [])
    ∷ (stretched 0 false (listed 0 1 false one), 0 ∷ [])
    -- here 14 stands right after 15: both an H that is no number and bad bytes are told before it
    ∷ (stretched 10 false (listed 3 12 false (nan ∷ [])), 3 ∷ [])
    ∷ (stretched 10 true (listed 3 12 false one), 15 ∷ [])
    -- so does T's 2, which stands between them
    ∷ (stretched 10 false (both 2 12 12 false one), 0 ∷ [])
    ∷ (stretched 10 false (both 3 13 12 false one), 2 ∷ [])
    ∷ (stretched 10 false (both 3 12 12 false one), 2 ∷ [])
    ∷ (stretched 10 false (both 3 12 13 false one), 14 ∷ [])
    ∷ (stretched 10 false (both 3 13 12 false (nan ∷ [])), 3 ∷ [])
    ∷ (stretched 10 true (both 3 13 12 false one), 15 ∷ [])
    ∷ []

pub stretch_reaches : T (hold stretch_rows)
unfolding opened outside_stretch stretch_tests stretch_refusal
stretch_reaches = tt
