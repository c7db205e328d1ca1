-- What a kernel made, and its word on it: whether all of it is finite. Document 02's request h asks for the word of the product, mat_vec, outer_sub and axpy:
-- one record serves them all, so that a caller's proof names the two parts alike. The word is of what is wanted, and what was made is that.
use Rattle.std.specs.Prelude.{◌≡◌, Bool, not, List, Float}
use Rattle.std.proofs.Common.{ap, ◌∙◌}
use Rattle.definition.specs.Refusals.{not_finite}

pub record Told (want got : List Float) (word : Bool) : Type 0 where
  pub result : got ≡ want
  pub finite : word ≡ not (not_finite want)

-- the word of a look through what was made
pub told : {want got : List Float} {found : Bool} → got ≡ want → found ≡ not_finite got → Told want got (not found)
told e look = record { result = e; finite = ap not (look ∙ ap not_finite e) }
