-- The number's bytes are put at the place.
use mathlib.Core.Path.{refl, ◌∙◌}
use native.Mathlib.Omega.{arith}
use Rattle.saved.proofs.Digits.{turned_eight}
use Rattle.saved.proofs.Put.{bytes_put}
use Rattle.saved.proofs.numbers.put_eight.Goals as goal

pub returns : goal.returns
returns c =
    bytes_put c.args.at 8 _ c.args.v c.args.out.now _ _ (omega arith) refl (c.to_le_bytes.ensures ∙ turned_eight c.args.v _ c.swap_bytes.ensures) c.copy_from_slice.ensures.after
