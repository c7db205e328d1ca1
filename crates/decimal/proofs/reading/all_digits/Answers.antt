-- By what `all` says.
use Rattle.std.proofs.Common.{rules}
use Rattle.std.proofs.lemmas.Iterator.{YieldsList-from_slice}
use Rattle.std.proofs.lemmas.Iterator.Search.{all_from_yields_List}
use Rattle.decimal.specs.Reading.{is_digit, all_digits}
use Rattle.decimal.proofs.Numbers.{digit_is}
use Rattle.decimal.proofs.reading.all_digits.Goals as goal

pub returns : goal.returns
unfolding all_digits
returns c = all_from_yields_List is_digit _ _ _ c.all.ensures.ran (YieldsList-from_slice c.args.s.now cc) (λ x r q k. search (rules, digit_is))
