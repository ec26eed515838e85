-- `decimals::shown_error` meets its contract: the numbers of the definition, divided by 2^10. Assumes nothing.
use Rattle.decimals.specs.Decimals.{shown_error, round_up}
use borrow.Author.Rules.{rules}
use Rattle.decimals.proofs.shown_error.Goals as goal

pub returns : goal.returns
unfolding shown_error round_up
returns c = search rules
