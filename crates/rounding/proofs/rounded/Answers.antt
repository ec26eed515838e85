-- `rounding::rounded` meets its contract. Assumes nothing.
use Rattle.rounding.proofs.Laws.{without-cases}
use Rattle.rounding.proofs.rounded.Goals as goal

pub returns : goal.returns
returns c = without-cases c.args.sum c.args.count c.requires.count_nonzero
