-- `rows::first_row` meets its contract: each entry is what the call for its lane gave. Assumes nothing.
use borrow.Author.Rules.{rules}
use Rattle.signals.specs.Signals.{lane}
use Rattle.rows.proofs.first_row.Goals as goal

pub returns : goal.returns
unfolding lane
returns c l less = search (rules, c.row_of.ensures l less)
