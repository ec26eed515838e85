-- `rows::fold_row` meets its contract: each entry is what the call for its lane gave. Assumes nothing.
use borrow.Author.Rules.{rules}
use Rattle.rows.proofs.fold_row.Goals as goal

pub returns : goal.returns
returns c l less = search (rules, c.row_of.ensures l less)
