-- `statements::is_row` meets its contract. Assumes nothing.
use mathlib.Core.Path.{◌≡◌}
use borrow.Author.Rules.{rules}
use borrow.Author.Tests.{eq-eqb, ne_eqb, tests}
use Rattle.std.specs.List.{list_all}
use Rattle.std.proofs.lemmas.Iterator.{YieldsList-from_slice}
use Rattle.std.proofs.lemmas.Iterator.Search.{all_from_yields_List}
use Rattle.statements.specs.Fit.{is_row, row_byte}
use Rattle.statements.proofs.Fitting.{row_bytes-is}
use Rattle.statements.proofs.is_row.Goals as goal

pub returns-then-w-width : goal.returns-then-w-width
unfolding is_row
returns-then-w-width c =
    let all : c.all.result ≡ list_all row_byte c.args.w.now =
    all_from_yields_List row_byte _ _ c.all.result c.all.ensures.ran (YieldsList-from_slice c.args.w.now cc) (λ x b q k. search (rules, tests)) in
    simp (eq-eqb _ _ c.if-w-width.true, row_bytes-is) all

pub returns-else-w-width : goal.returns-else-w-width
unfolding is_row
returns-else-w-width c = simp (ne_eqb _ _ c.if-w-width.false)
