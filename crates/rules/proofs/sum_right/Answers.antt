-- `rules::sum_right` meets its contract: each test that fails decides. Assumes nothing.
use mathlib.Core.Path.{sym, ◌∙◌}
use borrow.Author.Tests.{eq-eqb, ne_eqb}
use Rattle.area.specs.Rules.{sum_right}
use Rattle.rules.proofs.Parts.{passed, failed}
use Rattle.rules.proofs.sum_right.Goals as goal

pub returns-then-area-sum_low : goal.returns-then-area-sum_low
unfolding sum_right
returns-then-area-sum_low c = sym (failed _ (ne_eqb _ _ (rw (c.sum_low.ensures, c.requires.1) at c.if-area-sum_low.true)))

pub returns-then-area-sum_high : goal.returns-then-area-sum_high
unfolding sum_right
returns-then-area-sum_high c =
    let sum = c.requires.1 in
    sym (passed _ (eq-eqb _ _ (rw (c.sum_low.ensures, sum) at c.if-area-sum_low.false))
    ∙ failed _ (ne_eqb _ _ (rw (c.sum_high.ensures, sum) at c.if-area-sum_high.true)))

pub returns : goal.returns
unfolding sum_right
returns c =
    let sum = c.requires.1 in
    sym (passed _ (eq-eqb _ _ (rw (c.sum_low.ensures, sum) at c.if-area-sum_low.false))
    ∙ passed _ (eq-eqb _ _ (rw (c.sum_high.ensures, sum) at c.if-area-sum_high.false)))
