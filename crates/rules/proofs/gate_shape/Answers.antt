-- `rules::gate_shape` meets its contract: each test that fails decides. Assumes nothing.
use mathlib.Core.Path.{sym, ◌∙◌}
use borrow.Author.Tests.{le-leb, lt-leb}
use Rattle.area.specs.Rules.{gate_shape}
use Rattle.rules.proofs.Parts.{yes, no, passed, failed}
use Rattle.rules.proofs.gate_shape.Goals as goal

pub returns-then-count-gt-MOST_PINS : goal.returns-then-count-gt-MOST_PINS
unfolding gate_shape
returns-then-count-gt-MOST_PINS c = sym (failed _ (lt-leb _ _ c.if-count-gt-MOST_PINS.true))

pub returns-then-not-table_fits : goal.returns-then-not-table_fits
unfolding gate_shape
returns-then-not-table_fits c = sym (passed _ (le-leb _ _ c.if-count-gt-MOST_PINS.false) ∙ failed _ (no c.table_fits.ensures c.if-not-table_fits.true))

pub returns : goal.returns
unfolding gate_shape
returns c =
    let table-passed = yes c.table_fits.ensures c.if-not-table_fits.false in
    c.unused_zero.ensures ∙ sym (passed _ (le-leb _ _ c.if-count-gt-MOST_PINS.false) ∙ passed _ table-passed)
