-- `rules::counts_in_range` meets its contract: each test that fails decides. Assumes nothing.
use mathlib.Core.Path.{sym, ◌∙◌}
use borrow.Author.Tests.{le-leb, lt-leb}
use Rattle.area.specs.Rules.{counts_in_range}
use Rattle.rules.proofs.Parts.{passed, failed}
use Rattle.rules.proofs.counts_in_range.Goals as goal

pub returns-then-inputs-gt-MOST_INPUTS : goal.returns-then-inputs-gt-MOST_INPUTS
unfolding counts_in_range
returns-then-inputs-gt-MOST_INPUTS c = sym (failed _ (lt-leb _ _ c.if-inputs-gt-MOST_INPUTS.true))

pub returns-then-gates-gt-MOST_GATES : goal.returns-then-gates-gt-MOST_GATES
unfolding counts_in_range
returns-then-gates-gt-MOST_GATES c = sym (passed _ (le-leb _ _ c.if-inputs-gt-MOST_INPUTS.false) ∙ failed _ (lt-leb _ _ c.if-gates-gt-MOST_GATES.true))

pub returns-then-outputs-lt1 : goal.returns-then-outputs-lt1
unfolding counts_in_range
returns-then-outputs-lt1 c = sym (passed _ (le-leb _ _ c.if-inputs-gt-MOST_INPUTS.false) ∙ passed _ (le-leb _ _ c.if-gates-gt-MOST_GATES.false) ∙ failed _ (lt-leb _ _ c.if-outputs-lt1.true))

pub returns : goal.returns
unfolding counts_in_range
returns c = sym (passed _ (le-leb _ _ c.if-inputs-gt-MOST_INPUTS.false) ∙ passed _ (le-leb _ _ c.if-gates-gt-MOST_GATES.false) ∙ passed _ (le-leb _ _ c.if-outputs-lt1.false))
