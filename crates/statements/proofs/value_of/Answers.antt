-- `statements::value_of` meets its contract. Assumes nothing.
use mathlib.Core.Path.{sym, ◌∙◌}
use Rattle.statements.proofs.Fitting.{is_zero, is_one, is-neither}
use Rattle.statements.proofs.value_of.Goals as goal

pub returns-then-same : goal.returns-then-same
returns-then-same c = is_zero c.args.w.now (sym c.same.ensures ∙ c.if-same.true)

pub returns-then-same-2 : goal.returns-then-same-2
returns-then-same-2 c = is_one c.args.w.now (sym c.same.ensures ∙ c.if-same.false) (sym c.same-2.ensures ∙ c.if-same-2.true)

pub returns : goal.returns
returns c = is-neither c.args.w.now (sym c.same.ensures ∙ c.if-same.false) (sym c.same-2.ensures ∙ c.if-same-2.false)
