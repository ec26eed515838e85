-- `rules::judge_sum` meets its contract. Assumes nothing.
use mathlib.Core.Path.{sym, ◌∙◌}
use Rattle.rules.proofs.Parts.{none, last-refused}
use Rattle.refusal.specs.declared.Cause.TheVariants.{AreaRule}
use Rattle.rules.proofs.judge_sum.Goals as goal

pub returns-then-sum_right : goal.returns-then-sum_right
returns-then-sum_right c = sym (none AreaRule 0 (sym c.sum_right.ensures ∙ c.if-sum_right.true))

pub returns-else-sum_right : goal.returns-else-sum_right
returns-else-sum_right c = sym (last-refused AreaRule 0 (sym c.sum_right.ensures ∙ c.if-sum_right.false))
