-- `figure::difference` meets its contract. Assumes nothing.
use mathlib.Core.Path.{sym, ◌∙◌}
use borrow.Author.Tests.{eq-eqb, ne_eqb}
use Rattle.figure.proofs.difference.Goals as goal

pub returns-then-answer_at-right : goal.returns-then-answer_at-right
returns-then-answer_at-right c = simp (eq-eqb _ _ (sym c.answer_at.ensures ∙ c.if-answer_at-right.true))

pub returns-else-answer_at-right : goal.returns-else-answer_at-right
returns-else-answer_at-right c = simp (ne_eqb _ _ (rw c.answer_at.ensures at c.if-answer_at-right.false))
