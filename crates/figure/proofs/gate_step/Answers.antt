use Rattle.figure.specs.Figure.{gate_step}
use borrow.Author.Rules.{rules}
use Rattle.figure.proofs.gate_step.Goals as goal

pub returns : goal.returns
unfolding gate_step
returns c = search rules
