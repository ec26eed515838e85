use Rattle.figure.specs.Figure.{output_step}
use borrow.Author.Rules.{rules}
use Rattle.figure.proofs.output_step.Goals as goal

pub returns : goal.returns
unfolding output_step
returns c = search rules
