-- `rules::outputs_below` meets its contract: the output words by their start and end. Assumes nothing.
use mathlib.Core.Path.{ap, ◌∙◌}
use Rattle.lists.specs.Lists.{all_below}
use Rattle.rules.proofs.Facts.{middle}
use Rattle.rules.proofs.outputs_below.Goals as goal

pub returns : goal.returns
returns c =
    let ends = rw (c.needed-end.ensures, c.outputs_index.ensures, c.gates-gates.ensures, c.outputs.ensures) at c.all_below.ensures in
    rw c.inputs.ensures at ends ∙ ap (all_below _) (middle c.args.area.now)
