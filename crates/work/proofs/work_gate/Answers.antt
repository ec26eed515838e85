-- `work::work_gate` meets its contract. Assumes nothing.
use mathlib.Core.Path.{ap, ◌∙◌}
use lib.ListN.{set}
use Rattle.area.specs.Layout.{figure_index}
use Rattle.work.specs.Work.{work_gate}
use Rattle.work.proofs.work_gate.Goals as goal

pub returns : goal.returns
unfolding work_gate
returns c =
    c.store_figure.ensures
    ∙ ap (set c.args.area.now (figure_index c.args.gate)) c.gate_figure-word.ensures
