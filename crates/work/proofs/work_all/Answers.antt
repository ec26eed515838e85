-- `work::work_all` meets its contract. Assumes nothing.
use mathlib.Core.Path.{ap, ◌∙◌}
use native.Mathlib.Omega.{arith}
use Rattle.area.specs.Layout.{gates}
use Rattle.work.specs.Work.{work_reliability, work_all}
use Rattle.work.proofs.Frame.{gates-walk}
use Rattle.work.proofs.Sound.{workable-walk}
use Rattle.work.proofs.work_all.Goals as goal

pub work_reliability-requires : goal.work_reliability-requires
work_reliability-requires c =
    rw c.work_gates.ensures (workable-walk (gates-walk c.args.area.now 0 (gates c.args.area.now)) (omega arith) c.requires)

pub returns : goal.returns
unfolding work_all
returns c = c.work_reliability.ensures ∙ ap work_reliability c.work_gates.ensures
