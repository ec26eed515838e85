-- `work::work_reliability` meets its contract. Assumes nothing.
use mathlib.Core.Path.{ap}
use lib.ListN.{set}
use Rattle.area.specs.Layout.{reliability_index}
use Rattle.work.specs.Work.{work_reliability}
use Rattle.work.proofs.work_reliability.Goals as goal

pub returns : goal.returns
unfolding work_reliability
returns c = ap (set c.args.area.now reliability_index) c.reliability_now-reliability.ensures
