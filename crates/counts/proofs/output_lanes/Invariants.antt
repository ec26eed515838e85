use lib.ListN.{take}
use Rattle.area.specs.Layout as layout
use Rattle.signals.specs.Signals.{InEachLane}
use Rattle.counts.specs.Counts.{some_changed}
use Rattle.counts.proofs.output_lanes.Given as goal

abbrev pub invariant-loop-k : goal.invariant-loop-k
invariant-loop-k l = InEachLane l.lanes (some_changed l.changed (take l.k (layout.output_words l.area)))
