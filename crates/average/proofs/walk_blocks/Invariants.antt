use Rattle.std.proofs.Common.{◌≡◌, ◌*◌}
use Rattle.signals.specs.Signals.{lane_count}
use Rattle.average.specs.Walked.{RowsFor}
use Rattle.average.proofs.walk_blocks.Given as goal

abbrev pub invariant-loop-block : goal.invariant-loop-block
invariant-loop-block g l =
    RowsFor l.area l.unseen l.held.rows l.held.number
    × g.S.RowSink.Done l.sink l.area (lane_count * l.block)
    × (g.S.RowSink.fixed l.sink ≡ g.S.RowSink.fixed l.initial.sink)
