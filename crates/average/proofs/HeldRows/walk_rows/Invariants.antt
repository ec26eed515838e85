use Rattle.std.proofs.Common.{◌≡◌, ◌*◌}
use Rattle.rows.specs.Rows.{row_length}
use Rattle.average.specs.Walked.{RowsFor}
use Rattle.average.proofs.HeldRows.walk_rows.Given as goal

abbrev pub invariant-loop-number : goal.invariant-loop-number
invariant-loop-number g l =
    RowsFor l.walk.area.now l.walk.unseen.now l.self.rows l.self.number
    × g.S.RowSink.Done l.sink l.walk.area.now (row_length * l.number)
    × (g.S.RowSink.fixed l.sink ≡ g.S.RowSink.fixed l.initial.sink)
