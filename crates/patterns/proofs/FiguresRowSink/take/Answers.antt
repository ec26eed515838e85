-- `patterns::Figures` keeps each row in its place. Assumes nothing.
use Rattle.std.proofs.Common.{◌≡◌, ◌+◌, ◌-◌, arith}
use Rattle.rows.specs.Rows.{row_length}
use Rattle.patterns.proofs.Known.{row-known}
use Rattle.patterns.proofs.FiguresRowSink.take.Goals as goal

pub slice_bounds-copy_from_slice-end : goal.slice_bounds-copy_from_slice-end
slice_bounds-copy_from_slice-end c = omega (arith, c.requires.done.1.long, c.requires.inside.1)

pub returns-clause-done_2 : goal.returns-clause-done_2
returns-clause-done_2 c =
    let a = c.args in
    let size : a.start + 32 - a.start ≡ row_length = omega arith in
    rw (size, c.copy_from_slice.ensures.after)
    (row-known a.area.now a.self.now.figures.now a.row a.start (omega (arith, c.requires.done.1.long, c.requires.inside.1)) (omega arith) c.requires.done.1 c.requires.right.0)
