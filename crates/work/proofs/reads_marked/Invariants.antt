use mathlib.Core.Path.{◌≡◌}
use lib.ListN.{drop}
use Rattle.area.specs.Layout.{used_pins}
use Rattle.work.specs.Work.{reads_marked}
use Rattle.work.proofs.reads_marked.Given as goal

abbrev pub invariant-loop-i : goal.invariant-loop-i
invariant-loop-i l =
    reads_marked l.marks (drop l.i (used_pins l.area l.gate)) ≡ reads_marked l.marks (used_pins l.area l.gate)
