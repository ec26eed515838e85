use mathlib.Core.Path.{◌≡◌}
use lib.ListN.{length}
use Rattle.resolve.proofs.Gates.{Resolving}
use Rattle.resolve.proofs.resolve_gates.Given as goal

abbrev pub invariant-loop-j : goal.invariant-loop-j
invariant-loop-j l =
    Resolving l.words.text.now l.names.starts.now l.names.count l.words.starts.now l.words.lines.now l.words.count l.heads l.pins l.counts l.j × (length l.pins ≡ length l.initial.pins) × (length l.counts ≡ length l.initial.counts)
