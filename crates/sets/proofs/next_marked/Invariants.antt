use Prim.Native.Nat.{◌≤◌}
use mathlib.Core.Path.{◌≡◌}
use lib.ListN.{get_or}
use Rattle.sets.specs.Branches.{NextMarked}
use Rattle.sets.proofs.next_marked.Given as goal

abbrev pub invariant-loop-gate : goal.invariant-loop-gate
invariant-loop-gate l =
    (l.gate ≤ l.gates) × NextMarked l.marks l.next l.inputs l.gates l.gate × (l.after ≡ get_or l.next l.gate 0)
