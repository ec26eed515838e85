use Prim.Native.Nat.{◌+◌, ◌≤◌}
use mathlib.Core.Path.{◌≡◌}
use lib.Dec.{leb}
use lib.ListN.{get_or}
use Rattle.lists.specs.Lists.{sum_below}
use Rattle.figure.specs.Figure.{bit_of}
use Rattle.errors.proofs.further_gates.Given as goal

abbrev pub invariant-loop-i : goal.invariant-loop-i
invariant-loop-i l =
    (l.gates ≤ l.i) × (l.gates ≡ sum_below l.i (λ k. bit_of (leb l.inputs (get_or l.area (l.start + k) 0))))
