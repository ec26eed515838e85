use mathlib.Core.List.{List}
use mathlib.Core.Path.{◌≡◌}
use lib.ListN.{get_or}
use Rattle.area.specs.Layout.{inputs, pin}
use Prim.Native.Nat.{ℕ, ◌≤◌, ◌<◌}
use Rattle.sets.proofs.reads_marked.Given as goal

-- a pin that reads no marked gate
abbrev pub Clear : List ℕ → List ℕ → ℕ → ℕ → Type 0
Clear area marks gate i = inputs area ≤ pin area gate i → get_or marks (pin area gate i) 0 ≡ 0

abbrev pub invariant-loop-i : goal.invariant-loop-i
invariant-loop-i l = (k : ℕ) → k < l.i → Clear l.area l.marks l.gate k
