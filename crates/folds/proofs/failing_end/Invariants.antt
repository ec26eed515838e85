use Prim.Native.Nat.{ℕ, ◌≤◌, ◌<◌}
use Rattle.area.specs.Layout as layout
use Rattle.area.specs.Layout.{inputs, pin_count, pin}
use Rattle.folds.proofs.failing_end.Given as goal

abbrev pub invariant-loop-last : goal.invariant-loop-last
invariant-loop-last l =
    (i : ℕ) → l.last ≤ i → i < pin_count l.area l.gate → pin l.area l.gate i < layout.inputs l.area
