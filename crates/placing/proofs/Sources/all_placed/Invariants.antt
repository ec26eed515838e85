use Prim.Native.Nat.{◌+◌, ◌-◌}
use mathlib.Core.Path.{◌≡◌}
use Rattle.placing.specs.Placing.{all_placed, entries}
use Rattle.placing.proofs.Sources.all_placed.Given as goal

abbrev pub invariant-loop-i : goal.invariant-loop-i
invariant-loop-i l =
    all_placed l.self.inputs l.place (entries l.self.pins.now l.i (l.from + l.many - l.i)) ≡ all_placed l.self.inputs l.place (entries l.self.pins.now l.from l.many)
