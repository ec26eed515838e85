use mathlib.Core.Path.{◌≡◌}
use mathlib.Core.List.{map}
use lib.ListN.{length, take}
use Rattle.rounding.specs.Rounding.{units_in_one}
use Rattle.figure.specs.Steps.{differs}
use Rattle.figure.proofs.start_values.Given as goal

abbrev pub invariant-loop-i : goal.invariant-loop-i
invariant-loop-i l =
    (length l.values ≡ 16) × (take l.i l.values ≡ map (differs units_in_one l.table l.right) (take l.i l.indices))
