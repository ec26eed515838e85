use Prim.Native.Nat.{◌*◌}
use mathlib.Core.Path.{◌≡◌}
use lib.ListN.{length, take}
use Rattle.figure.specs.Steps.{spread_step}
use Rattle.figure.proofs.spread_pin.Given as goal

abbrev pub invariant-loop-i : goal.invariant-loop-i
invariant-loop-i l =
    (length l.spread ≡ 16) × (take (2 * l.i) l.spread ≡ spread_step l.right l.wrong (take l.i l.indices))
