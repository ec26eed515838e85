-- After so many turns the last pins are spread.
use Prim.Native.Nat.{◌^◌}
use mathlib.Core.Path.{◌≡◌}
use mathlib.Core.List.{[], ◌∷◌}
use lib.ListN.{take}
use Rattle.figure.specs.Steps.{spread_pins}
use Rattle.figure.proofs.Pins.{last_pins}
use Rattle.figure.proofs.spread_pins.Given as goal

abbrev pub invariant-loop-pin : goal.invariant-loop-pin
invariant-loop-pin g l = take (2 ^ l.pin) l.at ≡ spread_pins (last_pins g.row.COUNT l.pin l.words l.bits) (l.start ∷ [])
