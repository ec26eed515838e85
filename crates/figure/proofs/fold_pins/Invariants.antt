-- Before a turn the pins below it are folded.
use Prim.Native.Nat.{ℕ, ◌-◌, ◌^◌, ◌≤◌, ◌<◌}
use mathlib.Core.Path.{◌≡◌}
use mathlib.Core.List.{map}
use lib.ListN.{get_or, take, drop}
use Rattle.rounding.specs.Rounding.{units_in_one}
use Rattle.figure.specs.Figure.{failure_of, fold_pins}
use Rattle.figure.proofs.fold_pins.Given as goal

abbrev pub invariant-loop-pin : goal.invariant-loop-pin
invariant-loop-pin g l = record {
  value : fold_pins units_in_one (map failure_of (drop l.pin (take g.row.COUNT l.words))) (take (2 ^ (g.row.COUNT - l.pin)) l.values)
      ≡ fold_pins units_in_one (map failure_of (take g.row.COUNT l.words)) (take (2 ^ g.row.COUNT) l.fn.values);
  fits : (i : ℕ) → i < 2 ^ (g.row.COUNT - l.pin) → get_or l.values i 0 ≤ units_in_one;
}
