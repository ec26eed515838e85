use Prim.Native.Nat.{◌/◌, ◌≤◌}
use Rattle.area.specs.Layout.{source_word}
use Rattle.area.proofs.EachPin.{KeptPins, Going}
use Rattle.rounding.specs.Rounding.{units_in_one}
use Rattle.work.proofs.split_pins.Given as goal

abbrev pub invariant-loop-i : goal.invariant-loop-i
invariant-loop-i l =
    KeptPins (λ w. w / 2 ≤ units_in_one) l.kept l.words l.bits l.i × Going (source_word l.area) (λ w. w) l.area l.gate l.start l.kept l.words l.bits l.bit l.i
