use Prim.Native.Nat.{◌+◌, ◌*◌, ◌≤◌}
use mathlib.Core.List.{[]}
use mathlib.Core.Path.{◌≡◌}
use Rattle.lists.specs.Lists.{sum_below}
use Rattle.bound.specs.Sharp.{further_gates}
use Rattle.area.specs.Layout.{inputs, output_words}
use Rattle.image.specs.Loading.{image_kinds}
use Rattle.errors.proofs.Charges.{charge}
use Rattle.errors.proofs.error_halves.Given as goal

abbrev pub invariant-loop-gate : goal.invariant-loop-gate
invariant-loop-gate l =
    (l.halves ≤ 64 + 6 * l.gate) × (l.halves ≡ sum_below l.gate (charge l.area (image_kinds l.image) []) + further_gates (inputs l.area) (output_words l.area))
