use Prim.Native.Nat.{◌≤◌}
use mathlib.Core.List.{[]}
use Rattle.netlist.specs.declared.Method.TheVariants.{Mask}
use Rattle.area.specs.Layout as layout
use Rattle.area.specs.Net.{net_of}
use Rattle.counts.specs.Counts.{MasksFrom}
use Rattle.counts.proofs.Added.{CountedIn}
use Rattle.counts.proofs.mask_gates.Given as goal

abbrev pub invariant-loop-gate : goal.invariant-loop-gate
invariant-loop-gate l =
    (l.gate ≤ layout.gates l.area) × MasksFrom (net_of l.area [] []) l.patterns l.gate l.masks
    × CountedIn Mask (net_of l.area [] []) l.patterns l.initial.counts l.gate (layout.gates l.area) l.counts

abbrev pub decreases-loop-gate : goal.decreases-loop-gate
decreases-loop-gate l = l.gate
