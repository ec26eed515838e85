use mathlib.Core.List.{[]}
use Rattle.netlist.specs.declared.Method.TheVariants.{Flip}
use Rattle.area.specs.Net.{net_of}
use Rattle.counts.specs.Counts.{Unchanged}
use Rattle.counts.proofs.Added.{CountedIn}
use Rattle.counts.proofs.flip_gates.Given as goal

abbrev pub invariant-loop-gate : goal.invariant-loop-gate
invariant-loop-gate l =
    Unchanged l.changed × CountedIn Flip (net_of l.area [] []) l.patterns l.initial.counts 0 l.gate l.counts
