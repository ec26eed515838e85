use Prim.Native.Nat.{◌+◌}
use mathlib.Core.List.{[]}
use Rattle.area.specs.Layout as layout
use Rattle.area.specs.Net.{net_of}
use Rattle.signals.specs.Signals.{right_in, WordsHold}
use Rattle.signals.proofs.right_words.Given as goal

abbrev pub invariant-loop-gate : goal.invariant-loop-gate
invariant-loop-gate l = WordsHold (layout.inputs l.area + l.gate) (right_in (net_of l.area [] []) l.patterns) l.words
