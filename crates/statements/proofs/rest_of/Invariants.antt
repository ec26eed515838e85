use Prim.Native.Nat.{◌+◌, ◌-◌}
use mathlib.Core.Path.{◌≡◌}
use lib.ListN.{get_or}
use Rattle.statements.specs.Lines.{alike}
use Rattle.statements.proofs.rest_of.Given as goal

abbrev pub invariant-loop-i : goal.invariant-loop-i
invariant-loop-i l =
    l.i - (l.k + 1) + alike l.numbers (get_or l.numbers l.k 0) l.i (l.count - l.i)
    ≡ alike l.numbers (get_or l.numbers l.k 0) (l.k + 1) (l.count - (l.k + 1))
