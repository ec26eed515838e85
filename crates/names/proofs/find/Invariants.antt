use Prim.Native.Nat.{◌+◌, ◌-◌}
use mathlib.Core.Path.{◌≡◌}
use Rattle.names.specs.Names.{before}
use Rattle.names.proofs.find.Given as goal

abbrev pub invariant-loop-k : goal.invariant-loop-k
invariant-loop-k l = l.k + before l.names.text.now l.names.starts.now l.w l.k (l.names.count - l.k) ≡ before l.names.text.now l.names.starts.now l.w 0 l.names.count
