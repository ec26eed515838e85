use Prim.Native.Nat.{ℕ, ◌+◌}
use mathlib.Core.Path.{◌≡◌}
use lib.ListN.{get_or}
use lib.Seq.{sets}
use Rattle.lists.specs.Lists.{joined}
use Rattle.records.specs.Bytes.{two_bytes}
use Rattle.records.proofs.write_record.Given as goal

abbrev pub invariant-loop-i : goal.invariant-loop-i
invariant-loop-i l = l.bytes ≡ sets l.initial.bytes (l.at + 4) (joined (λ (k : ℕ). two_bytes (get_or l.fn.pins k 0)) l.i)
