use Prim.Native.Nat.{ℕ, ◌+◌}
use mathlib.Core.Path.{◌≡◌}
use lib.ListN.{length, get_or, take, drop}
use Rattle.lists.specs.Lists.{count}
use Rattle.area.specs.Layout.{most_sources}
use Rattle.live.proofs.add_reads.Given as goal

abbrev pub invariant-loop-i : goal.invariant-loop-i
invariant-loop-i l =
    (length l.readers ≡ most_sources) × ((s : ℕ) → get_or l.readers s 0 ≡ get_or l.initial.readers s 0 + count s (take l.i (drop l.start l.area)))
