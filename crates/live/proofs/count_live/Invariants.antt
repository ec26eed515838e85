use Prim.Native.Nat.{◌+◌, ◌-◌, ◌*◌, ◌≤◌}
use mathlib.Core.Path.{◌≡◌}
use lib.ListN.{length}
use Rattle.lists.specs.Lists.{sum_below}
use Rattle.area.specs.Layout.{most_sources, gates}
use Rattle.area.specs.Sum.{live_flip, flip_sum}
use Rattle.live.proofs.Count.{CountsOf, reads_after}
use Rattle.live.proofs.count_live.Given as goal

-- the flips of the live gates from `gate` on are added up
abbrev pub invariant-loop-gate : goal.invariant-loop-gate
invariant-loop-gate l =
    (l.gate ≤ gates l.area)
    × (length l.readers ≡ most_sources)
    × CountsOf l.readers (reads_after l.area l.gate)
    × (l.sum ≤ (gates l.area - l.gate) * 4_294_967_295)
    × (l.sum + sum_below l.gate (live_flip l.area) ≡ flip_sum l.area)
