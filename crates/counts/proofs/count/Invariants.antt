use Rattle.std.proofs.Common.{◌≡◌, List, ℕ, [], ◌++◌}
use Rattle.std.specs.Slice.Iter.{chunks_rest, chunks_size}
use Rattle.signals.specs.Signals.{lane_count}
use Rattle.area.specs.Net.{net_of}
use Rattle.counts.proofs.Added.{CountedOn}
use Rattle.counts.proofs.count.Given as goal

abbrev pub invariant-loop-block : goal.invariant-loop-block
invariant-loop-block l =
    (chunks_size l.block-iterator ≡ lane_count)
    × (passed : List ℕ) × (l.patterns ≡ passed ++ chunks_rest l.block-iterator)
    × CountedOn l.method (net_of l.area [] []) l.initial.counts passed l.counts
