use Prim.Native.Nat.{ℕ, ◌+◌}
use mathlib.Core.Path.{◌≡◌}
use mathlib.Core.Bool.{not}
use lib.ListN.{length, get_or}
use Rattle.refusal.specs.Judgement.{Fine}
use Rattle.refusal.specs.Judgement.{lowest, refuse_unless}
use Rattle.placing.specs.Placing.{sources_of, via}
use Rattle.loops.specs.Marks.{Clear}
use Rattle.loops.proofs.first_loop.Given as goal
use Rattle.refusal.specs.declared.Cause.TheVariants.{TextModel}

abbrev pub invariant-loop-j : goal.invariant-loop-j
invariant-loop-j l =
    (lowest (λ (i : ℕ). refuse_unless (not (via (sources_of l.sources.pins.now l.sources.counts.now) l.sources.inputs l.gates i i)) TextModel (get_or l.numbers (l.sources.inputs + i) 0)) l.j ≡ Fine)
    × (length l.clear ≡ 1024)
    × Clear (sources_of l.sources.pins.now l.sources.counts.now) l.sources.inputs l.clear
