use Rattle.std.proofs.Common.{◌≡◌, get_or}
use Rattle.lists.specs.Lists.{sum_below}
use Rattle.comparison.proofs.equal_mean.Given as goal

abbrev pub invariant-loop-figure : goal.invariant-loop-figure
invariant-loop-figure l = l.sum ≡ sum_below l.figure-index (λ i. get_or l.fn.figures i 0)
