use Rattle.std.proofs.Common.{◌≡◌, ◌*◌, ◌≤◌, get_or}
use Rattle.lists.specs.Lists.{sum_below}
use Rattle.average.proofs.total_weight.Given as goal

abbrev pub invariant-loop-weight : goal.invariant-loop-weight
invariant-loop-weight l =
    (l.total ≡ sum_below l.weight-index (λ p. get_or l.weights p 0)) × (l.total ≤ 4_294_967_296 * l.weight-index)
