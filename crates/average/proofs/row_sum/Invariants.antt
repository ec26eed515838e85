use Rattle.std.proofs.Common.{◌≡◌, ◌*◌, ◌≤◌, get_or, length}
use Rattle.area.specs.Layout.{largest_weight}
use Rattle.rounding.specs.Rounding.{units_in_one}
use Rattle.lists.specs.Lists.{sum_below}
use Rattle.average.proofs.row_sum.Given as goal

abbrev pub invariant-loop-reliability : goal.invariant-loop-reliability
invariant-loop-reliability l =
    (goal.iterator-loop-reliability).can_next l.reliability-iterator
    × (goal.iterator-loop-reliability).is_finite l.reliability-iterator
    × (l.sum ≡ sum_below (length l.yielded) (λ k. get_or l.weights k 0 * get_or l.fn.row k 0))
    × (l.sum ≤ length l.yielded * (largest_weight * units_in_one))
