-- `average::average` meets its contract. Assumes nothing.
use Prim.Native.Nat.{ℕ, ◌*◌, ◌≤◌, ◌<◌}
use mathlib.Core.List.{List}
use mathlib.Core.Path.{◌≡◌, sym, ap, ap₂, ◌∙◌}
use native.Mathlib.Omega.{arith}
use lib.ListN.{length, get_or}
use Rattle.lists.specs.Lists.{sum_below}
use Rattle.lists.proofs.Sums.{some-sum}
use Rattle.rounding.specs.Rounding.{units_in_one, round_div}
use Rattle.area.specs.Layout.{most_patterns, largest_weight, inputs}
use Rattle.work.proofs.Frame.{work-all-kept}
use Rattle.calls.specs.Judgements.{WeightsFit}
use Rattle.calls.proofs.Judgements.{weights-fine}
use Rattle.average.specs.WeightedSum.{weighted_to}
use Rattle.average.proofs.WeightedSum.{few-weights, weighted-fits, total-fits, average-is, average-fits}
use Rattle.average.proofs.average.Goals.{After-rounded, Start}
use Rattle.average.proofs.average.Goals as goal

module _ (s : Start) where
  abbrev area : List ℕ
  area = s.args.area.now

  abbrev weights : List ℕ
  weights = s.args.weights.now

  abbrev total : ℕ
  total = sum_below (length weights) (λ q. get_or weights q 0)

  fit : WeightsFit (inputs area) weights
  fit = weights-fine (inputs area) weights s.requires.weights_value

  some : 0 < total
  some = some-sum weights fit.some

pub weighted_sum-sum-requires : goal.weighted_sum-sum-requires
weighted_sum-sum-requires c = record { workable = c.requires.workable; weights_fit = fit (goal.at.weighted_sum-sum-requires c).Start }

pub work_all-requires : goal.work_all-requires
work_all-requires c = c.requires.workable

pub total_weight-requires : goal.total_weight-requires
total_weight-requires c =
    let start = (goal.at.total_weight-requires c).Start in
    few-weights (area start) (weights start) c.requires.workable (fit start)

pub rounded-requires : goal.rounded-requires
rounded-requires c =
    let start = (goal.at.rounded-requires c).Start in
    let n = length (weights start) in
    let sum : c.weighted_sum-sum.result ≤ units_in_one * total start
    = omega (
      arith,
      c.weighted_sum-sum.ensures,
      weighted-fits (area start) (weights start) c.requires.workable (fit start) n (omega arith),
    ) in
    let most : total start ≤ most_patterns * largest_weight = total-fits (area start) (weights start) c.requires.workable (fit start) n (omega arith) in record { count_nonzero = omega (arith, c.total_weight.ensures, some start); count_bound = omega (arith, c.total_weight.ensures) }

-- the answer, before it is narrowed
module _ (c : After-rounded) where
  answer : c.rounded.result ≡ round_div (weighted_to (area c.before.before.before.before.before.before.before.before.before.before) (weights c.before.before.before.before.before.before.before.before.before.before) (length (weights c.before.before.before.before.before.before.before.before.before.before))) (total c.before.before.before.before.before.before.before.before.before.before)
  answer =
      c.rounded.ensures
      ∙ ap₂ round_div c.weighted_sum-sum.ensures c.total_weight.ensures

pub overflow_cast-result : goal.overflow_cast-result
overflow_cast-result c =
    let start = (goal.at.overflow_cast-result c).Start in
    omega (arith, answer c, average-fits (area start) (weights start) c.requires.workable (fit start) (some start))

pub shape_of-area : goal.shape_of-area
shape_of-area c = ap length c.work_all.ensures ∙ (work-all-kept (area (goal.at.shape_of-area c).Start)).size

pub returns : goal.returns
returns c =
    let start = (goal.at.returns c).Start in record { value = answer c ∙ sym (average-is (area start) (weights start) c.requires.workable (fit start)); area_after = c.work_all.ensures }
