-- `average::Weighted` adds a row, weight by weight. Assumes nothing.
use Rattle.std.proofs.Common.{◌≡◌, List, ℕ, ◌+◌, ◌-◌, ◌*◌, ◌≤◌, ◌<◌, ◌∙◌, sym, ap, arith, length, get_or, take, drop}
use Rattle.std.proofs.Common.{length-take, length-drop}
use Rattle.std.proofs.Math.ListN.{get_or-eq_default}
use mathlib.Core.Logic.{by_cases}
use native.Mathlib.Decide.{dec_lt}
use Rattle.lists.specs.Lists.{sum_below}
use Rattle.lists.proofs.Sums.{sum_same}
use Rattle.lists.proofs.Parts.{part_at}
use Rattle.rows.specs.Rows.{row_length}
use Rattle.calls.specs.Calls.{reliability_for}
use Rattle.average.specs.WeightedSum.{weighted_to}
use Rattle.average.proofs.WeightedSum.{row-adds, weighted-limit}
use Rattle.average.proofs.WeightedRowSink.take.Goals.{After-row_sum}
use Rattle.average.proofs.WeightedRowSink.take.Goals as goal

-- the weights from `start` on are those of the row
rest : (weights row : List ℕ) (start : ℕ) → start ≤ length weights
    → sum_below row_length (λ l. get_or (take (length weights - start) (drop start weights)) l 0 * get_or row l 0)
    ≡ sum_below row_length (λ l. get_or weights (start + l) 0 * get_or row l 0)
rest weights row start few =
    sum_same (λ l. get_or (take (length weights - start) (drop start weights)) l 0 * get_or row l 0) (λ l. get_or weights (start + l) 0 * get_or row l 0) row_length
    (λ l _. ap (λ (w : ℕ). w * get_or row l 0) (weight l))
  where
    weight : (l : ℕ) → get_or (take (length weights - start) (drop start weights)) l 0 ≡ get_or weights (start + l) 0
    weight l =
        by_cases (dec_lt l (length weights - start)) (λ inside. part_at weights start (length weights - start) l inside)
        (λ past.
        get_or-eq_default (take (length weights - start) (drop start weights)) 0 {n = l} (simp (length-take, length-drop) (omega arith))
        ∙ sym (get_or-eq_default weights 0 {n = start + l} (omega arith)))

-- the sum with this row
module _ (c : After-row_sum) where
  more : c.args.self.now.sum + c.row_sum.result ≡ weighted_to c.args.area.now c.args.self.now.weights.now (c.args.start + row_length)
  more =
      let a = c.args in
      let ws = a.self.now.weights.now in
      let each : (l : ℕ) → l < row_length → a.start + l < length ws → get_or a.row l 0 ≡ reliability_for a.area.now (a.start + l)
      = λ l few inside. c.requires.right.0 l few (omega (arith, c.requires.done.1.0.one_each)) in
      let sum : c.row_sum.result ≡ sum_below row_length (λ l. get_or ws (a.start + l) 0 * get_or a.row l 0)
      = c.row_sum.ensures ∙ rest ws a.row a.start (omega (arith, c.requires.done.1.0.one_each, c.requires.inside.0)) in
      omega (
        arith,
        c.requires.done.1.1,
        row-adds a.area.now ws a.start row_length (λ l. get_or a.row l 0) each,
        sum,
      )

pub overflow_add-self : goal.overflow_add-self
overflow_add-self c =
    let a = c.args in
    omega (
      arith,
      more (goal.at.overflow_add-self c).After-row_sum,
      weighted-limit a.area.now a.self.now.weights.now c.requires.done.0 c.requires.done.1.0 (a.start + row_length),
    )

pub returns-clause-done_2 : goal.returns-clause-done_2
returns-clause-done_2 c = (c.requires.done.1.0, more (goal.at.returns-clause-done_2 c).After-row_sum)
