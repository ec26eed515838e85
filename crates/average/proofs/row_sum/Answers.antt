-- `average::row_sum` meets its contract: after each turn the sum over the entries so far; past the end of the weights there is nothing to add. Assumes nothing.
use Rattle.std.proofs.Common.{◌≡◌, ◌∙◌, sym, ap, ap₂, ℕ, ◌+◌, ◌-◌, ◌*◌, ◌≤◌, ◌<◌, List, length, get_or, arith, length-append}
use native.Mathlib.Nat.{mul-le-mul, zero-mul}
use Rattle.std.proofs.Math.ListN.{get_or-eq_default}
use Rattle.std.proofs.lemmas.Slice.Zip.{zip_turn, zip_end}
use Rattle.std.specs.Slice.Iter.{iter_rest}
use Rattle.std.specs.Iterator.Adapters.{zip_first, zip_second}
use Rattle.area.specs.Layout.{largest_weight}
use Rattle.lists.specs.Lists.{sum_below}
use Rattle.lists.proofs.Sums.{sum_more, sum_zeros}
use Rattle.rounding.specs.Rounding.{units_in_one}
use Rattle.rows.specs.Rows.{row_length}
use Rattle.average.proofs.row_sum.Goals.{After-from-in-loop-reliability}
use Rattle.average.proofs.row_sum.Goals as goal

-- the sum stops where the weights do
whole : (row weights : List ℕ) (n : ℕ) → n ≤ row_length → (n < row_length → length weights ≤ n)
    → sum_below n (λ k. get_or weights k 0 * get_or row k 0) ≡ sum_below row_length (λ k. get_or weights k 0 * get_or row k 0)
whole row weights n few past =
    let all : n + (row_length - n) ≡ row_length = omega arith in
    sym
    (sum_zeros (λ k. get_or weights k 0 * get_or row k 0) n (row_length - n)
    (λ i from to.
    ap (λ (w : ℕ). w * get_or row i 0) (get_or-eq_default weights 0 {n = i} (omega (arith, past (omega arith)))) ∙ zero-mul (get_or row i 0)))
    ∙ ap (λ (m : ℕ). sum_below m (λ k. get_or weights k 0 * get_or row k 0)) all

pub loop-reliability-preserved : goal.loop-reliability-preserved
loop-reliability-preserved c =
    let l = c.loop-reliability in
    let first : iter_rest (zip_first c.into_iter-reliability-iterator.result) ≡ c.args.row = cc in
    let second : iter_rest (zip_second c.into_iter-reliability-iterator.result) ≡ c.args.weights.now = cc in
    let turn = zip_turn c.args.row c.args.weights.now l.yielded c.into_iter-reliability-iterator.result c.loop-reliability.reliability-iterator c.next.new.self
    c.next.result first second l.yielded_by (c.in-Some.reliability, c.in-Some.weight) c.in-Some.is
    c.next.ensures.steps in
    let weight : c.from.result ≡ get_or c.args.weights.now (length l.yielded) 0 = c.from.ensures ∙ turn.3 0 in
    let entry : c.from-in-loop-reliability.result ≡ get_or c.args.row (length l.yielded) 0 = c.from-in-loop-reliability.ensures ∙ turn.2 0 in
    let light : c.from.result ≤ largest_weight = rw weight (c.requires.by_index (length l.yielded) turn.1) in
    let fits : c.from-in-loop-reliability.result ≤ units_in_one = rw entry (c.requires.row_fits (length l.yielded) (omega (arith, turn.0))) in
    let term = mul-le-mul {n₁ = c.from.result} {m₁ = c.from-in-loop-reliability.result} {n₂ = largest_weight} {m₂ = units_in_one} light fits in (
      l.invariant.0,
      l.invariant.1,
      rw length-append (sum_more (λ k. get_or c.args.weights.now k 0 * get_or c.args.row k 0) (length l.yielded) l.sum _ l.invariant.2 (ap₂ ◌*◌ weight entry)),
      rw length-append (omega (arith, l.invariant.3, term)),
    )

pub returns : goal.returns
returns c =
    let l = c.loop-reliability in
    let first : iter_rest (zip_first c.into_iter-reliability-iterator.result) ≡ c.args.row = cc in
    let second : iter_rest (zip_second c.into_iter-reliability-iterator.result) ≡ c.args.weights.now = cc in
    let end = zip_end c.args.row c.args.weights.now l.yielded c.into_iter-reliability-iterator.result c.loop-reliability.reliability-iterator c.next.new.self
    c.next.result first second l.yielded_by c.in-None.is c.next.ensures.steps in
    l.invariant.2 ∙ whole c.args.row c.args.weights.now (length l.yielded) (omega (arith, end)) (λ less. omega (arith, end, less))
