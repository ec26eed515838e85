-- `comparison::equal_mean` meets its contract: the sum of the first figures, turn by turn. Assumes nothing.
use Prim.Native.Nat.{ℕ, ◌*◌, ◌≤◌, ◌<◌}
use mathlib.Core.Path.{◌≡◌, ap, ◌∙◌}
use native.Mathlib.Omega.{arith}
use lib.ListN.{length, get_or, take, length-take}
use Rattle.std.proofs.Common.{get_or-take}
use Rattle.lists.specs.Lists.{sum_below}
use Rattle.lists.proofs.Sums.{sum_more, sum-bounded}
use Rattle.rounding.specs.Rounding.{units_in_one, round_div}
use Rattle.rounding.proofs.Laws.{at_most}
use Rattle.comparison.proofs.equal_mean.Goals.{Start}
use Rattle.comparison.proofs.equal_mean.Goals as goal

-- the figures together: so much at most
module _ (s : Start) where
  abbrev each : ℕ → ℕ
  each i = get_or s.args.figures.now i 0

  size : length (take s.args.count s.args.figures.now) ≡ s.args.count
  size = omega (arith, length-take s.args.count s.args.figures.now, s.requires.count_nonzero.1)

  most : (q : ℕ) → q ≤ s.args.count → sum_below q each ≤ q * units_in_one
  most q l = sum-bounded each units_in_one q (λ j less. s.requires.by_index j (omega arith))

-- a turn's figure
module _ (s : Start) (i read : ℕ) (inside : i < length (take s.args.count s.args.figures.now))
    (is : read ≡ get_or (take s.args.count s.args.figures.now) i 0) where
  less : i < s.args.count
  less = omega (arith, size s, inside)

  here : read ≡ each s i
  here = is ∙ get_or-take s.args.count s.args.figures.now i 0 less

  fits : read ≤ units_in_one
  fits = rw here (s.requires.by_index i less)

pub overflow_add-sum : goal.overflow_add-sum
overflow_add-sum c =
    let s = (goal.at.overflow_add-sum c).Start in
    let l = c.loop-figure in
    let inside = c.loop-figure-test.true in
    let below = less s l.figure-index c.from-sum.result inside c.from-sum.ensures in
    omega (
      arith,
      l.invariant,
      fits s l.figure-index c.from-sum.result inside c.from-sum.ensures,
      most s l.figure-index (omega arith),
      c.requires.count_nonzero.2,
    )

pub loop-figure-preserved : goal.loop-figure-preserved
loop-figure-preserved c =
    let s = (goal.at.loop-figure-preserved c).Start in
    let l = c.loop-figure in
    sum_more (each s) l.figure-index l.sum _ l.invariant (here s l.figure-index c.from-sum.result c.loop-figure-test.true c.from-sum.ensures)

pub rounded-requires : goal.rounded-requires
rounded-requires c =
    let s = (goal.at.rounded-requires c).Start in
    let l = c.loop-figure in
    let few : l.figure-index ≤ c.args.count = omega (arith, size s) in
    record { count_nonzero = c.requires.count_nonzero.0; count_bound = omega (arith, l.invariant, most s l.figure-index few, c.requires.count_nonzero.2) }

pub overflow_cast-result : goal.overflow_cast-result
overflow_cast-result c =
    let s = (goal.at.overflow_cast-result c).Start in
    let l = c.loop-figure in
    let all : l.figure-index ≡ c.args.count = omega (arith, size s) in
    let sum : l.sum ≤ units_in_one * c.args.count = omega (arith, l.invariant, most s l.figure-index (omega arith), all) in
    omega (arith, c.rounded.ensures, at_most l.sum c.args.count c.requires.count_nonzero.0 units_in_one sum)

pub returns : goal.returns
returns c =
    let s = (goal.at.returns c).Start in
    let l = c.loop-figure in
    let all : l.figure-index ≡ c.args.count = omega (arith, size s) in
    c.rounded.ensures ∙ ap (λ (sum : ℕ). round_div sum c.args.count) (l.invariant ∙ ap (λ (k : ℕ). sum_below k (each s)) all)
