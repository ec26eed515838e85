-- `sets::shared_reliability` meets its contract: every live gate has its readers for a mark, some are settled; all sets are added, and cut at U.
-- Assumes nothing.
use Prim.Native.Nat.{ℕ, ◌+◌, min}
use mathlib.Core.Bool.{Bool, true, false, cond}
use mathlib.Core.List.{List}
use mathlib.Core.Path.{◌≡◌, refl, ap, ◌∙◌}
use native.Mathlib.Omega.{arith}
use borrow.Author.Tests.{leb-true, leb-false}
use lib.Dec.{leb}
use lib.ListN.{length}
use Rattle.rounding.specs.Rounding.{units_in_one}
use Rattle.suppose.specs.Suppose.{at_most}
use Rattle.area.specs.Layout.{inputs}
use Rattle.sets.specs.Sets.{shared_units, ReadersCounted}
use Rattle.sets.specs.Branches.{Marks, Settled}
use Rattle.sets.proofs.Laws.{all-added}
use Rattle.sets.proofs.Supposed.{sum-all, stands-none}
use Rattle.sets.proofs.shared_reliability.Goals.{After-settle, After-sum_from-sum}
use Rattle.sets.proofs.shared_reliability.Goals as goal

-- readers for marks
marks-are : (ws counts : List ℕ) → ReadersCounted ws counts → Marks ws counts
marks-are ws counts counted =
    record {
      shared = λ j less two. omega (arith, two, counted (inputs ws + j));
      single = λ j less one. omega (arith, one, counted (inputs ws + j));
      held = λ j less zero live. absurd (omega (arith, zero, live, counted (inputs ws + j)));
    }

pub settle-requires : goal.settle-requires
settle-requires c =
    (c.requires.workable.0, marks-are c.args.area.now c.args.readers.now c.requires.workable.1, c.requires.workable.2)

-- what is settled
module _ (c : After-settle) where
  abbrev vs : List ℕ
  vs = c.settle.new.area

  settled : Settled c.args.area.now vs c.settle.new.marks
  settled = c.settle.ensures

pub gates-gates-requires : goal.gates-gates-requires
gates-gates-requires c = omega (arith, (settled (goal.at.gates-gates-requires c).After-settle).workable.net.long)

pub inputs-requires : goal.inputs-requires
inputs-requires c = omega (arith, (settled (goal.at.inputs-requires c).After-settle).workable.net.long)

pub next_marked-requires : goal.next_marked-requires
next_marked-requires c =
    let net = (settled (goal.at.next_marked-requires c).After-settle).workable.net in
    (omega (arith, c.inputs.ensures, net.inputs_fit), omega (arith, c.gates-gates.ensures, net.gates_fit), refl)

pub sum_from-sum-requires : goal.sum_from-sum-requires
sum_from-sum-requires c =
    let there = (goal.at.sum_from-sum-requires c).After-settle in record { workable = ((settled there).workable, (settled there).marked, omega (arith, (settled there).same_shared, c.requires.area_len_bound)); next_marked = rw (← c.inputs.ensures, ← c.gates-gates.ensures) c.next_marked.ensures; from_bound = (omega arith, stands-none (vs there)) }

-- the sum, cut at U
module _ (c : After-sum_from-sum) where
  cut : at_most units_in_one c.sum_from-sum.result ≡ shared_units c.args.area.now
  cut =
      ap (at_most units_in_one) (c.sum_from-sum.ensures.value ∙ sum-all c.settle.new.area) ∙ all-added c.settle.new.area ∙ c.settle.ensures.same_answer

  size-kept : length c.sum_from-sum.new.area ≡ length c.args.area.now
  size-kept = c.sum_from-sum.ensures.same_before.size ∙ c.settle.ensures.size

pub shape_of-area : goal.shape_of-area
shape_of-area c = size-kept (goal.at.shape_of-area c).After-sum_from-sum

-- the smaller of the sum and U
least : (sum : ℕ) → min sum units_in_one ≡ at_most units_in_one sum
least sum = go (leb sum units_in_one) refl
  where
    go : (b : Bool) → leb sum units_in_one ≡ b → min sum units_in_one ≡ cond b sum units_in_one
    go true e = omega (arith, leb-true sum units_in_one e)
    go false e = omega (arith, leb-false sum units_in_one e)

pub returns : goal.returns
returns c = c.min.ensures ∙ least c.sum_from-sum.result ∙ cut (goal.at.returns c).After-sum_from-sum
