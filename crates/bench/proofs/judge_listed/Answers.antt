-- `bench::judge_listed` meets its contract: each test that fails decides, in the order of the refusals. Assumes nothing.
use Prim.Native.Nat.{ℕ, ◌≤◌, ◌<◌}
use mathlib.Core.Bool.{Bool}
use mathlib.Core.List.{List}
use mathlib.Core.Logic.{⊎_elim}
use mathlib.Core.Path.{◌≡◌, sym, ap, ◌∙◌}
use native.Mathlib.Omega.{arith}
use borrow.Author.Tests.{le-leb, lt-leb}
use lib.Dec.{leb}
use lib.ListN.{length}
use Rattle.refusal.specs.Judgement.{Judgement}
use Rattle.refusal.specs.Judgement.{Fine, refused}
use Rattle.refusal.specs.Judgement.{refuse_unless, otherwise, lowest, word_judgement}
use Rattle.area.specs.Layout.{most_listed}
use Rattle.calls.specs.Judgements.{listed_judgement, counts_judgement}
use Rattle.refusal.proofs.Laws.{passed-on}
use Rattle.bench.proofs.judge_listed.Goals.{After-judge_each}
use Rattle.bench.proofs.judge_listed.Goals as goal
use Rattle.refusal.specs.declared.Cause.TheVariants.{ListLength, ListedPattern, CountSlice}

module _ (n g : ℕ) (patterns : List ℕ) (slots : ℕ) where
  too_few : length patterns < 1 → counts_judgement n g patterns slots ≡ refused ListLength 0
  unfolding counts_judgement
  too_few l = rw (lt-leb 1 (length patterns) l)

  too_many : 1 ≤ length patterns → most_listed < length patterns → counts_judgement n g patterns slots ≡ refused ListLength 0
  unfolding counts_judgement
  too_many some l = rw (le-leb 1 (length patterns) some, lt-leb (length patterns) most_listed l)

  -- of a list that is not too long the lowest pattern that is too large decides, then the slice
  right-length : (v : Judgement) → 1 ≤ length patterns → length patterns ≤ most_listed → v ≡ lowest (listed_judgement n patterns) (length patterns)
      → counts_judgement n g patterns slots ≡ otherwise v (refuse_unless (leb g slots) CountSlice 0)
  unfolding counts_judgement
  right-length v some few each = rw (le-leb 1 (length patterns) some, le-leb (length patterns) most_listed few, each)

pub returns-then-patterns-lt1 : goal.returns-then-patterns-lt1
returns-then-patterns-lt1 c =
    let a = c.args in
    sym
    (⊎_elim (λ few. too_few a.inputs a.gates a.patterns.now a.slots few)
    (λ many. too_many a.inputs a.gates a.patterns.now a.slots many.0 many.1)
    c.then-patterns-lt1.either)

pub judge_each-requires : goal.judge_each-requires
judge_each-requires c = omega arith

-- once the length has passed, the patterns decide, then the slice
module _ (c : After-judge_each) where
  listed : (v : Judgement) → c.judge_each.result ≡ v
      → counts_judgement c.args.inputs c.args.gates c.args.patterns.now c.args.slots
      ≡ otherwise v (refuse_unless (leb c.args.gates c.args.slots) CountSlice 0)
  listed v e =
      let a = c.args in
      right-length a.inputs a.gates a.patterns.now a.slots v c.if-patterns-lt1.false c.if-patterns-gt-MOST_LISTED.false
      (sym e
      ∙ c.judge_each.ensures
      ∙ ap (λ (most : ℕ). lowest (word_judgement a.patterns.now most ListedPattern) (length a.patterns.now)) c.last_pattern.ensures)

pub returns-then-slots-gates : goal.returns-then-slots-gates
returns-then-slots-gates c =
    sym (listed (goal.at.returns-then-slots-gates c).After-judge_each Fine c.in_ok-judge_each.was ∙ ap (λ (b : Bool). refuse_unless b CountSlice 0) (lt-leb _ _ c.if-slots-gates.true))

pub returns : goal.returns
returns c =
    sym (listed (goal.at.returns c).After-judge_each Fine c.in_ok-judge_each.was ∙ ap (λ (b : Bool). refuse_unless b CountSlice 0) (le-leb _ _ c.if-slots-gates.false))

pub returns-in_err-judge_each : goal.returns-in_err-judge_each
returns-in_err-judge_each c = passed-on c.from_residual.result c.in_err-judge_each.field-0.0 c.from_residual.ensures.1 ∙ sym (listed (goal.at.returns-in_err-judge_each c).After-judge_each _ c.in_err-judge_each.was)
