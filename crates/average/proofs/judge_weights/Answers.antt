-- `average::judge_weights` meets its contract: each test that fails decides, in the order of the refusal. Assumes nothing.
use Prim.Native.Nat.{ℕ, ◌^◌}
use mathlib.Core.Bool.{Bool, true, false, not}
use mathlib.Core.List.{List}
use mathlib.Core.Path.{◌≡◌, sym, ◌∙◌}
use native.Mathlib.Omega.{arith}
use borrow.Author.Tests.{eq-eqb, ne_eqb}
use lib.ListN.{length}
use lib.Pow.{pow_mono}
use Rattle.lists.specs.Lists.{all_zero}
use Rattle.refusal.specs.Judgement.{Judgement}
use Rattle.refusal.specs.Judgement.{Fine, refused}
use Rattle.refusal.specs.Judgement.{refuse_unless, otherwise, lowest}
use Rattle.refusal.proofs.Laws.{passed-on, otherwise-first}
use Rattle.area.specs.Layout.{most_inputs}
use Rattle.calls.specs.Judgements.{weight_judgement, weights_judgement}
use Rattle.average.proofs.Patterns.{shifted}
use Rattle.average.proofs.judge_weights.Goals.{Else-weights-inputs}
use Rattle.average.proofs.judge_weights.Goals as goal
use Rattle.refusal.specs.declared.Cause.TheVariants.{WrongWeights}

module _ (n : ℕ) (weights : List ℕ) where
  wrong-length : (length weights ≡ 2 ^ n → ⊥) → weights_judgement n weights ≡ refused WrongWeights 0
  unfolding weights_judgement
  wrong-length other = rw (ne_eqb (length weights) (2 ^ n) other)

  -- of as many weights as patterns the lowest that is too large decides, then whether one counts
  right-length : (v : Judgement) → length weights ≡ 2 ^ n → v ≡ lowest (weight_judgement weights) (length weights)
      → weights_judgement n weights ≡ otherwise v (refuse_unless (not (all_zero weights)) WrongWeights 0)
  unfolding weights_judgement
  right-length v e each = rw (eq-eqb (length weights) (2 ^ n) e, each)

  none-heavy : (v : Judgement) (none : Bool) → length weights ≡ 2 ^ n → v ≡ lowest (weight_judgement weights) (length weights) → v ≡ Fine
      → all_zero weights ≡ none → refuse_unless (not none) WrongWeights 0 ≡ weights_judgement n weights
  none-heavy v none e each fine zero = sym (right-length v e each ∙ rw (fine, zero))

pub returns-then-weights-inputs : goal.returns-then-weights-inputs
returns-then-weights-inputs c =
    sym (wrong-length c.args.inputs c.args.weights.now (λ e. c.if-weights-inputs.true (e ∙ sym (shifted c.args.inputs c.requires))))

-- the length is that of a weight for each pattern
right : (c : Else-weights-inputs) → length c.args.weights.now ≡ 2 ^ c.args.inputs
right c = c.if-weights-inputs.false ∙ shifted c.args.inputs c.requires

pub judge_each-requires : goal.judge_each-requires
judge_each-requires c = omega (arith, right c, pow_mono {i = c.args.inputs} {j = most_inputs} c.requires)

pub returns-then-all_zero : goal.returns-then-all_zero
returns-then-all_zero c =
    none-heavy _ _ _ true (right (goal.at.returns-then-all_zero c).Else-weights-inputs) c.judge_each.ensures c.in_ok-judge_each.was
    (sym c.all_zero.ensures ∙ c.if-all_zero.true)

pub returns : goal.returns
returns c =
    none-heavy _ _ _ false (right (goal.at.returns c).Else-weights-inputs) c.judge_each.ensures c.in_ok-judge_each.was
    (sym c.all_zero.ensures ∙ c.if-all_zero.false)

pub returns-in_err-judge_each : goal.returns-in_err-judge_each
returns-in_err-judge_each c =
    passed-on _ _ c.from_residual.ensures.1
    ∙ sym (right-length _ _ _ (right (goal.at.returns-in_err-judge_each c).Else-weights-inputs) c.judge_each.ensures ∙ otherwise-first _ _ _ _ c.in_err-judge_each.was)
