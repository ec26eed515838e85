-- `bench::judge_average` meets its contract. Assumes nothing.
use mathlib.Core.Path.{sym, ap, ◌∙◌}
use Prim.Native.Nat.{ℕ}
use native.Mathlib.Omega.{arith}
use Rattle.rules.proofs.Sound.{sound}
use Rattle.calls.specs.Judgements.{take_average, weights_judgement, argument_judgement}
use Rattle.calls.proofs.Judgements.{lent-sound, lent-stopped}
use Rattle.refusal.proofs.Laws.{passed-on}
use Rattle.bench.proofs.judge_average.Goals as goal

pub inputs-requires : goal.inputs-requires
inputs-requires c =
    let passed = sound c.args.area.now (sym c.judge.ensures ∙ c.in_ok-judge.was) in
    omega (arith, passed.workable.net.long)

pub judge_weights-requires : goal.judge_weights-requires
judge_weights-requires c =
    let at-judge = c.judge in
    let passed = sound c.args.area.now (sym at-judge.ensures ∙ c.in_ok-judge.was) in
    omega (arith, c.inputs.ensures, passed.workable.net.inputs_fit)

pub returns : goal.returns
unfolding argument_judgement
returns c =
    let at-judge = c.judge in
    let a = c.args in
    let passed = sound c.args.area.now (sym at-judge.ensures ∙ c.in_ok-judge.was) in
    c.judge_weights.ensures
    ∙ ap (λ (n : ℕ). weights_judgement n a.weights.now) c.inputs.ensures
    ∙ sym (lent-sound a.area.now (take_average a.weights.now) passed)

pub returns-in_err-judge : goal.returns-in_err-judge
returns-in_err-judge c =
    let at-judge = c.judge in
    let a = c.args in
    passed-on c.from_residual.result c.in_err-judge.field-0.0 c.from_residual.ensures.1
    ∙ sym (lent-stopped a.area.now (take_average a.weights.now) _ _ (sym at-judge.ensures ∙ c.in_err-judge.was))
