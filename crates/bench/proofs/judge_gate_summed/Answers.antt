-- `bench::judge_gate_summed` meets its contract. Assumes nothing.
use mathlib.Core.Path.{sym, ap, ◌∙◌}
use native.Mathlib.Omega.{arith}
use Rattle.rules.proofs.Sound.{workable, sound, past_words}
use Rattle.calls.specs.Judgements.{read_gate, named, argument_judgement}
use Rattle.calls.proofs.Judgements.{lent-sound, lent-stopped}
use Rattle.refusal.proofs.Laws.{passed-on}
use Rattle.bench.proofs.judge_gate_summed.Goals as goal

pub judge_sum-requires : goal.judge_sum-requires
judge_sum-requires c =
    (omega (arith, (workable c.args.area.now c.requires.0).net.long), c.requires.1)

pub gates-requires : goal.gates-requires
gates-requires c =
    omega (arith, (workable c.args.area.now c.requires.0).net.long)

pub returns : goal.returns
unfolding argument_judgement
returns c =
    let a = c.args in
    let passed = sound a.area.now (past_words a.area.now c.requires.0 ∙ sym c.judge_sum.ensures ∙ c.in_ok-judge_sum.was) in
    c.judge_named.ensures ∙ ap (named a.gate) c.gates.ensures ∙ sym (lent-sound a.area.now (read_gate a.gate) passed)

pub returns-in_err-judge_sum : goal.returns-in_err-judge_sum
returns-in_err-judge_sum c =
    let a = c.args in
    let stopped = past_words a.area.now c.requires.0 ∙ sym c.judge_sum.ensures ∙ c.in_err-judge_sum.was in
    passed-on c.from_residual.result c.in_err-judge_sum.field-0.0 c.from_residual.ensures.1
    ∙ sym (lent-stopped a.area.now (read_gate a.gate) _ _ stopped)
