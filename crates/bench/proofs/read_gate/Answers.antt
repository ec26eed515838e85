-- `bench::read_gate` meets its contract. Assumes nothing.
use mathlib.Core.Path.{◌≡◌, refl, sym, ap, ◌∙◌}
use native.Mathlib.Omega.{arith}
use Rattle.area.specs.Layout.{inputs, gates, outputs, figure}
use Rattle.calls.specs.Judgements.{read_gate}
use Rattle.calls.proofs.Judgements.{lent-fine, gate-fine}
use Rattle.refusal.proofs.Laws.{passed-on}
use Rattle.bench.proofs.read_gate.Goals as goal

pub figure-word-requires : goal.figure-word-requires
figure-word-requires c =
    let at-judge-gate = c.judge_gate in
    let a = c.args in
    let p = lent-fine a.area.now (read_gate a.gate) (sym at-judge-gate.ensures ∙ c.in_ok-judge_gate.was) in
    let ws = a.area.now in
    omega (arith, c.index.ensures, p.0.workable.net.long, gate-fine (inputs ws) (gates ws) (outputs ws) a.gate p.1)

pub returns : goal.returns
returns c =
    let at-judge-gate = c.judge_gate in
    let a = c.args in
    let e = sym at-judge-gate.ensures ∙ c.in_ok-judge_gate.was in
    let word : c.figure-word.result ≡ figure a.area.now a.gate = c.figure-word.ensures ∙ ap (figure a.area.now) c.index.ensures in
    rw (e, word) refl

pub returns-in_err-judge_gate : goal.returns-in_err-judge_gate
returns-in_err-judge_gate c =
    let at-judge-gate = c.judge_gate in
    rw (passed-on c.from_residual.result c.in_err-judge_gate.field-0.0 c.from_residual.ensures.1, sym at-judge-gate.ensures ∙ c.in_err-judge_gate.was) refl
