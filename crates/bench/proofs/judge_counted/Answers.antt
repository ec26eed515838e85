-- `bench::judge_counted` meets its contract. Assumes nothing.
use mathlib.Core.Path.{sym, ap, ◌∙◌}
use native.Mathlib.Omega.{arith}
use lib.ListN.{get_or}
use Rattle.refusal.proofs.Laws.{passed-on, otherwise-first, otherwise-second}
use Rattle.rules.proofs.Sound.{sound}
use Rattle.area.specs.Rules.{area_judgement}
use Rattle.calls.specs.Judgements.{named}
use Rattle.bench.proofs.judge_counted.Goals as goal

pub offset_bounds-area-word : goal.offset_bounds-area-word
offset_bounds-area-word c = omega (arith, c.requires)

pub bounds-area-word : goal.bounds-area-word
bounds-area-word c =
    let passed = sound c.args.area.now (sym c.judge.ensures ∙ c.in_ok-judge.was) in
    omega (arith, passed.workable.net.long, c.requires)

pub returns : goal.returns
returns c =
    let at-judge = c.judge in
    let a = c.args in
    let passed = sym at-judge.ensures ∙ c.in_ok-judge.was in
    let e = otherwise-second (area_judgement a.area.now) (named a.named (get_or a.area.now a.word 0)) passed in
    c.judge_named.ensures ∙ ap (named a.named) c.index.ensures ∙ sym e

pub returns-in_err-judge : goal.returns-in_err-judge
returns-in_err-judge c =
    let at-judge = c.judge in
    let a = c.args in
    let stopped = sym at-judge.ensures ∙ c.in_err-judge.was in
    passed-on c.from_residual.result c.in_err-judge.field-0.0 c.from_residual.ensures.1
    ∙ sym (otherwise-first (area_judgement a.area.now) (named a.named (get_or a.area.now a.word 0)) _ _ stopped)
