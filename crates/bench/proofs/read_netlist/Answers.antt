-- `bench::read_netlist` meets its contract. Assumes nothing.
use mathlib.Core.Path.{refl, sym, ◌∙◌}
use native.Mathlib.Omega.{arith}
use Rattle.rules.proofs.Sound.{sound}
use Rattle.calls.specs.Judgements.{read_netlist, argument_judgement}
use Rattle.calls.proofs.Judgements.{lent-sound, lent-stopped}
use Rattle.refusal.proofs.Laws.{passed-on}
use Rattle.bench.proofs.read_netlist.Goals as goal

pub bounds-area-4 : goal.bounds-area-4
bounds-area-4 c =
    let at-judge = c.judge in
    let passed = sound c.args.area.now (sym at-judge.ensures ∙ c.in_ok-judge.was) in
    omega (arith, passed.workable.net.long)

pub bounds-area-3 : goal.bounds-area-3
bounds-area-3 c =
    let at-judge = c.judge in
    let passed = sound c.args.area.now (sym at-judge.ensures ∙ c.in_ok-judge.was) in
    omega (arith, passed.workable.net.long)

pub returns : goal.returns
unfolding argument_judgement
returns c =
    let at-judge = c.judge in
    let passed = sound c.args.area.now (sym at-judge.ensures ∙ c.in_ok-judge.was) in
    rw (lent-sound c.args.area.now read_netlist passed) (c.units_as_f64.result, refl, c.units_as_f64.ensures)

pub returns-in_err-judge : goal.returns-in_err-judge
returns-in_err-judge c =
    let at-judge = c.judge in
    rw (passed-on c.from_residual.result c.in_err-judge.field-0.0 c.from_residual.ensures.1, lent-stopped c.args.area.now read_netlist _ _ (sym at-judge.ensures ∙ c.in_err-judge.was)) refl
