-- `bench::judge_counts` meets its contract. Assumes nothing.
use Prim.Native.Nat.{ℕ}
use mathlib.Core.Path.{◌≡◌, sym, ap₂, ◌∙◌}
use native.Mathlib.Omega.{arith}
use Rattle.refusal.specs.Judgement.{Fine}
use Rattle.refusal.proofs.Laws.{passed-on, otherwise-first, otherwise-second}
use Rattle.area.specs.Rules.{NetSound, area_judgement}
use Rattle.rules.proofs.Sound.{sound}
use Rattle.calls.specs.Judgements.{counts_judgement}
use Rattle.bench.proofs.judge_counts.Goals.{In_ok-judge}
use Rattle.bench.proofs.judge_counts.Goals as goal

-- the area that passed
module _ (c : In_ok-judge) where
  passed : area_judgement c.args.area.now ≡ Fine
  passed = sym c.judge.ensures ∙ c.in_ok-judge.was

  net : NetSound c.args.area.now
  net = (sound c.args.area.now passed).workable.net

pub inputs-requires : goal.inputs-requires
inputs-requires c = omega (arith, (net c).long)

pub gates-requires : goal.gates-requires
gates-requires c = omega (arith, (net (goal.at.gates-requires c).In_ok-judge).long)

pub judge_listed-requires : goal.judge_listed-requires
judge_listed-requires c = omega (arith, c.inputs.ensures, (net (goal.at.judge_listed-requires c).In_ok-judge).inputs_fit)

pub returns : goal.returns
returns c =
    let a = c.args in
    c.judge_listed.ensures
    ∙ ap₂ (λ (n g : ℕ). counts_judgement n g a.patterns.now a.slots) c.inputs.ensures c.gates.ensures
    ∙ sym (otherwise-second (area_judgement a.area.now) _ (passed (goal.at.returns c).In_ok-judge))

pub returns-in_err-judge : goal.returns-in_err-judge
returns-in_err-judge c =
    let at-judge = c.judge in
    passed-on c.from_residual.result c.in_err-judge.field-0.0 c.from_residual.ensures.1
    ∙ sym (otherwise-first (area_judgement c.args.area.now) _ _ _ (sym at-judge.ensures ∙ c.in_err-judge.was))
