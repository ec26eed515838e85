-- `bench::set_counted` meets its contract. Assumes nothing.
use Prim.Native.Nat.{◌+◌, ◌<◌}
use mathlib.Core.Path.{◌≡◌, refl, sym, ap, ◌∙◌}
use native.Mathlib.Omega.{arith}
use Rattle.refusal.specs.Judgement.{Fine}
use Rattle.refusal.proofs.Laws.{passed-on, otherwise-first, otherwise-second}
use Rattle.area.specs.Layout.{most_sources, inputs, gates, outputs}
use Rattle.area.specs.Rules.{Sound}
use Rattle.area.proofs.Words.{few-sources}
use Rattle.calls.specs.Judgements.{read_gate, flip_judgement, lent_judgement}
use Rattle.calls.proofs.Judgements.{lent-fine, gate-fine, set-after-gate}
use Rattle.bench.proofs.set_counted.Goals.{After-index, In_ok-judge_gate_summed}
use Rattle.bench.proofs.set_counted.Goals as goal

-- what passing tells
module _ (c : In_ok-judge_gate_summed) where
  fine : lent_judgement c.args.area.now (read_gate c.args.gate) ≡ Fine
  fine = sym c.judge_gate_summed.ensures ∙ c.in_ok-judge_gate_summed.was

  passed : Sound c.args.area.now
  passed = (lent-fine c.args.area.now (read_gate c.args.gate) fine).0

  there : c.args.gate < gates c.args.area.now
  there =
      let ws = c.args.area.now in
      gate-fine (inputs ws) (gates ws) (outputs ws) c.args.gate (lent-fine ws (read_gate c.args.gate) fine).1

pub inputs-requires : goal.inputs-requires
inputs-requires c = omega (arith, (passed c).workable.net.long)

-- the gate's source
module _ (c : After-index) where
  inside : c.inputs.result + c.index.result < most_sources
  inside =
      omega (arith, c.index.ensures, c.inputs.ensures, there c.before.before, few-sources c.args.area.now (passed c.before.before).workable.net)

pub overflow_add-live : goal.overflow_add-live
overflow_add-live c = omega (arith, inside c)

pub offset_bounds-counted-inputs : goal.offset_bounds-counted-inputs
offset_bounds-counted-inputs c = omega (arith, inside c)

pub bounds-counted-inputs : goal.bounds-counted-inputs
bounds-counted-inputs c = inside (goal.at.bounds-counted-inputs c).After-index

pub set_known_flip-requires : goal.set_known_flip-requires
set_known_flip-requires c =
    let ws = c.args.area.now in record { gate_value = fine (goal.at.set_known_flip-requires c).In_ok-judge_gate_summed; live_value = (rw (c.inputs.ensures, c.index.ensures) (c.requires.by_index (inputs ws + c.args.gate)), c.requires.area_value.1) }

pub returns : goal.returns
returns c =
    let a = c.args in
    let judged =
    set-after-gate a.area.now a.gate a.kind a.field
    ∙ otherwise-second (lent_judgement a.area.now (read_gate a.gate)) (flip_judgement a.gate a.kind a.field) (fine (goal.at.returns c).In_ok-judge_gate_summed) in record { value = c.set_known_flip.ensures.value ∙ sym judged; area_after = c.set_known_flip.ensures.area_after }

pub returns-in_err-judge_gate_summed : goal.returns-in_err-judge_gate_summed
returns-in_err-judge_gate_summed c =
    let a = c.args in
    let judged =
    set-after-gate a.area.now a.gate a.kind a.field
    ∙ otherwise-first (lent_judgement a.area.now (read_gate a.gate)) (flip_judgement a.gate a.kind a.field) _ _
    (sym c.judge_gate_summed.ensures ∙ c.in_err-judge_gate_summed.was) in record { value = rw (passed-on c.from_residual.result c.in_err-judge_gate_summed.field-0.0 c.from_residual.ensures.1, judged) refl; area_after = rw judged refl }
