-- `sets::settle_gate` meets its contract. Assumes nothing.
use Prim.Native.Nat.{ℕ, ◌+◌, ◌<◌}
use mathlib.Core.List.{List}
use mathlib.Core.Path.{◌≡◌, sym, ap, subst, ◌∙◌}
use native.Mathlib.Omega.{arith}
use lib.ListN.{get_or, set}
use Rattle.area.specs.Layout.{most_sources, inputs}
use Rattle.area.proofs.Words.{few-sources}
use Rattle.work.specs.Work.{work_gate}
use Rattle.sets.specs.Branches.{Settled}
use Rattle.sets.proofs.Settled.{settled-none, settled-gate}
use Rattle.sets.proofs.settle_gate.Goals.{After-inputs, After-work_gate}
use Rattle.sets.proofs.settle_gate.Goals as goal

pub inputs-requires : goal.inputs-requires
inputs-requires c = omega (arith, c.requires.0.net.long)

-- its source
module _ (c : After-inputs) where
  abbrev ws : List ℕ
  ws = c.args.area.now

  place : c.inputs.result + c.args.gate ≡ inputs ws + c.args.gate
  place = ap (λ (n : ℕ). n + c.args.gate) c.inputs.ensures

  fits : c.inputs.result + c.args.gate < most_sources
  fits = omega (arith, place, few-sources ws c.requires.0.net, c.requires.3)

  unchanged : Settled ws ws c.args.marks.now
  unchanged = settled-none ws c.args.marks.now c.requires.0 c.requires.1 c.requires.2

pub overflow_add-source : goal.overflow_add-source
overflow_add-source c = omega (arith, fits c)

pub offset_bounds-marks-source : goal.offset_bounds-marks-source
offset_bounds-marks-source c = omega (arith, fits c)

pub bounds-marks-source : goal.bounds-marks-source
bounds-marks-source c = omega (arith, fits (goal.at.bounds-marks-source c).After-inputs, c.requires.2)

pub returns-then-marks-source-ne1 : goal.returns-then-marks-source-ne1
returns-then-marks-source-ne1 c = unchanged (goal.at.returns-then-marks-source-ne1 c).After-inputs

pub reads_marked-requires : goal.reads_marked-requires
reads_marked-requires c =
    (c.requires.0.net, c.requires.3)

pub returns-then-reads_marked : goal.returns-then-reads_marked
returns-then-reads_marked c = unchanged (goal.at.returns-then-reads_marked c).After-inputs

pub work_gate-requires : goal.work_gate-requires
work_gate-requires c = record { workable = c.requires.0; gate_bound = c.requires.3 }

pub offset_bounds-marks-source-2 : goal.offset_bounds-marks-source-2
offset_bounds-marks-source-2 c = omega (arith, fits (goal.at.offset_bounds-marks-source-2 c).After-inputs)

pub bounds-marks-source-2 : goal.bounds-marks-source-2
bounds-marks-source-2 c =
    omega (arith, fits (goal.at.bounds-marks-source-2 c).After-inputs, c.requires.2)

-- the gate worked out, and its mark taken away
module _ (c : After-work_gate) where
  done : Settled (ws c.before.before.before.before.before.before.before) c.work_gate.new.area (set c.args.marks.now (c.inputs.result + c.args.gate) 0)
  done =
      let one : get_or c.args.marks.now (inputs (ws c.before.before.before.before.before.before.before) + c.args.gate) 0 ≡ 1
      = ap (λ (x : ℕ). get_or c.args.marks.now x 0) (sym (place c.before.before.before.before.before.before.before)) ∙ c.if-marks-source-ne1.false in
      let marks = c.args.marks.now in
      subst (λ (us : List ℕ). Settled (ws c.before.before.before.before.before.before.before) us (set marks (c.inputs.result + c.args.gate) 0)) (sym c.work_gate.ensures)
      (subst (λ (x : ℕ). Settled (ws c.before.before.before.before.before.before.before) (work_gate (ws c.before.before.before.before.before.before.before) c.args.gate) (set marks x 0)) (sym (place c.before.before.before.before.before.before.before))
      (settled-gate (ws c.before.before.before.before.before.before.before) marks c.args.gate c.requires.0 c.requires.1 c.requires.2 c.requires.3 one
      (c.reads_marked.ensures c.if-reads_marked.false)))

pub shape_of-area : goal.shape_of-area
shape_of-area c = (done (goal.at.shape_of-area c).After-work_gate).size

pub returns : goal.returns
returns c = done (goal.at.returns c).After-work_gate
