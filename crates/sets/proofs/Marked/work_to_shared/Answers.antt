-- `sets::work_to_shared` meets its contract: the marked gates before the one reached are worked out, and none of them is shared. Assumes nothing.
use Prim.Native.Nat.{ℕ, ◌+◌, ◌≤◌, ◌<◌}
use mathlib.Core.List.{List}
use mathlib.Core.Path.{◌≡◌, sym, ap, subst}
use native.Mathlib.Omega.{arith}
use lib.ListN.{get_or}
use Rattle.area.specs.Layout.{most_sources, inputs, gates}
use Rattle.area.specs.Rules.{NetSound}
use Rattle.work.specs.Work.{work_gate}
use Rattle.sets.specs.Branches.{MarkedFrom, WorkedTo}
use Rattle.sets.proofs.Same.{gates-same}
use Rattle.sets.proofs.Worked.{worked-none, worked-on, worked-gate, worked-here, worked-single}
use Rattle.sets.proofs.Marked.work_to_shared.Goals.{After-work_gate, In-loop-gate}
use Rattle.sets.proofs.Marked.work_to_shared.Goals as goal

pub inputs-inputs-requires : goal.inputs-inputs-requires
inputs-inputs-requires c =
    omega (arith, c.requires.workable.0.net.long)

pub gates-count-requires : goal.gates-count-requires
gates-count-requires c =
    omega (arith, c.requires.workable.0.net.long)

pub offset_bounds-self-from : goal.offset_bounds-self-from
offset_bounds-self-from c =
    omega (arith, c.requires.from_bound, c.requires.workable.0.net.gates_fit)

pub bounds-self-from : goal.bounds-self-from
bounds-self-from c =
    omega (arith, c.requires.from_bound, c.requires.workable.0.net.gates_fit, c.requires.workable.1.long)

-- the start
pub loop-gate-init : goal.loop-gate-init
loop-gate-init c =
    let ws = c.args.area.now in
    let found = c.requires.workable.1.each c.args.from (omega arith) c.requires.from_bound in (
      found.from,
      found.inside,
      found.marked,
      worked-on ws c.args.self.now.marks.now ws c.args.from c.args.from _ found (worked-none ws c.args.self.now.marks.now c.args.from c.requires.workable.0),
    )

-- a turn's gate
module _ (c : In-loop-gate) where
  abbrev ws : List ℕ
  ws = c.args.area.now

  abbrev g : ℕ
  g = c.loop-gate.gate

  abbrev net : NetSound ws
  net = c.requires.workable.0.net

  inside : g < gates ws
  inside = omega (arith, c.gates-count.ensures)

  mark : 0 < get_or c.args.self.now.marks.now (inputs ws + g) 0
  mark = c.loop-gate.invariant.2 inside

  room : g + 1 ≤ 1_024
  room = omega (arith, inside, net.gates_fit)

  place : c.inputs-inputs.result + g ≡ inputs ws + g
  place = ap (λ (n : ℕ). n + g) c.inputs-inputs.ensures

  fits : c.inputs-inputs.result + g < most_sources
  fits = omega (arith, inside, place, net.inputs_fit, net.gates_fit)

pub work_gate-requires : goal.work_gate-requires
work_gate-requires c =
    let l = c.loop-gate in record { workable = l.invariant.3.same.workable; gate_bound = omega (arith, inside (goal.at.work_gate-requires c).In-loop-gate, gates-same (ws (goal.at.work_gate-requires c).In-loop-gate) _ l.area _ l.invariant.3.same) }

pub overflow_add-inputs : goal.overflow_add-inputs
overflow_add-inputs c = omega (arith, fits (goal.at.overflow_add-inputs c).In-loop-gate)

pub offset_bounds-self-inputs : goal.offset_bounds-self-inputs
offset_bounds-self-inputs c = omega (arith, fits (goal.at.offset_bounds-self-inputs c).In-loop-gate)

pub bounds-self-inputs : goal.bounds-self-inputs
bounds-self-inputs c = omega (arith, fits (goal.at.bounds-self-inputs c).In-loop-gate)

-- after it is worked out
module _ (c : After-work_gate) where
  abbrev ws' : List ℕ
  ws' = c.args.area.now

  abbrev g' : ℕ
  g' = c.loop-gate.gate

  inside' : g' < gates ws'
  inside' = omega (arith, c.gates-count.ensures)

  mark' : 0 < get_or c.args.self.now.marks.now (inputs ws' + g') 0
  mark' = c.loop-gate.invariant.2 inside'

  abbrev held : List ℕ
  held = c.loop-gate.area

  abbrev left : List ℕ
  left = c.work_gate.new.area

  before : WorkedTo ws' c.args.self.now.marks.now held c.args.from g'
  before = c.loop-gate.invariant.3

  is : left ≡ work_gate held g'
  is = c.work_gate.ensures

  stepped : WorkedTo ws' c.args.self.now.marks.now left c.args.from g'
  stepped =
      subst (λ (vs : List ℕ). WorkedTo ws' c.args.self.now.marks.now vs c.args.from g') (sym is)
      (worked-gate ws' c.args.self.now.marks.now held c.args.from g' c.loop-gate.invariant.0 inside' mark' before)

  passed : get_or c.args.self.now.marks.now (inputs ws' + g') 0 ≤ 1 → WorkedTo ws' c.args.self.now.marks.now left c.args.from (g' + 1)
  passed one =
      subst (λ (vs : List ℕ). WorkedTo ws' c.args.self.now.marks.now vs c.args.from (g' + 1)) (sym is)
      (worked-single ws' c.args.self.now.marks.now held c.args.from g' c.loop-gate.invariant.0 inside' mark' before one)

  -- the lowest marked gate after it
  found : MarkedFrom c.args.self.now.marks.now (inputs ws') (gates ws') (g' + 1) (get_or c.args.self.now.next.now (g' + 1) 0)
  found = c.requires.workable.1.each (g' + 1) (omega arith) (omega (arith, inside'))

pub shape_of-area-then-self-inputs-gt1 : goal.shape_of-area-then-self-inputs-gt1
shape_of-area-then-self-inputs-gt1 c = (stepped (goal.at.shape_of-area-then-self-inputs-gt1 c).After-work_gate).same.size

pub returns-then-self-inputs-gt1 : goal.returns-then-self-inputs-gt1
returns-then-self-inputs-gt1 c =
    let turn = (goal.at.returns-then-self-inputs-gt1 c).In-loop-gate in
    let there = (goal.at.returns-then-self-inputs-gt1 c).After-work_gate in
    let two = rw (place turn) at c.if-self-inputs-gt1.true in record {
      worked_to = (stepped there, c.loop-gate.invariant.0, omega (arith, inside turn));
      shared_at = λ less.
          record {
            twice = two;
            worked =
                rw (is there)
                (worked-here (ws turn) c.args.self.now.marks.now (held there) c.args.from (g turn) c.loop-gate.invariant.0 (inside turn) (mark turn) (before there));
          };
    }

pub overflow_add-gate : goal.overflow_add-gate
overflow_add-gate c = omega (arith, room (goal.at.overflow_add-gate c).In-loop-gate)

pub offset_bounds-self-gate : goal.offset_bounds-self-gate
offset_bounds-self-gate c = omega (arith, room (goal.at.offset_bounds-self-gate c).In-loop-gate)

pub bounds-self-gate : goal.bounds-self-gate
bounds-self-gate c =
    omega (arith, room (goal.at.bounds-self-gate c).In-loop-gate, c.requires.workable.1.long)

pub loop-gate-smaller : goal.loop-gate-smaller
loop-gate-smaller c =
    omega (arith, (found (goal.at.loop-gate-smaller c).After-work_gate).from, inside (goal.at.loop-gate-smaller c).In-loop-gate, c.gates-count.ensures)

pub loop-gate-preserved : goal.loop-gate-preserved
loop-gate-preserved c =
    let turn = (goal.at.loop-gate-preserved c).In-loop-gate in
    let there = (goal.at.loop-gate-preserved c).After-work_gate in
    let few : get_or c.args.self.now.marks.now (inputs (ws turn) + g turn) 0 ≤ 1 = rw (← place turn) (omega (arith, c.if-self-inputs-gt1.false)) in (
      omega (arith, (found there).from, c.loop-gate.invariant.0),
      (found there).inside,
      (found there).marked,
      worked-on (ws turn) c.args.self.now.marks.now (left there) c.args.from (g turn + 1) _ (found there) (passed there few),
    )

pub shape_of-area : goal.shape_of-area
shape_of-area c = c.loop-gate.invariant.3.same.size

pub returns : goal.returns
returns c =
    let l = c.loop-gate in
    let at-gates = c.gates-count in record { worked_to = (l.invariant.3, l.invariant.0, l.invariant.1); shared_at = λ less. absurd (omega (arith, at-gates.ensures)) }
