-- `average::live_words` meets its contract: the words of the live gates before the one reached are there. Assumes nothing.
use Prim.Native.Nat.{◌+◌, ◌≤◌, ◌<◌}
use mathlib.Core.Path.{◌≡◌, refl}
use native.Mathlib.Omega.{arith}
use Rattle.area.specs.Layout.{gates}
use Rattle.signals.proofs.Held.{first-held}
use Rattle.average.proofs.BlockWords.{words-next, words-live}
use Rattle.average.proofs.live_words.Goals.{In-loop-gate}
use Rattle.average.proofs.live_words.Goals as goal

pub gates-count-requires : goal.gates-count-requires
gates-count-requires c =
    omega (arith, c.requires.0.long)

pub inputs-requires : goal.inputs-requires
inputs-requires c =
    omega (arith, c.requires.0.long)

pub write_inputs-requires : goal.write_inputs-requires
write_inputs-requires c =
    (c.requires.2, omega (arith, c.inputs.ensures, c.requires.0.inputs_fit), refl)

pub bounds-next-0 : goal.bounds-next-0
bounds-next-0 c =
    omega (arith, c.requires.1.long)

pub loop-gate-init : goal.loop-gate-init
loop-gate-init c =
    let at-inputs = c.inputs in
    let a = c.args in
    let found = c.requires.1.each 0 (omega arith) (omega arith) in (
      found.inside,
      found.live,
      words-next a.area.now a.patterns.now c.requires.0 _ 0 _ found
          (record {
            input_words = first-held a.area.now a.patterns.now c.requires.0 c.write_inputs.new.words
                (rw at-inputs.ensures at c.write_inputs.ensures);
            gate_words = λ j none live. absurd (omega arith);
          }),
    )

-- a turn's gate
module _ (c : In-loop-gate) where
  inside : c.loop-gate.gate < gates c.args.area.now
  inside = omega (arith, c.gates-count.ensures)

  room : c.loop-gate.gate + 1 ≤ 1_024
  room = omega (arith, inside, c.requires.0.gates_fit)

pub work_word-requires : goal.work_word-requires
work_word-requires c =
    (c.requires.0, inside (goal.at.work_word-requires c).In-loop-gate, c.loop-gate.invariant.2.input_words.long)

pub overflow_add-gate : goal.overflow_add-gate
overflow_add-gate c = omega (arith, room (goal.at.overflow_add-gate c).In-loop-gate)

pub offset_bounds-next-gate : goal.offset_bounds-next-gate
offset_bounds-next-gate c = omega (arith, room (goal.at.offset_bounds-next-gate c).In-loop-gate)

pub bounds-next-gate : goal.bounds-next-gate
bounds-next-gate c =
    omega (arith, room (goal.at.bounds-next-gate c).In-loop-gate, c.requires.1.long)

pub loop-gate-smaller : goal.loop-gate-smaller
loop-gate-smaller c =
    let l = c.loop-gate in
    let found = c.requires.1.each (l.gate + 1) (omega arith) (omega (arith, inside (goal.at.loop-gate-smaller c).In-loop-gate)) in
    omega (arith, found.from)

pub loop-gate-preserved : goal.loop-gate-preserved
loop-gate-preserved c =
    let turn = (goal.at.loop-gate-preserved c).In-loop-gate in
    let l = c.loop-gate in
    let p = c.requires in
    let a = c.args in
    let found = p.1.each (l.gate + 1) (omega arith) (omega (arith, inside turn)) in (
      found.inside,
      found.live,
      words-next a.area.now a.patterns.now p.0 _ _ _ found
          (words-live a.area.now a.patterns.now p.0 l.words l.gate (inside turn) l.invariant.2 _ (l.invariant.1 (inside turn))
          c.work_word.ensures),
    )

pub returns : goal.returns
returns c =
    let at-gates = c.gates-count in
    let l = c.loop-gate in
    let end : l.gate ≡ gates c.args.area.now = omega (arith, at-gates.ensures, l.invariant.0) in
    rw end at l.invariant.2
