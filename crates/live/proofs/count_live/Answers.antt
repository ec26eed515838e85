-- `live::count_live` meets its contract: the reads by the outputs and by the live ones of the gates passed are counted, and the flips of
-- those gates are added up. Assumes nothing.
use Prim.Native.Nat.{ℕ, suc, ◌+◌, ◌-◌}
use mathlib.Core.List.{List}
use mathlib.Core.Path.{◌≡◌, ap, subst, ◌∙◌}
use native.Mathlib.Nat.{le_refl, zero-add}
use native.Mathlib.Omega.{arith}
use Rattle.lists.specs.Lists.{sum_below}
use Rattle.netlist.specs.Live.{if_live}
use Rattle.area.specs.Layout.{gates, flip}
use Rattle.area.specs.Sum.{live_flip, flip_sum}
use Rattle.area.proofs.Words.{output-source, few-sources}
use Rattle.live.proofs.Count.{CountsOf, reads_after, no_reads, first_reads, gate-turn, few-reads, all-counted, all-reads}
use Rattle.live.proofs.count_live.Goals.{After-add_gate}
use Rattle.live.proofs.count_live.Goals as goal

pub add_reads-requires : goal.add_reads-requires
add_reads-requires c =
    let ws = c.args.area.now in
    let sound = c.requires in
    let first = c.outputs_index.ensures in record { many_in_bounds = omega (arith, sound.long); by_index = λ i l. rw (first, c.gates-gates.ensures) (omega (arith, output-source ws sound i (omega arith), few-sources ws sound)); counts = (no_reads, omega (arith, sound.outputs_fit)) }

pub loop-gate-init : goal.loop-gate-init
unfolding flip_sum
loop-gate-init c =
    let ws = c.args.area.now in
    let at-gates = c.gates-gates.ensures in
    let added = rw (c.outputs_index.ensures, at-gates, c.outputs.ensures) at c.add_reads.ensures in
    rw at-gates (le_refl (gates ws), added.long, first_reads ws c.add_reads.new.readers added, omega arith, zero-add (sum_below (gates ws) (live_flip ws)))

pub add_gate-requires : goal.add_gate-requires
add_gate-requires c =
    let l = c.loop-gate in
    let sound = c.requires in
    let ws = c.args.area.now in record { net_sound = (sound, omega arith); counts = few-reads ws l.readers l.gate sound.gates_fit sound.outputs_fit l.invariant.1 l.invariant.2 }

-- one gate more
module _ (c : After-add_gate) where
  abbrev ws : List ℕ
  ws = c.args.area.now

  abbrev g : ℕ
  g = c.loop-gate.gate - 1

  counted : CountsOf c.loop-gate.readers (reads_after ws (g + 1))
  counted = subst (λ (k : ℕ). CountsOf c.loop-gate.readers (reads_after ws k)) (omega arith) c.loop-gate.invariant.2

  added : c.add_gate.result ≡ live_flip ws g
  added =
      c.add_gate.ensures.value
      ∙ ap (λ (r : ℕ). if_live r (flip ws g)) (all-counted ws c.requires g (omega arith) c.loop-gate.readers counted)

  more : sum_below c.loop-gate.gate (live_flip ws) ≡ sum_below g (live_flip ws) + live_flip ws g
  more =
      let last : c.loop-gate.gate ≡ suc g = omega arith in
      ap (λ (k : ℕ). sum_below k (live_flip ws)) last

pub loop-gate-preserved : goal.loop-gate-preserved
loop-gate-preserved c =
    let turn = (goal.at.loop-gate-preserved c).After-add_gate in (
      omega arith,
      c.add_gate.ensures.added.long,
      gate-turn (ws turn) c.loop-gate.readers c.add_gate.new.readers (g turn) (omega arith) (counted turn) c.add_gate.ensures.added,
      omega (arith, c.from-sum.ensures),
      omega (arith, c.loop-gate.invariant.4, c.from-sum.ensures, added turn, more turn),
    )

pub returns : goal.returns
returns c =
    let l = c.loop-gate in
    let ws = c.args.area.now in
    let end : l.gate ≡ 0 = omega arith in record { by_index = all-reads ws l.readers (subst (λ (g : ℕ). CountsOf l.readers (reads_after ws g)) end l.invariant.2); sum_value = (omega (arith, l.invariant.4, ap (λ (g : ℕ). sum_below g (live_flip ws)) end), l.invariant.1) }
