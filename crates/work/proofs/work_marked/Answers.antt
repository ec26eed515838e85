-- `work::work_marked` meets its contract: what is left to work out comes to the same, and the area stays workable. Assumes nothing.
use Prim.Native.Nat.{ℕ, ◌+◌, ◌<◌}
use mathlib.Core.Bool.{Bool, true, false}
use mathlib.Core.Path.{◌≡◌, sym, ap, ◌∙◌}
use native.Mathlib.Omega.{arith}
use lib.ListN.{length, set}
use Rattle.area.specs.Layout.{inputs, gates, used_pins}
use Rattle.work.specs.Work.{reads_marked, work_if, mark_if}
use Rattle.work.proofs.Frame.{same_gates, same_inputs, same-work-if}
use Rattle.work.proofs.Sound.{workable-work-if}
use Rattle.work.proofs.Loops.{mark-if-length, marked_turn}
use Rattle.work.proofs.work_marked.Goals.{then-reads_marked, else-reads_marked, Joined-reads_marked}
use Rattle.work.proofs.work_marked.Goals as goal

-- what a turn leaves: the gate worked out and marked where it reads a marked source
module _ (c : Joined-reads_marked) where
  record Turned : Type 0 where
    marked : Bool
    reads : reads_marked c.loop-gate.marks (used_pins c.loop-gate.area c.loop-gate.gate) ≡ marked
    words : c.if-reads_marked.area ≡ work_if marked c.loop-gate.area c.loop-gate.gate
    marks : c.if-reads_marked.marks ≡ mark_if marked c.loop-gate.marks (inputs c.loop-gate.area + c.loop-gate.gate)

  turned : Turned
  turned =
      let tested = sym c.reads_marked.ensures in
      elim c.if-reads_marked.branch [
        | then-reads_marked w ↦
            record {
              marked = true;
              reads = tested ∙ w.if-reads_marked.true;
              words = w.area-is ∙ w.work_gate.ensures;
              marks = w.marks-is ∙ ap (λ (n : ℕ). set c.loop-gate.marks (n + c.loop-gate.gate) 1) (sym c.loop-gate.invariant.1);
            }
        | else-reads_marked w ↦ record { marked = false; reads = tested ∙ w.if-reads_marked.false; words = w.area-is; marks = w.marks-is }
      ]

pub loop-gate-preserved : goal.loop-gate-preserved
loop-gate-preserved c =
    let a = c.loop-gate in
    let t = turned c in
    let below : a.gate < gates a.area = omega (arith, a.invariant.0) in
    let same = same-work-if t.marked a.area a.gate below in (
      rw t.words (same_gates a.area _ same ∙ a.invariant.0),
      rw t.words (same_inputs a.area _ same ∙ a.invariant.1),
      rw t.words (workable-work-if a.area a.invariant.2 t.marked a.gate below),
      ap length t.words ∙ same.size ∙ a.invariant.3,
      ap length t.marks ∙ mark-if-length t.marked a.marks (inputs a.area + a.gate) ∙ a.invariant.4,
      marked_turn a.area c.if-reads_marked.area a.marks c.if-reads_marked.marks a.gate _ t.marked (omega arith) t.reads t.words t.marks a.invariant.5,
    )
