-- `average::work_rows` meets its contract: the rows of the live gates before the one reached are there, and those from it on are held. Assumes nothing.
use Prim.Native.Nat.{ℕ, ◌+◌, ◌*◌, ◌<◌}
use mathlib.Core.List.{List}
use mathlib.Core.Path.{◌≡◌, refl, sym, ap, ◌∙◌}
use native.Mathlib.Omega.{arith}
use borrow.Author.Tests.{eqb-true}
use lib.ListN.{get_or}
use Rattle.area.specs.Layout.{most_sources, inputs, gates}
use Rattle.plan.specs.Plan.{LiveFrom}
use Rattle.rows.specs.Rows.{row_length}
use Rattle.average.specs.Blocks.{RowsKept, Block, HeldFrom}
use Rattle.average.proofs.BlockWords.{block_held, block-ready, block-right, block-live, block-next, kept-live, held-live}
use Rattle.average.proofs.Runs.{held-block}
use Rattle.average.proofs.HeldRows.work.Invariants.{Reached}
use Rattle.average.proofs.HeldRows.work.Goals.{then-not-same_row, else-not-same_row, In-loop-gate, Start}
use Rattle.average.proofs.HeldRows.work.Goals as goal

-- the next live gate
module _ (s : Start) (rows : List ℕ) (b x : ℕ) (found : LiveFrom s.args.area.now b x) where
  abbrev ws : List ℕ
  ws = s.args.area.now

  reach : RowsKept ws rows → Block ws rows (row_length * s.args.number) b → HeldFrom ws s.args.unseen.now rows s.args.self.now.number s.args.number b
      → Reached ws s.args.unseen.now rows s.args.self.now.number s.args.number x
  reach kept block rest =
      record {
        few = found.inside;
        live = found.live;
        kept = kept;
        block = block-next ws s.requires.planned.0 (row_length * s.args.number) rows b x found block;
        rest = λ j from. rest j (omega (arith, found.from));
      }

pub inputs-inputs-requires : goal.inputs-inputs-requires
inputs-inputs-requires c =
    omega (arith, c.requires.planned.0.net.long)

pub gates-count-requires : goal.gates-count-requires
gates-count-requires c =
    omega (arith, c.requires.planned.0.net.long)

pub overflow_mul-shift : goal.overflow_mul-shift
overflow_mul-shift c =
    omega (arith, c.requires.values_from.1)

pub bounds-next-0 : goal.bounds-next-0
bounds-next-0 c =
    omega (arith, c.requires.planned.1.long)

pub loop-gate-init : goal.loop-gate-init
loop-gate-init c =
    reach (goal.at.loop-gate-init c).Start _ 0 _ (c.requires.planned.1.each 0 (omega arith) (omega arith)) c.requires.rows_kept.0 (λ j none live. absurd (omega arith))
    (c.requires.rows_kept.1 c.args.number c.requires.values_from.1)

-- a turn's gate
module _ (c : In-loop-gate) where
  abbrev reached : Reached c.args.area.now c.args.unseen.now c.loop-gate.self.rows c.args.self.now.number c.args.number c.loop-gate.gate
  reached = c.loop-gate.invariant

  inside : c.loop-gate.gate < gates c.args.area.now
  inside = omega (arith, c.gates-count.ensures)

  -- its source
  place : c.inputs-inputs.result + c.loop-gate.gate ≡ inputs c.args.area.now + c.loop-gate.gate
  place = ap (λ (n : ℕ). n + c.loop-gate.gate) c.inputs-inputs.ensures

  room : c.inputs-inputs.result + c.loop-gate.gate < most_sources
  room = omega (arith, inside, place, c.requires.planned.0.net.inputs_fit, c.requires.planned.0.net.gates_fit)

  after : LiveFrom c.args.area.now (c.loop-gate.gate + 1) (get_or c.args.next.now (c.loop-gate.gate + 1) 0)
  after = c.requires.planned.1.each (c.loop-gate.gate + 1) (omega arith) (omega (arith, inside))

pub overflow_add-inputs : goal.overflow_add-inputs
overflow_add-inputs c = omega (arith, room c)

pub same_row-requires : goal.same_row-requires
same_row-requires c = (room c, c.requires.planned.2.bits.few _)

pub work_row-requires : goal.work_row-requires
work_row-requires c =
    let turn = (goal.at.work_row-requires c).In-loop-gate in
    let l = c.loop-gate in
    let p = c.requires in
    let a = c.args in
    let start = row_length * a.number in
    let live = (reached turn).live (inside turn) in record {
      rows_ready = (
        block-ready a.area.now p.planned.0 start l.self.rows (reached turn).kept l.gate (inside turn) (reached turn).block live,
        omega arith,
        omega (arith, p.planned.0.figures.flip_fits _ (inside turn)),
      );
      right_here = (
        block-right a.area.now p.planned.0 start l.self.rows (reached turn).kept l.gate (inside turn) (reached turn).block live a.words.now p.values_from.0,
        (reached turn).kept.long,
      );
    }

pub overflow_add-gate : goal.overflow_add-gate
overflow_add-gate c = omega (arith, room (goal.at.overflow_add-gate c).In-loop-gate)

pub offset_bounds-next-gate : goal.offset_bounds-next-gate
offset_bounds-next-gate c = omega (arith, room (goal.at.offset_bounds-next-gate c).In-loop-gate)

pub bounds-next-gate : goal.bounds-next-gate
bounds-next-gate c =
    omega (arith, inside (goal.at.bounds-next-gate c).In-loop-gate, c.requires.planned.0.net.gates_fit, c.requires.planned.1.long)

pub loop-gate-smaller : goal.loop-gate-smaller
loop-gate-smaller c = omega (arith, (after (goal.at.loop-gate-smaller c).In-loop-gate).from)

pub loop-gate-preserved : goal.loop-gate-preserved
loop-gate-preserved c =
    let turn = (goal.at.loop-gate-preserved c).In-loop-gate in
    let l = c.loop-gate in
    let p = c.requires in
    let a = c.args in
    let start = row_length * a.number in
    elim c.if-not-same_row.branch [
      | then-not-same_row w ↦
          let stored = w.work_row.ensures.row_stored in
          rw w.self-is
          (reach (goal.at.loop-gate-preserved c).Start _ _ _ (after turn) (kept-live a.area.now p.planned.0 start l.self.rows _ l.gate _ (reached turn).kept stored w.work_row.ensures.rows_len)
          (block-live a.area.now p.planned.0 start l.self.rows (reached turn).kept l.gate (inside turn) (reached turn).block ((reached turn).live (inside turn))
          a.words.now p.values_from.0 _ stored)
          (held-live a.area.now a.unseen.now l.self.rows _ a.self.now.number a.number l.gate _ stored (reached turn).rest))
      | else-not-same_row w ↦
          let same = eqb-true _ _ (sym (rw (place turn) at c.same_row.ensures) ∙ w.if-not-same_row.false) in
          rw w.self-is
          (reach (goal.at.loop-gate-preserved c).Start _ _ _ (after turn) (reached turn).kept
          (block_held a.area.now p.planned.0 start l.self.rows (reached turn).kept l.gate (inside turn) (reached turn).block a.unseen.now a.self.now.number a.number
          refl
          (reached turn).rest
          same)
          (λ j from. (reached turn).rest j (omega arith)))
    ]

pub returns : goal.returns
returns c =
    let at-gates = c.gates-count in
    let l = c.loop-gate in
    let a = c.args in
    let p = c.requires.planned in
    let end : l.gate ≡ gates c.args.area.now = omega (arith, at-gates.ensures, l.invariant.few) in record {
      block = rw end at l.invariant.block;
      rows_kept_2 = (
        l.invariant.kept,
        held-block a.area.now a.unseen.now l.self.rows p.0.net p.2 c.args.number (rw end at l.invariant.block),
      );
      number_after = refl;
    }
