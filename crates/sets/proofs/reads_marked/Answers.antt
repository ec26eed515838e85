-- `sets::reads_marked` meets its contract: the pins passed read no marked gate. Assumes nothing.
use Prim.Native.Nat.{ℕ, ◌<◌}
use mathlib.Core.Bool.{true≢false}
use mathlib.Core.Path.{sym, ap, ◌∙◌}
use native.Mathlib.Omega.{arith}
use borrow.Author.Count.{below_none, below_more}
use lib.ListN.{get_or}
use Rattle.area.specs.Layout.{pin_count}
use Rattle.area.proofs.Words.{gate-inside, pin-below, few-sources}
use Rattle.sets.proofs.reads_marked.Goals.{In-loop-i}
use Rattle.sets.proofs.reads_marked.Invariants.{Clear}
use Rattle.sets.proofs.reads_marked.Goals as goal

pub inputs-inputs-requires : goal.inputs-inputs-requires
inputs-inputs-requires c = omega (arith, c.requires.0.long)

pub pin_count-i-end-requires : goal.pin_count-i-end-requires
pin_count-i-end-requires c = gate-inside _ c.requires.0 _ c.requires.1

pub loop-i-init : goal.loop-i-init
loop-i-init c =
    below_none (Clear c.args.area.now c.args.marks.now c.args.gate)

-- a turn's pin is used
module _ (c : In-loop-i) where
  used : c.loop-i.i < pin_count c.args.area.now c.args.gate
  used = omega (arith, c.pin_count-i-end.ensures)

pub pin-requires : goal.pin-requires
pin-requires c = (
  omega (arith, used c, (c.requires.0.gate c.args.gate c.requires.1).few_pins),
  gate-inside _ c.requires.0 _ c.requires.1,
)

pub is_marked-requires : goal.is_marked-requires
is_marked-requires c =
    omega (
      arith,
      c.pin.ensures,
      pin-below c.args.area.now c.requires.0 c.args.gate c.requires.1 c.loop-i.i (used (goal.at.is_marked-requires c).In-loop-i),
      few-sources c.args.area.now c.requires.0,
      c.requires.1,
    )

pub returns-then-is_marked : goal.returns-then-is_marked
returns-then-is_marked c = λ e. absurd (true≢false e)

-- one pin more
pub loop-i-preserved : goal.loop-i-preserved
loop-i-preserved c =
    let l = c.loop-i in
    let at_pin = c.pin in (
    below_more (Clear c.args.area.now c.args.marks.now c.args.gate) l.i l.invariant
    (λ from.
    ap (λ (x : ℕ). get_or c.args.marks.now x 0) (sym at_pin.ensures)
    ∙ c.is_marked.ensures c.if-is_marked.false (omega (arith, at_pin.ensures, c.inputs-inputs.ensures, from)))
    )

pub returns : goal.returns
returns c = λ e i less. c.loop-i.invariant i (omega (arith, c.pin_count-i-end.ensures))
