-- `work::split_pins` meets its contract: each turn leaves out a pin that cannot fail or keeps it. Assumes nothing.
use Prim.Native.Nat.{ℕ, ◌+◌, ◌/◌, ◌≤◌, ◌<◌}
use mathlib.Core.Path.{◌≡◌, refl, ap, ◌∙◌}
use native.Mathlib.Omega.{arith}
use Rattle.figure.proofs.Under.{added}
use Rattle.area.specs.Layout.{most_pins, inputs, gates, pin_count, pin, source_word}
use Rattle.area.proofs.Words.{pin-below}
use Rattle.area.proofs.EachPin.{kept-none, kept_same, kept_more, going-first, going-last, going-small, going-without, going-kept}
use Rattle.work.proofs.Sound.{source-word-fits}
use Rattle.rounding.specs.Rounding.{units_in_one}
use Rattle.work.proofs.split_pins.Goals.{then-word-lt2, else-word-lt2, After-pin, After-source_word-word, In-loop-i}
use Rattle.work.proofs.split_pins.Goals as goal

pub loop-i-init : goal.loop-i-init
loop-i-init c =
    (kept-none refl refl, going-first c.requires.workable.net c.requires.gate_bound)

-- a turn's pin is used
module _ (c : In-loop-i) where
  used : c.loop-i.i < pin_count c.args.area.now c.args.gate
  used = omega (arith, c.pin_count-count.ensures)

  few : c.loop-i.i < most_pins
  few = omega (arith, used, (c.requires.workable.net.gate c.args.gate c.requires.gate_bound).few_pins)

-- the source that it reads
below : (c : After-pin) → c.pin.result < inputs c.args.area.now + gates c.args.area.now
below c =
    omega (arith, c.pin.ensures, pin-below c.args.area.now c.requires.workable.net c.args.gate c.requires.gate_bound _ (used (record { before = c.before.before; type_inv = record { area = c.shared_slice_known-1.given } })), c.requires.gate_bound)

pub source_word-word-requires : goal.source_word-word-requires
source_word-word-requires c = record { workable = c.requires.workable; source_bound = below c }

-- its word; the index and the bit are small
module _ (c : After-source_word-word) where
  abbrev word : ℕ
  word = c.source_word-word.result

  read : word ≡ source_word c.args.area.now (pin c.args.area.now c.args.gate c.loop-i.i)
  read = c.source_word-word.ensures ∙ ap (source_word c.args.area.now) c.pin.ensures

  small : (c.loop-i.bit ≤ 15) × (c.loop-i.start ≤ 15)
  small = going-small c.requires.workable.net c.requires.gate_bound c.loop-i.invariant.1 (used (record { before = c.before.before.before; type_inv = record { area = c.shared_slice_known-1.given } }))

  fits : word / 2 ≤ units_in_one
  fits = omega (arith, c.source_word-word.ensures, source-word-fits c.args.area.now c.requires.workable c.pin.result (below (record { before = c.before.before; type_inv = record { area = c.shared_slice_known-1.given } })))

  -- there is room for one more
  room : c.loop-i.kept < most_pins
  room = omega (arith, few (record { before = c.before.before.before; type_inv = record { area = c.shared_slice_known-1.given } }), c.loop-i.invariant.0.few)

pub overflow_add-start : goal.overflow_add-start
overflow_add-start c =
    let there = (goal.at.overflow_add-start c).After-source_word-word in
    omega (arith, added (word there) c.loop-i.bit, (small there).0, (small there).1)

pub overflow_mul-bit : goal.overflow_mul-bit
overflow_mul-bit c = omega (arith, (small (goal.at.overflow_mul-bit c).After-source_word-word).0)

pub loop-i-preserved : goal.loop-i-preserved
loop-i-preserved c =
    let there = (goal.at.loop-i-preserved c).After-source_word-word in
    let l = c.loop-i in
    let pin = used (goal.at.loop-i-preserved c).In-loop-i in
    elim c.if-word-lt2.branch [
      | then-word-lt2 w ↦
          rw (w.start-is, w.kept-is, w.words-is, w.bits-is) (
            kept_same l.invariant.0,
            going-without c.requires.workable.net c.requires.gate_bound l.invariant.1 pin (word there) (read there) (omega (arith, w.if-word-lt2.true)),
          )
      | else-word-lt2 w ↦
          rw (w.start-is, w.kept-is, w.words-is, w.bits-is) (
            kept_more l.invariant.0 (word there) l.bit (few (goal.at.loop-i-preserved c).In-loop-i) (fits there),
            going-kept c.requires.workable.net c.requires.gate_bound l.invariant.1 pin l.invariant.0 (word there) (read there),
          )
    ]

pub returns : goal.returns
returns c =
    let l = c.loop-i in
    let count = c.pin_count-count.ensures in record { kept_le_most_pins = (omega (arith, l.invariant.0.few, count, (c.requires.workable.net.gate c.args.gate c.requires.gate_bound).few_pins), l.invariant.0.each); split = going-last c.requires.workable.net c.requires.gate_bound l.invariant.1 (omega (arith, count)) }
