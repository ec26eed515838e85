-- `counts::pass_mask` meets its contract: pin by pin. Assumes nothing.
use Prim.Native.Nat.{◌<◌}
use mathlib.Core.Path.{◌≡◌}
use native.Mathlib.Omega.{arith}
use Rattle.area.specs.Layout as layout
use Rattle.area.proofs.Words.{pin-below, gate-inside, few-sources}
use Rattle.counts.proofs.Right.{pins-answer, pins-sensitive}
use Rattle.counts.proofs.Masks.{passed_none, passed-by, passed-more}
use Rattle.counts.proofs.pass_mask.Goals.{then-inputs-source, else-inputs-source, After-pin-source}
use Rattle.counts.proofs.pass_mask.Goals as goal

pub inputs-inputs-requires : goal.inputs-inputs-requires
inputs-inputs-requires c = omega (arith, c.requires.net_sound.0.long)

pub table-table-requires : goal.table-table-requires
table-table-requires c =
    gate-inside c.args.area.now c.requires.net_sound.0 c.args.gate c.requires.net_sound.2

pub pin_count-count-requires : goal.pin_count-count-requires
pin_count-count-requires c =
    gate-inside c.args.area.now c.requires.net_sound.0 c.args.gate c.requires.net_sound.2

pub pin_words-pins-requires : goal.pin_words-pins-requires
pin_words-pins-requires c =
    (c.requires.net_sound.0, c.requires.net_sound.2)

pub gate_word-right-requires : goal.gate_word-right-requires
gate_word-right-requires c =
    (c.requires.net_sound.0, c.requires.net_sound.2)

pub loop-i-init : goal.loop-i-init
loop-i-init c =
    let a = c.args in
    passed_none a.area.now a.words.now c.requires.net_sound.0 a.gate c.requires.net_sound.2 a.masks.now c.requires.masks_len.0

pub pin-source-requires : goal.pin-source-requires
pin-source-requires c =
    let at-pin-count = c.pin_count-count in
    let a = c.args in
    let few = (c.requires.net_sound.0.gate a.gate c.requires.net_sound.2).few_pins in
    (omega (arith, at-pin-count.ensures, few), gate-inside a.area.now c.requires.net_sound.0 a.gate c.requires.net_sound.2)

pub sensitive_word-requires : goal.sensitive_word-requires
sensitive_word-requires c =
    let at_table = c.table-table in
    let at-pin-count = c.pin_count-count in
    let at-pin-words = c.pin_words-pins in
    let at-gate-word = c.gate_word-right in
    let a = c.args in
    let few = (c.requires.net_sound.0.gate a.gate c.requires.net_sound.2).few_pins in
    let known = pins-answer a.area.now a.words.now a.gate _ (c.requires.net_sound.1 a.gate c.requires.net_sound.2) in record { count_le_most_pins = (omega (arith, at-pin-count.ensures, few), omega arith); in_each_lane = rw (at_table.ensures, at-pin-count.ensures, at-pin-words.ensures, at-gate-word.ensures) known }

-- a used pin names a source
module _ (c : After-pin-source) where
  used : c.loop-i.i < layout.pin_count c.args.area.now c.args.gate
  used = omega (arith, c.pin_count-count.ensures, c.loop-i-test.true)

  source-inside : layout.pin c.args.area.now c.args.gate c.loop-i.i < layout.most_sources
  source-inside =
      let ws = c.args.area.now in
      let i = c.loop-i.i in
      omega (arith, pin-below ws c.requires.net_sound.0 c.args.gate c.requires.net_sound.2 i used, few-sources ws c.requires.net_sound.0, c.requires.net_sound.2)

pub offset_bounds-masks-source : goal.offset_bounds-masks-source
offset_bounds-masks-source c = omega (arith, source-inside (goal.at.offset_bounds-masks-source c).After-pin-source, c.pin-source.ensures)

pub bounds-masks-source : goal.bounds-masks-source
bounds-masks-source c = omega (arith, source-inside (goal.at.bounds-masks-source c).After-pin-source, c.pin-source.ensures)

pub bounds-masks-source-then-inputs-source : goal.bounds-masks-source-then-inputs-source
bounds-masks-source-then-inputs-source c =
    let at_pin = c.pin-source in
    omega (arith, source-inside (goal.at.bounds-masks-source-then-inputs-source c).After-pin-source, at_pin.ensures)

pub loop-i-preserved : goal.loop-i-preserved
loop-i-preserved c =
    let at-inputs = c.inputs-inputs in
    let at_table = c.table-table in
    let at-pin-count = c.pin_count-count in
    let at-pin-words = c.pin_words-pins in
    let at_pin = c.pin-source in
    let l = c.loop-i in
    let a = c.args in
    let ws = a.area.now in
    let here = used (goal.at.loop-i-preserved c).After-pin-source in
    let more = passed-more ws a.words.now c.requires.net_sound.0 a.gate c.requires.net_sound.2 l.i here a.masks.now l.masks in
    let by = passed-by ws a.words.now c.requires.net_sound.0 a.gate c.requires.net_sound.2 l.i here a.masks.now l.masks l.invariant in
    elim c.if-inputs-source.branch [
      | then-inputs-source w ↦
          let lanes = rw (at_table.ensures, at-pin-count.ensures, at-pin-words.ensures) at w.sensitive_word.ensures in
          rw (w.masks-is, at_pin.ensures)
          (more w.sensitive_word.result a.mask l.invariant c.requires.masks_len.1 (source-inside (goal.at.loop-i-preserved c).After-pin-source)
          (pins-sensitive ws a.words.now a.gate w.sensitive_word.result l.i lanes))
      | else-inputs-source w ↦ rw w.masks-is (by (omega (arith, w.if-inputs-source.false, at_pin.ensures, at-inputs.ensures)))
    ]

pub returns : goal.returns
returns c =
    let at-pin-count = c.pin_count-count in
    let l = c.loop-i in
    let end : l.i ≡ layout.pin_count c.args.area.now c.args.gate = omega (arith, at-pin-count.ensures) in
    rw end at l.invariant
