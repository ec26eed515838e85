-- `counts::count_mask` meets its contract: there is no mask, or it is counted and passed on. Assumes nothing.
use mathlib.Core.Path.{sym, ◌∙◌}
use native.Mathlib.Omega.{arith}
use Rattle.area.specs.Layout as layout
use Rattle.counts.proofs.Listed.{add_none}
use Rattle.counts.proofs.Masks.{passed-zero}
use Rattle.counts.proofs.count_mask.Goals as goal

pub gate_word-mask-requires : goal.gate_word-mask-requires
gate_word-mask-requires c =
    (c.requires.net_sound.0, c.requires.net_sound.2)

pub returns-then-mask-eq0 : goal.returns-then-mask-eq0
returns-then-mask-eq0 c =
    let a = c.args in
    let ws = a.area.now in
    let none = sym c.gate_word-mask.ensures ∙ c.if-mask-eq0.true in record { counts_after = add_none a.counts.now a.gate _ none; gate_bound = omega (arith, none); mask_passed = passed-zero ws a.words.now c.requires.net_sound.0 a.gate c.requires.net_sound.2 a.masks.now (layout.pin_count ws a.gate) c.requires.gate_in_bounds.2 none }

pub pass_mask-requires : goal.pass_mask-requires
pass_mask-requires c =
    let at-gate-word = c.gate_word-mask in record { net_sound = c.requires.net_sound; masks_len = (c.requires.gate_in_bounds.2, at-gate-word.ensures) }

pub returns : goal.returns
returns c =
    let at-gate-word = c.gate_word-mask in
    let at-add-ones = c.add_ones in rw (← at-gate-word.ensures) (record { counts_after = at-add-ones.ensures.counts_after; gate_bound = at-add-ones.ensures.word_bound; mask_passed = c.pass_mask.ensures })
