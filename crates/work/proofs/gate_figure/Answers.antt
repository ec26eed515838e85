-- `work::gate_figure` meets its contract: the pins that are kept make the gate's word. Assumes nothing.
use Prim.Native.Nat.{ℕ}
use mathlib.Core.Path.{ap₂, ◌∙◌}
use native.Mathlib.Omega.{arith}
use Rattle.rounding.specs.Rounding.{units_in_one}
use Rattle.figure.specs.Steps.{first_pins, pins_word}
use Rattle.area.specs.Layout.{table, flip}
use Rattle.area.specs.Figures.{gate_word_from}
use Rattle.work.specs.Work.{gate_figure}
use Rattle.work.proofs.gate_figure.Goals as goal

pub pins_word-requires : goal.pins_word-requires
pins_word-requires c =
    let e = c.split_pins-pins.ensures in record { count_bound = (e.kept_le_most_pins.0, omega (arith, c.flip.ensures, c.requires.workable.figures.flip_fits c.args.gate c.requires.gate_bound)); bits_bound = e.split.fits; by_index = e.kept_le_most_pins.1 }

pub returns : goal.returns
unfolding gate_figure gate_word_from
returns c =
    let ws = c.args.area.now in
    let j = c.args.gate in
    let p = c.split_pins-pins in
    c.pins_word.ensures
    ∙ ap₂ (λ (t f : ℕ). pins_word units_in_one t p.result.start (first_pins p.result.kept p.result.words p.result.bits) f)
    c.table.ensures
    c.flip.ensures
    ∙ p.ensures.split.word (table ws j) (flip ws j)
