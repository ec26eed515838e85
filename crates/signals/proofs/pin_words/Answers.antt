-- `signals::pin_words` meets its contract: four words are read. Assumes nothing.
use Rattle.signals.proofs.Held.{pin-source}
use Rattle.signals.proofs.pin_words.Goals as goal

pub word_of-requires : goal.word_of-requires
word_of-requires c =
    rw c.pins-pins.ensures (pin-source c.args.area.now c.requires.0 c.args.gate c.requires.1 0)

pub word_of-requires-2 : goal.word_of-requires-2
word_of-requires-2 c =
    rw c.pins-pins.ensures (pin-source c.args.area.now c.requires.0 c.args.gate c.requires.1 1)

pub word_of-requires-3 : goal.word_of-requires-3
word_of-requires-3 c =
    rw c.pins-pins.ensures (pin-source c.args.area.now c.requires.0 c.args.gate c.requires.1 2)

pub word_of-requires-4 : goal.word_of-requires-4
word_of-requires-4 c =
    let at-pins = c.pins-pins in
    rw at-pins.ensures (pin-source c.args.area.now c.requires.0 c.args.gate c.requires.1 3)

pub returns : goal.returns
returns c =
    let at-pins = c.pins-pins in
    let at-word-of = c.word_of in
    rw (
      at-word-of.ensures,
      c.word_of-2.ensures,
      c.word_of-3.ensures,
      c.word_of-4.ensures,
      at-pins.ensures,
    )
