-- `signals::input_words` meets its contract. Assumes nothing.
use mathlib.Core.Path.{refl}
use Rattle.signals.proofs.input_words.Goals as goal

pub write_inputs-requires : goal.write_inputs-requires
write_inputs-requires c = (c.requires.0, c.requires.1, refl)

pub returns : goal.returns
returns c = c.write_inputs.ensures
