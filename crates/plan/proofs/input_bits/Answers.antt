-- `plan::input_bits` meets its contract: the inputs before the one reached have their entries. Assumes nothing.
use Rattle.plan.proofs.Laws.{bits_none}
use Rattle.plan.proofs.input_bits.Goals as goal

pub loop-input-init : goal.loop-input-init
loop-input-init c = bits_none
