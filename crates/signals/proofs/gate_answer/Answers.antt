-- `signals::gate_answer` meets its contract. Assumes nothing.
use Rattle.signals.proofs.gate_answer.Goals as goal

pub answer-requires : goal.answer-requires
answer-requires c =
    rw c.pin_count.ensures (c.requires.0.gate c.args.gate c.requires.1).few_pins

pub returns : goal.returns
returns c = rw (c.table.ensures, c.pin_count.ensures) at c.answer.ensures
