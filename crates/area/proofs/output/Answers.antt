-- `area::output` meets its contract. Assumes nothing.
use Rattle.area.proofs.output.Goals as goal

pub returns : goal.returns
returns c = rw (c.outputs_index.ensures, c.gates.ensures)
