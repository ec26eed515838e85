-- A flip that was read is in range.
use Rattle.std.proofs.Common.{sym}
use Rattle.chance.proofs.Laws.{read-in-range}
use Rattle.chance_vectors.proofs.converted.Goals as goal

pub units-requires : goal.units-requires
units-requires c = read-in-range c.args.kind c.args.field c.in-Some.flip (sym c.in-Some.ensures)
