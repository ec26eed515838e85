-- `statements::Part::count` meets its contract. Assumes nothing.
use mathlib.Core.Path.{sym, ◌∙◌, ap}
use lib.ListN.{length}
use Rattle.statements.proofs.Lines.{length-part}
use Rattle.statements.proofs.Part.count.Goals as goal

pub returns : goal.returns
returns c = sym (length-part c.self.inside) ∙ ap length c.self.view_is
