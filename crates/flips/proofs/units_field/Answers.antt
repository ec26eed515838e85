-- `flips::units_field` meets its contract. Assumes nothing.
use mathlib.Core.Path.{ap, ◌∙◌}
use Rattle.flips.specs.Written.{field_bytes}
use Rattle.flips.proofs.units_field.Goals as goal

pub returns : goal.returns
returns c = c.field_bytes.ensures ∙ ap field_bytes c.units_bits.ensures
