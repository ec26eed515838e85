-- `chance::exact_chance` meets its contract, by cases of the enum: each arm knows which flip it has. Assumes nothing.
use mathlib.Core.Path.{◌≡◌, refl, sym, ap, ◌∙◌, subst}
use mathlib.Core.Bool.{true}
use lib.Ieee.{of_bits}
use Rattle.chance.specs.declared.Flip.{Flip}
use Rattle.chance.specs.Number.{chance_scale, whole_chance, from_zero_to_one}
use Rattle.chance.specs.Flip.{in_range, chance_of}
use Rattle.chance.proofs.exact_chance.Goals as goal

pub strike_chance-requires : goal.strike_chance-requires
strike_chance-requires c = subst (λ (f : Flip). in_range f ≡ true) c.in-Strike.is c.requires

pub returns-in-Never : goal.returns-in-Never
unfolding of_bits from_zero_to_one whole_chance chance_scale chance_of
returns-in-Never c = (refl, sym (ap chance_of c.in-Never.is))

pub returns-in-Plain : goal.returns-in-Plain
unfolding in_range chance_of
returns-in-Plain c = (
  subst (λ (f : Flip). in_range f ≡ true) c.in-Plain.is c.requires,
  sym (ap chance_of c.in-Plain.is),
)

pub returns-in-Strike : goal.returns-in-Strike
returns-in-Strike c = (c.strike_chance.ensures.0, c.strike_chance.ensures.1 ∙ sym (ap chance_of c.in-Strike.is))
