-- `chance::read_plain` meets its contract: the test on the bits is the range of the float (`range-of-bits`), which is then no NaN.
-- Assumes nothing.
use mathlib.Core.Path.{◌≡◌, sym, ap, ◌∙◌}
use mathlib.Core.Bool.{Bool}
use lib.Ieee.{binary64, of_bits}
use Rattle.chance.specs.Number.{from_zero_to_one}
use Rattle.chance.specs.Flip.{in_range, plain_of, read_if}
use Rattle.chance.proofs.Range.{range-of-bits, range-no-nan-bits}
use Rattle.chance.proofs.read_plain.Goals.{After-is_chance}
use Rattle.chance.proofs.read_plain.Goals as goal

tested : (c : After-is_chance) → from_zero_to_one (of_bits binary64 c.args.bits) ≡ c.is_chance.result
tested c = range-of-bits binary64 c.args.bits c.ranges.bits.fits ∙ sym c.is_chance.ensures

pub float_from_bits-result : goal.float_from_bits-result
float_from_bits-result c = range-no-nan-bits binary64 c.args.bits (tested (goal.at.float_from_bits-result c).After-is_chance ∙ c.if-is_chance.true)

pub returns-then-is_chance : goal.returns-then-is_chance
unfolding in_range
returns-then-is_chance c = sym (ap (λ (b : Bool). read_if b (plain_of c.args.bits)) (tested (goal.at.returns-then-is_chance c).After-is_chance ∙ c.if-is_chance.true))

pub returns-else-is_chance : goal.returns-else-is_chance
unfolding in_range
returns-else-is_chance c = sym (ap (λ (b : Bool). read_if b (plain_of c.args.bits)) (tested (goal.at.returns-else-is_chance c).After-is_chance ∙ c.if-is_chance.false))
