-- `chance::read_strike` meets its contract: each test on the bits is the range of its float (`range-of-bits`), which is then no NaN.
-- Assumes nothing.
use Prim.Native.Nat.{ℕ}
use mathlib.Core.Path.{◌≡◌, refl, sym, ◌∙◌}
use mathlib.Core.Bool.{Bool, true, false, ◌&&◌}
use lib.Ieee.{binary32, of_bits}
use Rattle.chance.specs.Number.{from_zero_to_one}
use Rattle.chance.specs.Flip.{in_range, strike_of, read_if}
use Rattle.chance.proofs.Range.{range-of-bits, range-no-nan-bits}
use Rattle.chance.proofs.read_strike.Goals.{After-is_chance, After-is_chance-2, Else-not-is_chance-2}
use Rattle.chance.proofs.read_strike.Goals as goal

first : (c : After-is_chance) → from_zero_to_one (of_bits binary32 c.args.chance) ≡ c.is_chance.result
first c = range-of-bits binary32 c.args.chance c.ranges.chance.fits ∙ sym c.is_chance.ensures

second : (c : After-is_chance-2) → from_zero_to_one (of_bits binary32 c.args.window) ≡ c.is_chance-2.result
second c =
    range-of-bits binary32 c.args.window c.ranges.window.fits
    ∙ sym c.is_chance-2.ensures

-- the answer, from what the two tests say
answer : (chance window : ℕ) (p q : Bool) → from_zero_to_one (of_bits binary32 chance) ≡ p → from_zero_to_one (of_bits binary32 window) ≡ q
    → read_if (p && q) (strike_of chance window) ≡ read_if (in_range (strike_of chance window)) (strike_of chance window)
unfolding in_range
answer chance window p q e f = cc

pub returns-then-not-is_chance : goal.returns-then-not-is_chance
returns-then-not-is_chance c = answer c.args.chance c.args.window false _ (first (goal.at.returns-then-not-is_chance c).After-is_chance ∙ c.if-not-is_chance.true) refl

pub returns-then-not-is_chance-2 : goal.returns-then-not-is_chance-2
returns-then-not-is_chance-2 c =
    let a = c.args in
    answer a.chance a.window true false (first (goal.at.returns-then-not-is_chance-2 c).After-is_chance ∙ c.if-not-is_chance.false)
    (second (goal.at.returns-then-not-is_chance-2 c).After-is_chance-2 ∙ c.if-not-is_chance-2.true)

-- past both tests
first-held : (c : Else-not-is_chance-2) → from_zero_to_one (of_bits binary32 c.args.chance) ≡ true
first-held c = first c.before.before.before ∙ c.if-not-is_chance.false

second-held : (c : Else-not-is_chance-2) → from_zero_to_one (of_bits binary32 c.args.window) ≡ true
second-held c = second c.before ∙ c.if-not-is_chance-2.false

pub float_from_bits-result : goal.float_from_bits-result
float_from_bits-result c = range-no-nan-bits binary32 c.args.chance (first-held c)

pub float_from_bits-result-2 : goal.float_from_bits-result-2
float_from_bits-result-2 c = range-no-nan-bits binary32 c.args.window (second-held c)

pub returns : goal.returns
returns c =
    let a = c.args in
    answer a.chance a.window true true (first-held c) (second-held c)
