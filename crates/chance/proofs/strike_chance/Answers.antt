-- `chance::strike_chance` meets its contract: both numbers are in range, so neither is a NaN, and their product is exact and a chance
-- (`Product`). Assumes nothing.
use Prim.Native.Nat.{◌*◌}
use mathlib.Core.Path.{◌≡◌}
use mathlib.Core.Bool.{true, not, ◌&&◌}
use native.Mathlib.Nat.{mul-pos}
use lib.Dec.{T}
use lib.Ieee.{Float, binary32, binary64, mul, fits, is_nan}
use lib.Ieee.Fits.{and_i, fits_widens}
use lib.Ieee.Positive.{num, den, den_pos}
use Rattle.chance.specs.Number.{from_zero_to_one}
use Rattle.chance.specs.Flip.{in_range, chance_of}
use Rattle.chance.proofs.Range.{range-no-nan}
use Rattle.chance.proofs.Laws.{and-true}
use Rattle.chance.proofs.Product.{Known, struck, known-range, known-whole}
use Rattle.chance.proofs.strike_chance.Goals.{After-struct_known-2-1, Start}
use Rattle.chance.proofs.strike_chance.Goals as goal

-- each number's range, from what the function requires
ranges : (c : Start) → (from_zero_to_one c.args.strike.chance ≡ true) × (from_zero_to_one c.args.strike.window ≡ true)
unfolding in_range
ranges c = and-true (from_zero_to_one c.args.strike.chance) (from_zero_to_one c.args.strike.window) c.requires

widens : (x : Float) → T (fits binary32 x) → from_zero_to_one x ≡ true → T (fits binary64 x && not (is_nan x))
widens x t h = and_i (fits binary64 x) (not (is_nan x)) (fits_widens x t) (range-no-nan x h)

pub float_to_float-chance : goal.float_to_float-chance
float_to_float-chance c = widens c.args.strike.chance c.struct_known-1.given.0 (ranges (goal.at.float_to_float-chance c).Start).0

pub float_to_float-window : goal.float_to_float-window
float_to_float-window c = widens c.args.strike.window c.struct_known-2-1.given.1.0 (ranges (goal.at.float_to_float-window c).Start).1

-- the product as a float
known : (c : After-struct_known-2-1) →
    let s = c.args.strike in
    Known (mul binary64 s.chance s.window) (num s.chance * num s.window) (den s.chance * den s.window) 1
known c =
    let s = c.args.strike in
    struck s.chance s.window c.struct_known-1.given.0 c.struct_known-2-1.given.1.0 (ranges c.before.before).0
    (ranges c.before.before).1

pub returns : goal.returns
unfolding chance_of
returns c =
    let s = c.args.strike in
    let product = mul binary64 s.chance s.window in
    let num-both = num s.chance * num s.window in
    let den-both = den s.chance * den s.window in
    let positive = mul-pos (den_pos s.chance) (den_pos s.window) in
    (known-range product num-both den-both positive (known c), known-whole product num-both den-both positive (known c))
