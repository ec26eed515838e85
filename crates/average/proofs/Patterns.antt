-- How many patterns there are, as the code shifts it, and weights past the last. Assumes nothing.
use Prim.Native.Nat.{ℕ, ◌*◌, ◌%◌, ◌^◌, ◌≤◌, ◌<◌}
use mathlib.Core.List.{List}
use mathlib.Core.Logic.{by_cases}
use mathlib.Core.Path.{◌≡◌, ap, ◌∙◌}
use native.Mathlib.Decide.{dec_lt}
use native.Mathlib.Nat.{one-mul, mod-eq_of_lt}
use native.Mathlib.Omega.{arith}
use lib.ListN.{length, get_or, get_or-eq_default}
use lib.Pow.{pow_mono}
use Rattle.area.specs.Layout.{most_inputs}

-- 1 shifted by n as the machine has it
pub shifted : (n : ℕ) → n ≤ most_inputs → 1 * 2 ^ n % 2 ^ 64 ≡ 2 ^ n
shifted n h = ap (λ (x : ℕ). x % 2 ^ 64) (one-mul (2 ^ n)) ∙ mod-eq_of_lt (omega (arith, pow_mono {i = n} {j = most_inputs} h))

-- a bound of the entries holds past the end too
pub everywhere : (b : ℕ) (xs : List ℕ) → ((i : ℕ) → i < length xs → get_or xs i 0 ≤ b) → (i : ℕ) → get_or xs i 0 ≤ b
everywhere b xs h i = by_cases (dec_lt i (length xs)) (h i) (λ past. omega (arith, get_or-eq_default xs 0 {n = i} (omega arith)))
