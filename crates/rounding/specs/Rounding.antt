-- The one rounding of the bench, and the one mean of two figures. Every rounding (conversion to units, fold step, gate step, output product,
-- average) is `round_div`; proofs elsewhere use its laws (proofs/Laws.antt) and never its text, so that another rule for ties is a change here.
use Rattle.std.specs.Prelude.{ℕ, ◌+◌, ◌-◌, ◌*◌, ◌/◌, ◌%◌, ◌≤◌, ◌≡◌, cond, ltb}

-- U: a figure of c units means c / U
abbrev pub units_in_one : ℕ
units_in_one = 1_073_741_824

-- U / 2
abbrev pub units_in_half : ℕ
units_in_half = 536_870_912

-- the whole number next to q + r / d, where r is below d: q for less than a half, q + 1 for more, and at a half the even one of the two
abbrev pub next_to : ℕ → ℕ → ℕ → ℕ
next_to q r d = cond (ltb (2 * r) d) q (cond (ltb d (2 * r)) (q + 1) (q + q % 2))

-- n divided by d, to the nearest whole number, by quotient and remainder; a half goes to the even one
unfoldable pub round_div : ℕ → ℕ → ℕ
round_div n d = next_to (n / d) (n % d) d

-- the mean of r and w, of u units in one, where w has the share f: (r(u - f) + wf) / u
unfoldable pub blend : ℕ → ℕ → ℕ → ℕ → ℕ
blend u r w f = round_div (r * (u - f) + w * f) u

-- a chance of c / d in units, converted once: chance × u, rounded
unfoldable pub to_units : ℕ → ℕ → ℕ → ℕ
to_units u d c = round_div (c * u) d

-- a and b differ by at most e
pub record Near (e a b : ℕ) : Type 0 where
  pub up : a ≤ b + e
  pub down : b ≤ a + e

-- m is even where it is just half a divisor below n / d, and where it is just half a divisor above
pub record HalfEven (n d m : ℕ) : Type 0 where
  pub below : 2 * n ≡ 2 * (m * d) + d → m % 2 ≡ 0
  pub above : 2 * (m * d) ≡ 2 * n + d → m % 2 ≡ 0
