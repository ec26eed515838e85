-- A figure and its error as decimal fractions, for reading: u units in one, p parts in one. The figure is rounded once, to the nearest part; the error is
-- rounded up, and how far the decimal fraction is from the figure stands in it.
use Rattle.std.specs.Prelude.{ℕ, ◌+◌, ◌-◌, ◌*◌, ◌/◌, ◌%◌, ◌^◌}
use Rattle.rounding.specs.Rounding.{round_div}

-- the parts of ten decimals
abbrev pub parts_in_one : ℕ
parts_in_one = 10_000_000_000

-- so many units in parts, to the nearest
unfoldable pub shown_parts : ℕ → ℕ → ℕ → ℕ
shown_parts u p units = round_div (units * p) u

-- how far two numbers are apart
abbrev pub gap : ℕ → ℕ → ℕ
gap a b = (a - b) + (b - a)

-- n / d, rounded up
unfoldable pub round_up : ℕ → ℕ → ℕ
round_up n d = (n + (d - 1)) / d

-- the error in parts of what is shown of a figure with an error of so many half units
unfoldable pub shown_error : ℕ → ℕ → ℕ → ℕ → ℕ
shown_error u p units halves = round_up (gap (2 * (shown_parts u p units * u)) (2 * (units * p)) + halves * p) (2 * u)

-- the byte of decimal i, of which there are ten
abbrev pub decimal : ℕ → ℕ → ℕ
decimal parts i = 48 + parts / 10 ^ (9 - i) % 10
