-- What is promised of a figure that is shown with its error, for every figure and every error. proofs/Shown.antt proves it.
use Rattle.std.specs.Prelude.{ℕ, ◌*◌, ◌≤◌, ◌<◌}
use Rattle.rounding.specs.Rounding.{Near}
use Rattle.decimals.specs.Decimals.{shown_parts, shown_error}

-- a / b is within so many half units, of u in one, of the figure
abbrev pub WithinHalves : ℕ → ℕ → ℕ → ℕ → ℕ → Type 0
WithinHalves u units halves a b = Near (halves * b) (2 * (units * b)) (2 * (u * a))

-- a / b is within so many parts, of p in one, of so many parts
abbrev pub WithinParts : ℕ → ℕ → ℕ → ℕ → ℕ → Type 0
WithinParts p parts error a b = Near (error * b) (parts * b) (p * a)

-- whatever is within the figure's error of the figure is within the error shown of the decimal fraction shown
abbrev pub ShownHolds : Type 0
ShownHolds =
    (u p units halves a b : ℕ) → 0 < u → WithinHalves u units halves a b → WithinParts p (shown_parts u p units) (shown_error u p units halves) a b

-- and no smaller number of parts is enough for all of that
abbrev pub ShownLeast : Type 0
ShownLeast =
    (u p units halves e : ℕ) → 0 < u → halves ≤ 2 * units
    → ((a b : ℕ) → 0 < b → WithinHalves u units halves a b → WithinParts p (shown_parts u p units) e a b)
    → shown_error u p units halves ≤ e
