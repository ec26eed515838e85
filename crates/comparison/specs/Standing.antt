-- Which of two figures is surely higher, and which of two modules stands higher. Figures are in units, errors in half units.
use Rattle.std.specs.Prelude.{ℕ, ◌+◌, ◌*◌, ◌^◌, Bool, cond, ltb, eqb, Option, Some, None, Result, Ok, Err}
use Rattle.lists.specs.Lists.{sum_below}
use Rattle.figure.specs.Figure.{bit_of}
use Rattle.comparison.specs.declared.Verdict.{Verdict}
use Rattle.comparison.specs.declared.Verdict.TheVariants.{First, Second, Undecided}
use Rattle.comparison.specs.declared.Module.{Module}
use Rattle.comparison.specs.declared.Counts.{Counts}
use Rattle.comparison.specs.declared.Comparison.{Comparison}
use Rattle.comparison.specs.declared.RefusedImage.{RefusedImage}
use Rattle.comparison.specs.declared.Image.{Image}
use Rattle.refusal.specs.declared.Cause.{Cause}

-- two errors of 32 bits and 2 stay below it
abbrev pub slack_limit : ℕ
slack_limit = 17_179_869_184

-- the figure a is more than so many half units above b
unfoldable pub beyond : ℕ → ℕ → ℕ → Bool
beyond slack a b = ltb (2 * b + slack) (2 * a)

-- decided exactly where the two are more than so many half units apart
unfoldable pub verdict : ℕ → ℕ → ℕ → Verdict
verdict slack a b = cond (beyond slack a b) First (cond (beyond slack b a) Second Undecided)

-- as a number: what C is told
abbrev pub verdict_number : Verdict → ℕ
verdict_number Undecided = 0
verdict_number First = 1
verdict_number Second = 2

abbrev pub same_verdict : Verdict → Verdict → Bool
same_verdict v w = eqb (verdict_number v) (verdict_number w)

-- both errors, which the figures of a pattern may be away from the exact ones together; the averages, half a unit more each
abbrev pub both_errors : Module → Module → ℕ
both_errors m k = m.error + k.error

abbrev pub averages_verdict : Module → Module → Verdict
averages_verdict m k = verdict (both_errors m k + 2) m.average k.average

-- how many of the patterns below k have the verdict v, where pattern q has the verdict f q
abbrev pub how_often : Verdict → (ℕ → Verdict) → ℕ → ℕ
how_often v f k = sum_below k (λ q. bit_of (same_verdict v (f q)))

abbrev pub counts_by : (ℕ → Verdict) → ℕ → Counts
counts_by f k = record { first = how_often First f k; second = how_often Second f k; neither = how_often Undecided f k }

-- the verdict of each pattern, where r q and s q are the figures of the two modules
abbrev pub pattern_verdict : Module → (ℕ → ℕ) → Module → (ℕ → ℕ) → ℕ → Verdict
pattern_verdict m r k s q = verdict (both_errors m k) (r q) (s q)

-- modules with unlike inputs have no patterns in common
abbrev pub Patterns : Type 0
Patterns = Option Counts

-- the patterns are counted where both modules have the same number of inputs
unfoldable pub patterns_between : Module → (ℕ → ℕ) → Module → (ℕ → ℕ) → Patterns
patterns_between m r k s = cond (eqb m.inputs k.inputs) (Some (counts_by (pattern_verdict m r k s) (2 ^ m.inputs))) None

-- the answer of a comparison: its results, or the image that is refused, with cause and place
abbrev pub Compared : Type 0
Compared = Result Comparison RefusedImage

abbrev pub done : Verdict → Module → Module → Patterns → Compared
done v m k p = Ok (record { verdict = v; first = m; second = k; patterns = p })

abbrev pub refused_image : Image → Cause → ℕ → Compared
refused_image image cause place = Err (record { image = image; refusal = record { cause = cause; place = place } })

abbrev pub answered : Module → (ℕ → ℕ) → Module → (ℕ → ℕ) → Compared
answered m r k s = done (averages_verdict m k) m k (patterns_between m r k s)
