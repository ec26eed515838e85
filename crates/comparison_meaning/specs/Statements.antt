-- What is promised of a comparison beside the calls' equations. proofs/ proves it.
use Rattle.std.specs.Prelude.{ℕ, ◌+◌, ◌*◌, ◌^◌, ◌≤◌, ◌<◌, Bool, true, List, ◌⊎◌, ◌≡◌, ltb}
use Rattle.lists.specs.Lists.{sum_below}
use Rattle.refusal.specs.Judgement.{Fine}
use Rattle.rounding.specs.Rounding.{units_in_one, Near}
use Rattle.decimals.specs.Decimals.{parts_in_one, shown_parts, shown_error}
use Rattle.decimals.specs.Statements.{WithinParts}
use Rattle.chance.specs.Number.{chance_scale}
use Rattle.figure.specs.Figure.{bit_of}
use Rattle.netlist.specs.Exact.{exact_sum}
use Rattle.netlist.specs.Average.{total_weight, exact_average_sum}
use Rattle.bound.specs.Statements.{denominator}
use Rattle.image.specs.Image.{image_inputs}
use Rattle.image.specs.Netlist.{image_net}
use Rattle.calls.specs.Judgements.{image_judgement}
use Rattle.book.specs.Book.{image_book}
use Rattle.book.specs.Statement.{WithinSharp, AverageSharp}
use Rattle.comparison.specs.declared.Verdict.{Verdict}
use Rattle.comparison.specs.declared.Verdict.TheVariants.{First, Second, Undecided}
use Rattle.comparison.specs.declared.Module.{Module}
use Rattle.comparison.specs.declared.Counts.{Counts}
use Rattle.comparison.specs.Standing.{Patterns}
use Rattle.std.specs.Prelude.{Some, None, Ok, Err}
use Rattle.comparison.specs.declared.Image.{Image}
use Rattle.comparison.specs.declared.Image.TheVariants.{First as FirstImage, Second as SecondImage}
use Rattle.comparison.specs.Standing.{Compared}
use Rattle.comparison.specs.Standing.{done, refused_image}
use Rattle.comparison.specs.Standing.{verdict, both_errors, counts_by, pattern_verdict}
use Rattle.comparison.specs.Images.{figures_of, ones, equal_average, module_of, compared}

-- ---- the exact average of an image, with its chances before conversion and over all flip patterns: a sum, divided by the sum of weights and by d for
-- each gate; and the exact sum of one pattern, divided by d for each gate

abbrev pub exact_total : List ℕ → ℕ
exact_total bs = exact_average_sum chance_scale (image_net bs) (ones bs)

abbrev pub exact_parts : List ℕ → ℕ
exact_parts bs = denominator chance_scale (image_net bs)

abbrev pub exact_weight : List ℕ → ℕ
exact_weight bs = total_weight (image_net bs) (ones bs)

-- the exact average of bs is greater than that of cs: exact_total / (exact_weight × exact_parts) on both sides, multiplied out
abbrev pub ExactlyHigher : List ℕ → List ℕ → Type 0
ExactlyHigher bs cs = exact_total cs * (exact_weight bs * exact_parts bs) < exact_total bs * (exact_weight cs * exact_parts cs)

-- the exact sum of bs for pattern q is greater than that of cs, as a test
abbrev pub higher_for : List ℕ → List ℕ → ℕ → Bool
higher_for bs cs q = ltb (exact_sum chance_scale (image_net cs) q * exact_parts bs) (exact_sum chance_scale (image_net bs) q * exact_parts cs)

-- for how many patterns of bs it is
abbrev pub higher_count : List ℕ → List ℕ → ℕ
higher_count bs cs = sum_below (2 ^ image_inputs bs) (λ q. bit_of (higher_for bs cs q))

-- ---- the errors

-- every figure of an image that is opened is within its error of the exact sum for that pattern, and the average within half a unit more
pub record ErrorHolds (bs : List ℕ) : Type 0 where
  pub figures : (q : ℕ) → q < 2 ^ image_inputs bs → WithinSharp (figures_of bs q) (record { net = image_net bs; pattern = q })
  pub average : AverageSharp (equal_average bs) (ones bs) (image_book bs)

abbrev pub ErrorsHold : Type 0
ErrorsHold = (bs : List ℕ) → image_judgement bs ≡ Fine → ErrorHolds bs

-- ---- what the program prints

-- the exact average lies within the error printed of the decimal fraction printed
abbrev pub PrintedHolds : Type 0
PrintedHolds =
    (bs : List ℕ) → image_judgement bs ≡ Fine
    → WithinParts parts_in_one
    (shown_parts units_in_one parts_in_one (module_of bs).average)
    (shown_error units_in_one parts_in_one (module_of bs).average ((module_of bs).error + 1))
    (exact_total bs)
    (exact_weight bs * exact_parts bs)

-- ---- the answer

-- the first stands higher: so does its exact average; likewise the second
abbrev pub HigherMeansHigher : Type 0
HigherMeansHigher =
    (bs cs : List ℕ) (m k : Module) (p : Patterns)
    → (compared bs cs ≡ done First m k p → ExactlyHigher bs cs) × (compared bs cs ≡ done Second m k p → ExactlyHigher cs bs)

-- the verdict that a pattern is counted by
abbrev pub verdict_for : List ℕ → List ℕ → ℕ → Verdict
verdict_for bs cs = pattern_verdict (module_of bs) (figures_of bs) (module_of cs) (figures_of cs)

-- the patterns counted: each one that counts for the first is exactly higher there, each for the second likewise; so there are so many at least for which
-- it is, and with those of neither they are all
pub record CountsMean (bs cs : List ℕ) (n : Counts) : Type 0 where
  pub alike : image_inputs bs ≡ image_inputs cs
  pub counted : n ≡ counts_by (verdict_for bs cs) (2 ^ image_inputs bs)
  pub first : (q : ℕ) → q < 2 ^ image_inputs bs → verdict_for bs cs q ≡ First → higher_for bs cs q ≡ true
  pub second : (q : ℕ) → q < 2 ^ image_inputs bs → verdict_for bs cs q ≡ Second → higher_for cs bs q ≡ true
  pub first_many : n.first ≤ higher_count bs cs
  pub second_many : n.second ≤ higher_count cs bs
  pub all : n.first + n.second + n.neither ≡ 2 ^ image_inputs bs

abbrev pub PatternsMeanHigher : Type 0
PatternsMeanHigher = (bs cs : List ℕ) (v : Verdict) (m k : Module) (n : Counts) → compared bs cs ≡ done v m k (Some n) → CountsMean bs cs n

-- which figures decide: beyond the slack, and nothing else. Undecided is the verdict exactly where they are no further apart
pub record VerdictMeans (v : Verdict) (slack a b : ℕ) : Type 0 where
  pub first : v ≡ First → 2 * b + slack < 2 * a
  pub to_first : 2 * b + slack < 2 * a → v ≡ First
  pub second : v ≡ Second → 2 * a + slack < 2 * b
  pub to_second : 2 * a + slack < 2 * b → v ≡ Second
  pub undecided : v ≡ Undecided → Near slack (2 * a) (2 * b)
  pub to_undecided : Near slack (2 * a) (2 * b) → v ≡ Undecided

abbrev pub DecidedBeyond : Type 0
DecidedBeyond = (slack a b : ℕ) → VerdictMeans (verdict slack a b) slack a b

-- what a call answers: twice the averages in the answer, both errors in it, and one half unit for each average
abbrev pub AveragesDecide : Type 0
AveragesDecide =
    (bs cs : List ℕ) (v : Verdict) (m k : Module) (p : Patterns) → compared bs cs ≡ done v m k p
    → VerdictMeans v (both_errors m k + 2) m.average k.average

-- ---- the images the other way round

abbrev pub swap_verdict : Verdict → Verdict
swap_verdict First = Second
swap_verdict Second = First
swap_verdict Undecided = Undecided

abbrev pub swap_patterns : Patterns → Patterns
swap_patterns (Some n) = Some (record { first = n.second; second = n.first; neither = n.neither })
swap_patterns None = None

abbrev pub swap_image : Image → Image
swap_image FirstImage = SecondImage
swap_image SecondImage = FirstImage

abbrev pub swapped : Compared → Compared
swapped (Ok made) = done (swap_verdict made.verdict) made.second made.first (swap_patterns made.patterns)
swapped (Err why) = refused_image (swap_image why.image) why.refusal.cause why.refusal.place

-- unless both are refused, when the image that came first is named
abbrev pub SwapSwaps : Type 0
SwapSwaps = (bs cs : List ℕ) → (image_judgement bs ≡ Fine) ⊎ (image_judgement cs ≡ Fine) → compared cs bs ≡ swapped (compared bs cs)

-- a module and itself: undecided, under every pattern too
abbrev pub SelfUndecided : Type 0
SelfUndecided =
    (bs : List ℕ) → image_judgement bs ≡ Fine
    → compared bs bs ≡ done Undecided (module_of bs) (module_of bs) (Some (record { first = 0; second = 0; neither = 2 ^ image_inputs bs }))
