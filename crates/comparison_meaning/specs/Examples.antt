-- Worked comparisons, as a table; proofs/Examples.antt computes it. The images are those of the table of sheets.
use Rattle.std.specs.Prelude.{ℕ, List, [], ◌∷◌, map, ◌≡◌}
use Rattle.comparison.specs.declared.Verdict.TheVariants.{First, Second, Undecided}
use Rattle.comparison.specs.declared.Module.{Module}
use Rattle.comparison.specs.Standing.{Patterns}
use Rattle.std.specs.Prelude.{Some, None}
use Rattle.comparison.specs.declared.Image.TheVariants.{First as FirstImage, Second as SecondImage}
use Rattle.comparison.specs.Standing.{Compared}
use Rattle.comparison.specs.Standing.{done, refused_image}
use Rattle.calls.specs.Sheets.{power, sixteenths, past_half, printed_image, no_gates_image, gate_twice_image, seen_at_one}
use Rattle.refusal.specs.declared.Cause.TheVariants.{SharedGate, ChanceAboveHalf}
use Rattle.comparison.specs.Images.{compared}

-- two images, and the answer
pub record Row : Type 0 where
  pub first : List ℕ
  pub second : List ℕ
  pub answer : Compared

-- inputs, gates, outputs, live gates, average, error
abbrev pub made : ℕ → ℕ → ℕ → ℕ → ℕ → ℕ → Module
made n g k live average error = record { inputs = n; gates = g; outputs = k; live = live; average = average; error = error }

abbrev pub patterns : ℕ → ℕ → ℕ → Patterns
patterns first second neither = Some (record { first = first; second = second; neither = neither })

-- a wire never fails; a buffer beside it flips, and is seen under pattern 1 alone
abbrev pub wire : Module
wire = made 1 0 1 0 1_073_741_824 0

abbrev pub buffered : ℕ → Module
buffered average = made 1 2 1 2 average 2

abbrev pub printed : Module
printed = made 2 3 1 3 671_088_640 5

abbrev pub rows : List Row
rows =
    -- 512 units apart
    record { first = no_gates_image; second = seen_at_one (power 20); answer = done First wire (buffered 1_073_741_312) (patterns 1 0 1) }
    ∷ record { first = seen_at_one (power 20); second = no_gates_image; answer = done Second (buffered 1_073_741_312) wire (patterns 0 1 1) }
    -- 2 units apart, 4 half units: just as much as the errors and the averages leave open; 3 units are enough. Under pattern 1 the figures are 3 units apart
    ∷ record { first = no_gates_image; second = seen_at_one (sixteenths 8 29); answer = done Undecided wire (buffered 1_073_741_822) (patterns 1 0 1) }
    ∷ record { first = no_gates_image; second = seen_at_one (sixteenths 8 28); answer = done First wire (buffered 1_073_741_821) (patterns 1 0 1) }
    -- 2 units apart under pattern 1 would decide by themselves, and 1 unit would not: the error of a figure is 2 half units
    ∷ record { first = no_gates_image; second = seen_at_one (power 29); answer = done Undecided wire (buffered 1_073_741_823) (patterns 1 0 1) }
    ∷ record { first = no_gates_image; second = seen_at_one (power 30); answer = done Undecided wire (buffered 1_073_741_824) (patterns 0 0 2) }
    -- a module and itself; unlike inputs; a gate with two readers in the second image, and in the first; a chance above 0.5
    ∷ record { first = printed_image; second = printed_image; answer = done Undecided printed printed (patterns 0 0 4) }
    ∷ record { first = printed_image; second = no_gates_image; answer = done Second printed wire None }
    ∷ record { first = printed_image; second = gate_twice_image; answer = refused_image SecondImage SharedGate 0 }
    ∷ record { first = gate_twice_image; second = gate_twice_image; answer = refused_image FirstImage SharedGate 0 }
    ∷ record { first = printed_image; second = seen_at_one past_half; answer = refused_image SecondImage ChanceAboveHalf 0 }
    ∷ []

abbrev pub ExamplesHold : Type 0
ExamplesHold = map (λ (r : Row). compared r.first r.second) rows ≡ map (λ (r : Row). r.answer) rows
