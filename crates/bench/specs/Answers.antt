-- The answers of the calls that are no judgement alone: a value where nothing is refused.
use Rattle.std.specs.Prelude.{ℕ, ◌≡◌, Float, false, Result, Ok, Err}
use Rattle.std.specs.Float.Ieee.Exact.{HasValue}
use Rattle.rounding.specs.Rounding.{units_in_one}
use Rattle.refusal.specs.declared.Refusal.{Refusal}
use Rattle.refusal.specs.Judgement.{Judgement, Fine, answer}
use Rattle.bench.specs.declared.NetlistFigures.{NetlistFigures}
use Rattle.bench.specs.declared.GateFigures.{GateFigures}

-- the number of live gates
abbrev pub opened : Judgement → ℕ → Result ℕ Refusal
opened Fine live = Ok live
opened (Err why) live = Err why

-- right value and failure
abbrev pub gate_read : Judgement → ℕ → ℕ → Result GateFigures Refusal
gate_read judged right failure = answer judged (record { right = right; failure = failure })

-- pattern and units, with the f64 whose value is exactly units / U
abbrev pub NetlistAnswer : Judgement → ℕ → ℕ → Result NetlistFigures Refusal → Type 0
NetlistAnswer Fine pattern units r =
    (x : Float) × (r ≡ Ok (record { pattern = pattern; units = units; reliability = x })) × HasValue x false units units_in_one
NetlistAnswer (Err why) pattern units r = r ≡ Err why
