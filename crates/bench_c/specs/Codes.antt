-- What C gets of an answer: one number, and each out-parameter written only where the work was done.
use Rattle.std.specs.Prelude.{ℕ, ◌+◌, ◌*◌, ◌≡◌, false, Float}
use Rattle.std.specs.Float.Ieee.Exact.{HasValue}
use Rattle.rounding.specs.Rounding.{units_in_one}
use Rattle.refusal.specs.Judgement.{Judgement}
use Rattle.refusal.specs.Judgement.{Fine, number_of}
use Rattle.std.specs.Prelude.{Err}

-- a refusal: its number in the high 32 bits, its place in the low ones
abbrev pub refusal_code : ℕ → ℕ → ℕ
refusal_code number place = number * 4_294_967_296 + place

-- 0 where the work was done, else the refusal
abbrev pub code : Judgement → ℕ
code Fine = 0
code (Err why) = refusal_code (number_of why.cause) why.place

-- a float whose value is exactly units / U, or the one that the out-parameter held
abbrev pub FloatBy : Judgement → ℕ → Float → Float → Type 0
FloatBy Fine units stood left = HasValue left false units units_in_one
FloatBy (Err why) units stood left = left ≡ stood
