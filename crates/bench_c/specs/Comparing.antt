-- What C gets of a comparison: one number, and the sixteen of the result, written only where the images are compared.
use Rattle.std.specs.Prelude.{ℕ, ◌+◌, ◌*◌, List, [], ◌∷◌, ◌++◌}
use Rattle.comparison.specs.declared.Verdict.{Verdict}
use Rattle.comparison.specs.declared.Module.{Module}
use Rattle.comparison.specs.declared.Counts.{Counts}
use Rattle.comparison.specs.Standing.{Patterns}
use Rattle.std.specs.Prelude.{Some, None, Ok, Err}
use Rattle.comparison.specs.declared.Image.{Image}
use Rattle.comparison.specs.declared.Image.TheVariants.{First, Second}
use Rattle.comparison.specs.Standing.{Compared}
use Rattle.refusal.specs.Judgement.{number_of}
use Rattle.comparison.specs.Standing.{verdict_number}
use Rattle.bench_c.specs.Codes.{refusal_code}

abbrev pub image_number : Image → ℕ
image_number First = 1
image_number Second = 2

-- a refusal of one of two images: which one in the bits from 40 on, then number and place as for every call
abbrev pub image_code : Image → ℕ → ℕ → ℕ
image_code image number place = image_number image * 1_099_511_627_776 + refusal_code number place

-- 0 where the images are compared
abbrev pub compared_code : Compared → ℕ
compared_code (Ok made) = 0
compared_code (Err why) = image_code why.image (number_of why.refusal.cause) why.refusal.place

-- no counts where the inputs are unlike
abbrev pub counts_of : Patterns → Counts
counts_of (Some n) = n
counts_of None = record { first = 0; second = 0; neither = 0 }

-- the result's numbers in their order: verdict, the first module, the second, counts
abbrev pub module_words : Module → List ℕ
module_words m = m.inputs ∷ m.gates ∷ m.outputs ∷ m.live ∷ m.average ∷ m.error ∷ []

abbrev pub count_words : Counts → List ℕ
count_words n = n.first ∷ n.second ∷ n.neither ∷ []

abbrev pub result_words : Verdict → Module → Module → Counts → List ℕ
result_words v m k n = verdict_number v ∷ (module_words m ++ (module_words k ++ count_words n))

-- what it holds afterwards
abbrev pub result_left : Compared → List ℕ → List ℕ
result_left (Ok made) stood = result_words made.verdict made.first made.second (counts_of made.patterns)
result_left (Err why) stood = stood
