-- What the answers about images tell, and that C tells a refusal from an answer. Assumes nothing.
use Prim.Native.Nat.{ℕ, ◌<◌}
use mathlib.Core.List.{List}
use mathlib.Core.Path.{◌≡◌, refl, sym, ap, ◌∙◌}
use native.Mathlib.Omega.{arith}
use Rattle.refusal.specs.Judgement.{Judgement}
use Rattle.refusal.specs.Judgement.{Fine}
use Rattle.calls.specs.Judgements.{image_judgement}
use Rattle.calls.proofs.Judgements.{only-judged}
use Rattle.comparison.specs.declared.Image.{Image}
use Rattle.comparison.specs.declared.Image.TheVariants.{First, Second}
use Rattle.comparison.specs.Standing.{Compared}
use Rattle.comparison.specs.Images.{compared_if, compared}
use Rattle.bench_c.specs.Codes.{code}
use Rattle.bench_c.specs.Comparing.{image_number, compared_code}
use Rattle.bench_c.proofs.Zero.{positive-code}
use Rattle.std.specs.Prelude.{Err}

-- of every image
pub zero-is-known : (bs : List ℕ) → code (image_judgement bs) ≡ 0 → image_judgement bs ≡ Fine
zero-is-known bs = positive-code (image_judgement bs) (λ a p e. (only-judged bs a p e).0)

some-image : (image : Image) → 0 < image_number image
some-image First = omega arith
some-image Second = omega arith

both-fine : (i j : Judgement) (answer : Compared) → compared_code (compared_if i j answer) ≡ 0 → (i ≡ Fine) × (j ≡ Fine)
both-fine Fine Fine answer e = (refl, refl)
both-fine Fine (Err why) answer e = absurd (omega (arith, some-image Second))
both-fine (Err why) j answer e = absurd (omega (arith, some-image First))

-- of every two images
pub zero-is-compared : (bs cs : List ℕ) → compared_code (compared bs cs) ≡ 0 → (image_judgement bs ≡ Fine) × (image_judgement cs ≡ Fine)
zero-is-compared bs cs = both-fine (image_judgement bs) (image_judgement cs) _
