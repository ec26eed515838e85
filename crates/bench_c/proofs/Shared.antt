-- Of an image with shared gates too C tells a refusal from an answer. Assumes nothing.
use Prim.Native.Nat.{ℕ}
use mathlib.Core.List.{List}
use mathlib.Core.Path.{◌≡◌, refl}
use Rattle.refusal.specs.Judgement.{Judgement}
use Rattle.refusal.specs.Judgement.{Fine}
use Rattle.shared.specs.Shared.{shared_image_judgement}
use Rattle.shared.proofs.Numbers.{only-shared-image}
use Rattle.bench_c.specs.Codes.{code}
use Rattle.bench_c.proofs.Zero.{positive-code}

-- of every image
pub zero-is-shared : (bs : List ℕ) → code (shared_image_judgement bs) ≡ 0 → shared_image_judgement bs ≡ Fine
zero-is-shared bs = positive-code (shared_image_judgement bs) (λ a p e. (only-shared-image bs a p e).0)
