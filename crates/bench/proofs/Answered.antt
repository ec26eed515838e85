-- What opening's answer tells of its judgement and its result, for those who open within a call of their own. Assumes nothing.
use Prim.Native.Nat.{ℕ}
use mathlib.Core.Path.{◌≡◌, refl}
use Rattle.std.specs.Prelude.{Ok, Err}
use Rattle.refusal.specs.declared.Refusal.{Refusal}
use Rattle.refusal.specs.Judgement.{Judgement, Fine, answer}
use Rattle.bench.specs.Answers.{opened}

-- it is the answer as every call gives it
pub opened-answer : (j : Judgement) (v : ℕ) → opened j v ≡ answer j v
opened-answer Fine v = refl
opened-answer (Err why) v = refl

pub open_told : (j : Judgement) (v : ℕ)
    → ((n : ℕ) → opened j v ≡ Ok n → (j ≡ Fine) × (n ≡ v)) × ((why : Refusal) → opened j v ≡ Err why → j ≡ Err why)
open_told Fine v = (λ n e. (refl, cc), λ why e. cc)
open_told (Err reason) v = (λ n e. (cc, cc), λ why e. cc)
