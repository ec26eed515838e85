-- A test and the tests after it: what is answered, and what the slice holds. Assumes nothing.
use Prim.Native.Nat.{ℕ}
use mathlib.Core.Path.{◌≡◌, refl}
use mathlib.Core.List.{List}
use Rattle.refusal.specs.Judgement.{Judgement}
use Rattle.refusal.specs.Judgement.{Fine, otherwise, unless_refused, answer}
use Rattle.refusal.specs.declared.Refusal.{Refusal}
use Rattle.std.specs.Prelude.{Result, Err}
use Rattle.std.specs.Result.{IsErrAnd}
use Rattle.std.proofs.lemmas.Result.{err_from_is_err_and}

-- an answer and a slice as a judgement says
abbrev pub As : Judgement → ℕ → List ℕ → List ℕ → Result ℕ Refusal → List ℕ → Type 0
As v k new old r now = (r ≡ answer v k) × (now ≡ unless_refused v new old)

-- the exit of a `?`
pub stops : (v w : Judgement) (k : ℕ) (why : Refusal) (new old : List ℕ) (r : Result ℕ Refusal) → v ≡ Err why → IsErrAnd r (λ y. y ≡ why)
    → As (otherwise v w) k new old r old
stops v w k why new old r e h = let p = err_from_is_err_and r h in rw (e, p.1, p.2) (refl, refl)

pub goes_on : (v w : Judgement) (k : ℕ) (new old now : List ℕ) (r : Result ℕ Refusal) → v ≡ Fine → As w k new old r now → As (otherwise v w) k new old r now
goes_on v w k new old now r e h = rw e h

-- tests grouped otherwise
pub flat : (c a u g l r : Judgement)
    → otherwise (otherwise c (otherwise (otherwise a (otherwise u g)) l)) r ≡ otherwise c (otherwise a (otherwise u (otherwise g (otherwise l r))))
flat (Err why) a u g l r = refl
flat Fine (Err why) u g l r = refl
flat Fine Fine (Err why) g l r = refl
flat Fine Fine Fine (Err why) l r = refl
flat Fine Fine Fine Fine (Err why) r = refl
flat Fine Fine Fine Fine Fine r = refl
