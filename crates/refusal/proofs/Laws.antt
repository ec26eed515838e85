-- The laws of judgements: what a whole says of its parts, the answer of a loop that stops at its first refusal, and numbers that are never given.
-- Assumes nothing.
use Prim.Native.Nat.{ℕ, zero, suc, ◌+◌, ◌<◌}
use mathlib.Core.Path.{◌≡◌, refl, sym, ap, ap₂, subst, ◌∙◌}
use mathlib.Core.Bool.{Bool, true, false}
use mathlib.Core.Logic.{◌≢◌, ⊎_elim}
use native.Mathlib.Numerals.{add-one}
use native.Mathlib.Omega.{arith}
use native.Mathlib.Nat.{not-suc-le-zero, eq-or-lt_of_le}
use Rattle.refusal.specs.Judgement.{Judgement}
use Rattle.refusal.specs.Judgement.{Fine, refused}
use Rattle.refusal.specs.Judgement.{refuse_unless, otherwise, lowest, answer, number_of}
use Rattle.refusal.specs.declared.Cause.{Cause}
use Rattle.std.specs.Prelude.{Result, Ok, Err, IsErrAnd}
use Rattle.std.proofs.lemmas.Result.{err_from_is_err_and}
use Rattle.refusal.specs.declared.Refusal.{Refusal}

-- no judgement is both
pub never_both : {A : Type 0} (v : Judgement) (a : Cause) (p : ℕ) → v ≡ Fine → v ≡ refused a p → A
never_both v a p e f = let z : ◌≡◌ {A = ℕ} 0 1 = cc in absurd (omega arith)

pub refused-not-fine : {A : Type 0} (a : Cause) (p : ℕ) → refused a p ≡ Fine → A
refused-not-fine a p e = never_both Fine a p refl (sym e)

-- no refusal of a whole means none of its parts
pub unless-fine : (b : Bool) (a : Cause) (p : ℕ) → refuse_unless b a p ≡ Fine → b ≡ true
unless-fine true a p e = refl
unless-fine false a p e = cc

pub otherwise-fine : (v w : Judgement) → otherwise v w ≡ Fine → (v ≡ Fine) × (w ≡ Fine)
otherwise-fine Fine w e = (refl, e)
otherwise-fine (Err why) w e = refused-not-fine why.cause why.place e

-- a first part without a refusal leaves the second
pub otherwise-second : (v w : Judgement) → v ≡ Fine → otherwise v w ≡ w
otherwise-second v w e = rw e

pub otherwise-first : (v w : Judgement) (a : Cause) (p : ℕ) → v ≡ refused a p → otherwise v w ≡ refused a p
otherwise-first v w a p e = rw e

-- which parts are taken together does not matter
pub otherwise-assoc : (u v w : Judgement) → otherwise u (otherwise v w) ≡ otherwise (otherwise u v) w
otherwise-assoc Fine v w = refl
otherwise-assoc (Err why) v w = refl

-- what a `?` hands on is the refusal that it met
pub passed-on : {A E : Type 0} (r : Result A E) (e : E) → IsErrAnd r (λ x. x ≡ e) → r ≡ Err e
passed-on r e is = let p = err_from_is_err_and r is in p.1 ∙ ap Err p.2

-- and where the first of two judgements is refused it is the refusal of both
pub first-on : (v w r : Judgement) (why : Refusal) → v ≡ Err why → IsErrAnd r (λ x. x ≡ why) → r ≡ otherwise v w
first-on v w r why e is = passed-on r why is ∙ sym (otherwise-first v w why.cause why.place e)

-- the answer of a call that is refused, and of one that is not
pub answer-on : {A : Type 0} (v : Judgement) (value : A) (r : Result A Refusal) (why : Refusal) → v ≡ Err why → IsErrAnd r (λ x. x ≡ why) → r ≡ answer v value
answer-on v value r why e is = passed-on r why is ∙ sym (rw e refl)

pub answer-fine : {A : Type 0} (v : Judgement) (value : A) → v ≡ Fine → answer v value ≡ Ok value
answer-fine v value e = rw e refl

pub answer-refused : {A : Type 0} (v : Judgement) (value : A) (a : Cause) (p : ℕ) → v ≡ refused a p → answer v value ≡ Err (record { cause = a; place = p })
answer-refused v value a p e = rw e refl

-- what an answer tells of its judgement
pub answer-told : {A : Type 0} (v : Judgement) (value : A) (r : Result A Refusal) → r ≡ answer v value
    → ((x : A) → r ≡ Ok x → (v ≡ Fine) × (x ≡ value)) × ((why : Refusal) → r ≡ Err why → v ≡ Err why)
answer-told Fine value r e = (λ x q. (refl, cc), λ why q. let z : ◌≡◌ {A = ℕ} 0 1 = cc in absurd (omega arith))
answer-told (Err why') value r e = (λ x q. let z : ◌≡◌ {A = ℕ} 0 1 = cc in absurd (omega arith), λ why q. cc)

module _ (f : ℕ → Judgement) where
  -- one place more without a refusal
  pub lowest-more : (j : ℕ) → lowest f j ≡ Fine → f j ≡ Fine → lowest f (j + 1) ≡ Fine
  lowest-more j e h = rw (add-one j, e) h

  -- the first refusal is that of every longer list
  pub lowest-refused : (k j : ℕ) (a : Cause) (p : ℕ) → j < k → lowest f j ≡ Fine → f j ≡ refused a p → lowest f k ≡ refused a p
  lowest-refused zero j a p l e h = absurd (not-suc-le-zero l)
  lowest-refused (suc k) j a p l e h =
      ⊎_elim (λ (q : j ≡ k). otherwise-at (rw q at e) (rw q at h))
      (λ (q : j < k). otherwise-first (lowest f k) (f k) a p (lowest-refused k j a p q e h))
      (eq-or-lt_of_le {n = j} {m = k} (omega arith))
    where
      otherwise-at : lowest f k ≡ Fine → f k ≡ refused a p → otherwise (lowest f k) (f k) ≡ refused a p
      otherwise-at e' h' = otherwise-second (lowest f k) (f k) e' ∙ h'

  -- no refusal of the first k means none at each of them
  pub lowest-fine : (k j : ℕ) → j < k → lowest f k ≡ Fine → f j ≡ Fine
  lowest-fine zero j l e = absurd (not-suc-le-zero l)
  lowest-fine (suc k) j l e =
      let both = otherwise-fine (lowest f k) (f k) e in
      ⊎_elim (λ (q : j ≡ k). rw q both.1) (λ (q : j < k). lowest-fine k j q both.0) (eq-or-lt_of_le {n = j} {m = k} (omega arith))

  -- no refusal at each of the first k means none of them all
  pub fine-lowest : (k : ℕ) → ((j : ℕ) → j < k → f j ≡ Fine) → lowest f k ≡ Fine
  fine-lowest zero h = refl
  fine-lowest (suc k) h =
      otherwise-second (lowest f k) (f k) (fine-lowest k (λ j l. h j (omega arith))) ∙ h k (omega arith)

  -- the answer of a loop that stops at its first refusal
  pub lowest-answer : (k j : ℕ) (a : Cause) (p : ℕ) → j < k → lowest f j ≡ Fine → f j ≡ refused a p → refused a p ≡ lowest f k
  lowest-answer k j a p l e h = sym (lowest-refused k j a p l e h)

-- judgements that agree at the first k places
pub lowest-same : (f g : ℕ → Judgement) (k : ℕ) → ((j : ℕ) → j < k → f j ≡ g j) → lowest f k ≡ lowest g k
lowest-same f g zero h = refl
lowest-same f g (suc k) h = ap₂ otherwise (lowest-same f g k (λ j l. h j (omega arith))) (h k (omega arith))

-- the numbers that a judgement may give: of those that its parts may give
abbrev pub Only : (ℕ → Type 0) → Judgement → Type 0
Only P v = (cause : Cause) (place : ℕ) → v ≡ refused cause place → P (number_of cause)

pub only-fine : (P : ℕ → Type 0) → Only P Fine
only-fine P cause place e = never_both Fine cause place refl e

abbrev number_in : Judgement → ℕ
number_in Fine = 0
number_in (Err why) = number_of why.cause

pub only-unless : (P : ℕ → Type 0) (c : Bool) (a : Cause) (p : ℕ) → P (number_of a) → Only P (refuse_unless c a p)
only-unless P true a p h = only-fine P
only-unless P false a p h = λ cause place e. subst P (ap number_in e) h

pub only-otherwise : (P : ℕ → Type 0) (v w : Judgement) → Only P v → Only P w → Only P (otherwise v w)
only-otherwise P Fine w first second = second
only-otherwise P (Err why) w first second = first

pub only-lowest : (P : ℕ → Type 0) (f : ℕ → Judgement) (k : ℕ) → ((i : ℕ) → Only P (f i)) → Only P (lowest f k)
only-lowest P f zero each = only-fine P
only-lowest P f (suc k) each = only-otherwise P (lowest f k) (f k) (only-lowest P f k each) (each k)

-- the numbers of the input and of the room, all but 14: what a call may give where the area keeps its rules
abbrev pub NotRule : ℕ → Type 0
NotRule number = (0 < number) × (number ≢ 14)
