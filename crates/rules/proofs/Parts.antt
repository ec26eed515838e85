-- A chain of tests, or of refusals, by the answer of its first: where it passes the others decide, where it fails it decides. Assumes nothing.
use Prim.Native.Nat.{ℕ}
use mathlib.Core.Bool.{Bool, true, false, ◌&&◌}
use mathlib.Core.Path.{◌≡◌, sym, ◌∙◌}
use Rattle.refusal.specs.Judgement.{Judgement}
use Rattle.refusal.specs.Judgement.{Fine, refused}
use Rattle.refusal.specs.Judgement.{refuse_unless, otherwise}
use Rattle.refusal.specs.declared.Cause.{Cause}

-- what a call answered, tested by `!`
pub yes : {r a : Bool} → r ≡ a → r ≡ true → a ≡ true
yes e h = sym e ∙ h

pub no : {r a : Bool} → r ≡ a → r ≡ false → a ≡ false
no e h = sym e ∙ h

pub passed : {a : Bool} (b : Bool) → a ≡ true → a && b ≡ b
passed b e = rw e

pub failed : {a : Bool} (b : Bool) → a ≡ false → a && b ≡ false
failed b e = rw e

-- the last of the refusals
pub none : {a : Bool} (n : Cause) (p : ℕ) → a ≡ true → refuse_unless a n p ≡ Fine
none n p e = rw e

pub last-refused : {a : Bool} (n : Cause) (p : ℕ) → a ≡ false → refuse_unless a n p ≡ refused n p
last-refused n p e = rw e

-- and those before it
pub next : {a : Bool} (n : Cause) (p : ℕ) (j : Judgement) → a ≡ true → otherwise (refuse_unless a n p) j ≡ j
next n p j e = rw e

pub first-refused : {a : Bool} (n : Cause) (p : ℕ) (j : Judgement) → a ≡ false → otherwise (refuse_unless a n p) j ≡ refused n p
first-refused n p j e = rw e
