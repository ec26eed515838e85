-- A loop over places 0 to k - 1 that judges each, stores its words after those before, and stops at the first refusal. Assumes nothing.
use Prim.Native.Nat.{ℕ, ◌+◌, ◌<◌}
use mathlib.Core.List.{List}
use mathlib.Core.Path.{◌≡◌, refl, sym, ap, ◌∙◌}
use lib.ListN.{length}
use lib.Seq.{sets, length-sets}
use Rattle.lists.specs.Lists.{joined}
use Rattle.lists.proofs.Joined.{joined-turn}
use Rattle.refusal.specs.Judgement.{Judgement}
use Rattle.refusal.specs.Judgement.{Fine, refused}
use Rattle.refusal.specs.Judgement.{lowest, otherwise}
use Rattle.std.specs.Prelude.{Err, IsErrAnd}
use Rattle.refusal.specs.declared.Refusal.{Refusal}
use Rattle.refusal.proofs.Laws.{passed-on, lowest-more, lowest-refused, otherwise-first, refused-not-fine}
use Rattle.refusal.specs.declared.Cause.{Cause}

-- before place j: of the words l those from base on are now those of the places passed, and none of these is refused
pub record Passed (f : ℕ → Judgement) (g : ℕ → List ℕ) (base : ℕ) (l : List ℕ) (j : ℕ) (ws : List ℕ) : Type 0 where
  pub kept : length ws ≡ length l
  pub fine : lowest f j ≡ Fine
  pub stored : ws ≡ sets l base (joined g j)

-- an answer, and the words where it is no refusal
abbrev pub Answered : Judgement → List ℕ → ℕ → List ℕ → Judgement → List ℕ → Type 0
Answered v l base vs r new = (r ≡ v) × (r ≡ Fine → new ≡ sets l base vs)

pub starts : (f : ℕ → Judgement) (g : ℕ → List ℕ) (base : ℕ) (l : List ℕ) → Passed f g base l 0 l
starts f g base l = record { kept = refl; fine = refl; stored = refl }

module _ {f : ℕ → Judgement} {g : ℕ → List ℕ} {base j : ℕ} {l ws : List ℕ} (passed : Passed f g base l j ws) where
  pub goes_on : (p : ℕ) (r : Judgement) (new : List ℕ) → p ≡ base + length (joined g j) → Answered (f j) ws p (g j) r new → r ≡ Fine
      → Passed f g base l (j + 1) new
  goes_on p r new e step told =
      let stored : new ≡ sets l base (joined g (j + 1)) = joined-turn g l ws new base j p e passed.stored (step.1 told) in
      record {
        kept = ap length stored ∙ length-sets l base (joined g (j + 1));
        fine = lowest-more f j passed.fine (sym step.0 ∙ told);
        stored = stored;
      }

  pub stops : (k : ℕ) (a : Cause) (p : ℕ) (r : Judgement) (new : List ℕ) → j < k → r ≡ f j → r ≡ refused a p
      → Answered (lowest f k) l base (joined g k) (refused a p) new
  stops k a p r new below step told =
      (sym (lowest-refused f k j a p below passed.fine (sym step ∙ told)), refused-not-fine a p)

  -- the refusal that a `?` hands on
  pub stops-on : (k : ℕ) (r out : Judgement) (new : List ℕ) (why : Refusal) → j < k → r ≡ f j → r ≡ Err why → IsErrAnd out (λ x. x ≡ why)
      → Answered (lowest f k) l base (joined g k) out new
  stops-on k r out new why below step told is = rw (passed-on out why is) (stops k why.cause why.place r new below step told)

  pub ends : (k : ℕ) → j ≡ k → Answered (lowest f k) l base (joined g k) Fine ws
  ends k e = (rw e at (sym passed.fine), λ q. rw e at passed.stored)

-- a first part that is refused, and what a `?` hands on of it
pub first-refused : {A : Type 0} (v w r : Judgement) (a : Cause) (p : ℕ) → r ≡ v → r ≡ refused a p → (refused a p ≡ otherwise v w) × (refused a p ≡ Fine → A)
first-refused v w r a p e told = (sym (otherwise-first v w a p (sym e ∙ told)), refused-not-fine a p)

pub first-refused-on : {A : Type 0} (v w r out : Judgement) (why : Refusal) → r ≡ v → r ≡ Err why → IsErrAnd out (λ x. x ≡ why)
    → (out ≡ otherwise v w) × (out ≡ Fine → A)
first-refused-on v w r out why e told is = rw (passed-on out why is) (first-refused v w r why.cause why.place e told)
