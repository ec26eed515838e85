-- The first gate that depends on itself. Assumes nothing.
use Prim.Native.Nat.{ℕ, zero, suc, ◌+◌, ◌<◌}
use mathlib.Core.Path.{◌≡◌, refl, sym, subst}
use mathlib.Core.Bool.{Bool, true, false, not}
use mathlib.Core.List.{List}
use mathlib.Core.Logic.{by_cases}
use native.Mathlib.Decide.{dec_lt}
use native.Mathlib.Nat.{zero-add}
use native.Mathlib.Omega.{arith}
use lib.ListN.{get_or, set}
use lib.Seq.{get_or-set_other}
use lib.Dec.{eqb}
use borrow.Author.Tests.{eqb-true}
use Rattle.refusal.specs.Judgement.{Fine, refused}
use Rattle.refusal.specs.Judgement.{lowest, refuse_unless}
use Rattle.refusal.proofs.Laws.{fine-lowest, lowest-fine, lowest-answer, lowest-more, unless-fine}
use Rattle.placing.specs.Placing.{Reads, Depends, via, loop_fault, left, Kept, Placed}
use Rattle.placing.proofs.Via.{via-depends, depends-via}
use Rattle.placing.proofs.Placed.{no_loop, left-none}
use Rattle.placing.proofs.Loop.{none-ready, loop}
use Rattle.loops.specs.Marks.{Clear, Answers}
use Rattle.loops.proofs.Marks.{by_number}
use Rattle.refusal.specs.declared.Cause.TheVariants.{TextModel}

-- where some of k gates are left, one is not placed
waiting-one : (place : List ℕ) (k : ℕ) → 0 < left place k → (j : ℕ) × (j < k) × (get_or place j 0 ≡ 0)
waiting-one place zero h = absurd (omega arith)
waiting-one place (suc k) h = go (eqb (get_or place k 0) 0) refl (waiting-one place k)
  where
    go : (b : Bool) → eqb (get_or place k 0) 0 ≡ b → (0 < left place k → (j : ℕ) × (j < k) × (get_or place j 0 ≡ 0)) → (j : ℕ) × (j < suc k) × (get_or place j 0 ≡ 0)
    go true e ih = (k, omega arith, eqb-true (get_or place k 0) 0 e)
    go false e ih =
        let w = ih (rw e at h) in
        (w.0, omega (arith, w.1), w.2)

module _ (S : ℕ → List ℕ) (n g : ℕ) (known : (j i : ℕ) → j < g → Reads S n j i → i < g) where
  no_way : (j : ℕ) → (Depends S n j j → ⊥) → via S n g j j ≡ false
  no_way j none = go (via S n g j j) refl
    where
      go : (b : Bool) → via S n g j j ≡ b → via S n g j j ≡ false
      go true e = absurd (none (via-depends S n g j j e))
      go false e = e

  -- what the marks answer is the test
  pub answered : (j : ℕ) (r : Bool) → j < g → Answers S n j r → r ≡ via S n g j j
  answered j true h a = sym (depends-via S n g known j j h (a.right refl))
  answered j false h a = sym (no_way j (a.wrong refl))

  -- a gate that the search has passed has an entry
  pub cleared : (clear : List ℕ) (j : ℕ) (r : Bool) → Clear S n clear → Answers S n j r → r ≡ false → Clear S n (set clear j 1)
  cleared clear j r old a e i =
      by_number (λ i. 0 < get_or (set clear j 1) i 0 → Depends S n i i → ⊥) j i (λ _. a.wrong e)
      (λ o h. old i (subst (λ (x : ℕ). 0 < x) (get_or-set_other clear j i 1 0 o) h))

  -- where all are placed no gate depends on itself
  pub none-loops : (place order : List ℕ) → Kept S n g g place order → (line : ℕ → ℕ) → loop_fault S n g line ≡ Fine
  unfolding loop_fault
  none-loops place order kept line =
      fine-lowest (λ (j : ℕ). refuse_unless (not (via S n g j j)) TextModel (line j)) g
      (λ j h. rw (no_way j (no_loop S n g g place order kept j (left-none place g (omega (arith, kept.count)) j h))))

  -- where no gate depends on itself all are placed
  pub all_placed-all : (start place order : List ℕ) (q : ℕ) → Placed S n g start q place order → (line : ℕ → ℕ) → loop_fault S n g line ≡ Fine → q ≡ g
  unfolding loop_fault
  all_placed-all start place order q placed line fine =
      by_cases (dec_lt 0 (left place g)) (λ some. absurd (stuck some)) (λ none. omega (arith, placed.kept.count))
    where
      free : (j : ℕ) → j < g → Depends S n j j → ⊥
      free j h d =
          let no : not (via S n g j j) ≡ true = unless-fine _ TextModel (line j) (lowest-fine (λ (j : ℕ). refuse_unless (not (via S n g j j)) TextModel (line j)) g j h fine) in
          let yes_way : via S n g j j ≡ true = depends-via S n g known j j h d in
          let z : ◌≡◌ {A = Bool} false true = rw yes_way at no in
          let y : ◌≡◌ {A = ℕ} 0 1 = cc in
          omega arith

      stuck : 0 < left place g → ⊥
      stuck some =
          let w = waiting-one place g some in
          let c = loop S n g place known (λ j h. rw zero-add at (none-ready S n place 0 g placed.over j h)) w.0 w.1 w.2 in
          free c.at c.below c.by

  -- the search, gate by gate
  pub search-stops : (line : ℕ → ℕ) (j x : ℕ) → j < g → lowest (λ (i : ℕ). refuse_unless (not (via S n g i i)) TextModel (line i)) j ≡ Fine → via S n g j j ≡ true → x ≡ line j
      → refused TextModel x ≡ loop_fault S n g line
  unfolding loop_fault
  search-stops line j x h fine e q =
      lowest-answer (λ (i : ℕ). refuse_unless (not (via S n g i i)) TextModel (line i)) g j TextModel x h fine (rw (e, q))

  pub search-on : (line : ℕ → ℕ) (j : ℕ) → lowest (λ (i : ℕ). refuse_unless (not (via S n g i i)) TextModel (line i)) j ≡ Fine → via S n g j j ≡ false
      → lowest (λ (i : ℕ). refuse_unless (not (via S n g i i)) TextModel (line i)) (j + 1) ≡ Fine
  search-on line j fine e = lowest-more (λ (i : ℕ). refuse_unless (not (via S n g i i)) TextModel (line i)) j fine (rw e)

  pub search-ends : (line : ℕ → ℕ) (j : ℕ) → j ≡ g → lowest (λ (i : ℕ). refuse_unless (not (via S n g i i)) TextModel (line i)) j ≡ Fine → Fine ≡ loop_fault S n g line
  unfolding loop_fault
  search-ends line j e fine = sym (subst (λ (k : ℕ). lowest (λ (i : ℕ). refuse_unless (not (via S n g i i)) TextModel (line i)) k ≡ Fine) e fine)
