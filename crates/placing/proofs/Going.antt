-- What is known while gates are placed. Assumes nothing.
use Prim.Native.Nat.{ℕ, ◌+◌, ◌<◌, ◌≤◌}
use mathlib.Core.Path.{◌≡◌, refl, ap, sym, ◌∙◌}
use mathlib.Core.Bool.{true}
use mathlib.Core.List.{List, ◌++◌, append_assoc, append-nil}
use native.Mathlib.Nat.{zero-add}
use native.Mathlib.Omega.{arith}
use lib.ListN.{set}
use Rattle.placing.specs.Placing.{ready, passed, placing, placing_order, entries, left, Kept, Placed}
use Rattle.placing.proofs.Placed.{placed, fewer, room}
use Rattle.placing.proofs.Search.{found-ready, placing-more, placing-stop, order-more, order-stop, entries-set}

pub record Going (S : ℕ → List ℕ) (n g : ℕ) (start : List ℕ) (q : ℕ) (place order : List ℕ) (gate : ℕ) : Type 0 where
  pub kept : Kept S n g q place order
  pub said : placing S n g (left place g) q place ≡ placing S n g g 0 start
  pub next : gate ≡ passed S n place 0 g
  pub listed : entries order 0 q ++ placing_order S n g (left place g) q place ≡ placing_order S n g g 0 start

pub begin : (S : ℕ → List ℕ) (n g : ℕ) (place order : List ℕ) (gate : ℕ) → Kept S n g 0 place order → gate ≡ passed S n place 0 g → Going S n g place 0 place order gate
begin S n g place order gate kept e =
    let all : left place g ≡ g = omega (arith, kept.count) in
    record { kept = kept; said = rw all refl; next = e; listed = rw all refl }

-- the same, said of the gate that the search found
pub at_found : {S : ℕ → List ℕ} {n g : ℕ} {start : List ℕ} {q : ℕ} {place order : List ℕ} {gate found : ℕ}
    → Going S n g start q place order gate → found ≡ passed S n place 0 g → Going S n g start q place order found
at_found going e = record { kept = going.kept; said = going.said; next = e; listed = going.listed }

module _ (S : ℕ → List ℕ) (n g : ℕ) (start : List ℕ) (q : ℕ) (place order : List ℕ) (gate : ℕ)
    (going : Going S n g start q place order gate) (within : g ≤ 1024) where
  module _ (inside : gate < g) where
    free : ready S n place gate ≡ true
    free = rw (zero-add, ← going.next) at (found-ready S n place 0 g (rw (← going.next) inside))

    pub less : left (set place gate (q + 1)) g < left place g
    less = omega (arith, fewer S n g q place order going.kept within gate inside free)

    pub roomy : q < g
    roomy = room S n g q place order going.kept within gate inside free

    pub turn : (new : ℕ) → new ≡ passed S n (set place gate (q + 1)) 0 g → Going S n g start (q + 1) (set place gate (q + 1)) (set order q gate) new
    turn new e =
        record {
          kept = placed S n g q place order going.kept within gate inside free;
          said =
              sym (placing-more S n g q place (left (set place gate (q + 1)) g) gate going.next inside)
              ∙ ap (λ (f : ℕ). placing S n g f q place) (fewer S n g q place order going.kept within gate inside free)
              ∙ going.said;
          next = e;
          listed =
              rw (entries-set order q gate (omega (arith, roomy, going.kept.wide)), append_assoc)
              (ap (λ (xs : List ℕ). entries order 0 q ++ xs)
              (sym (order-more S n g q place (left (set place gate (q + 1)) g) gate going.next inside)
              ∙ ap (λ (f : ℕ). placing_order S n g f q place) (fewer S n g q place order going.kept within gate inside free))
              ∙ going.listed);
        }

  pub finish : g ≤ gate → gate ≤ g → Placed S n g start q place order
  finish past low =
      let all : gate ≡ g = omega arith in
      record {
        kept = going.kept;
        as_said = sym (placing-stop S n g q place (left place g) (omega (arith, going.next))) ∙ going.said;
        over = sym going.next ∙ all;
        ordered =
            sym (append-nil (entries order 0 q))
            ∙ ap (λ (xs : List ℕ). entries order 0 q ++ xs) (sym (order-stop S n g q place (left place g) (omega (arith, going.next))))
            ∙ going.listed;
      }
