-- Laws of the searches, entry by entry. Assumes nothing.
use Prim.Native.Nat.{ℕ, zero, suc, ◌+◌, ◌-◌, ◌<◌, ◌≤◌}
use mathlib.Core.Path.{◌≡◌, refl, ap₂}
use mathlib.Core.Bool.{Bool, true, false}
use mathlib.Core.List.{List, [], ◌∷◌, ◌++◌}
use native.Mathlib.Nat.{add-zero, zero-add}
use native.Mathlib.Numerals.{add-one}
use native.Mathlib.Omega.{arith}
use lib.ListN.{length, get_or, set}
use lib.Seq.{get_or-set_same, get_or-set_other}
use borrow.Author.Tests.{lt-ltb, le-ltb}
use Rattle.placing.specs.Placing.{placed_source, all_placed, ready, passed, placing, placing_order, entries}

one_less : (n i : ℕ) → i < n → n - i ≡ suc (n - (i + 1))
one_less n i h = omega arith

none_left : (n i : ℕ) → n ≤ i → n - i ≡ 0
none_left n i h = omega arith

module _ (n : ℕ) (place pins : List ℕ) (end i : ℕ) (here : i < end) where
  pub placed-more : placed_source n place (get_or pins i 0) ≡ true
      → all_placed n place (entries pins i (end - i)) ≡ all_placed n place (entries pins (i + 1) (end - (i + 1)))
  placed-more e = rw (one_less end i here, e, add-one)

  pub placed-stop : placed_source n place (get_or pins i 0) ≡ false → all_placed n place (entries pins i (end - i)) ≡ false
  placed-stop e = rw (one_less end i here, e)

module _ (n : ℕ) (place pins : List ℕ) (start many i : ℕ) where
  pub placed_end : many ≤ i → all_placed n place (entries pins (start + i) (many - i)) ≡ true
  placed_end h = rw (none_left many i h)

module _ (S : ℕ → List ℕ) (n : ℕ) (place : List ℕ) (g j : ℕ) where
  pub next_here : j < g → ready S n place j ≡ true → passed S n place j (g - j) ≡ 0
  next_here h e = rw (one_less g j h, e)

  pub next-later : j < g → ready S n place j ≡ false → passed S n place j (g - j) ≡ suc (passed S n place (j + 1) (g - (j + 1)))
  next-later h e = rw (one_less g j h, e, add-one)

-- what the search finds is ready
pub found-ready : (S : ℕ → List ℕ) (n : ℕ) (place : List ℕ) (j k : ℕ) → passed S n place j k < k → ready S n place (j + passed S n place j k) ≡ true
found-ready S n place j zero h = absurd (omega arith)
found-ready S n place j (suc k) h = go (ready S n place j) refl (found-ready S n place (suc j) k)
  where
    go : (b : Bool) → ready S n place j ≡ b → (passed S n place (suc j) k < k → ready S n place (suc j + passed S n place (suc j) k) ≡ true)
        → ready S n place (j + passed S n place j (suc k)) ≡ true
    go true e ih = rw (e, add-zero) e
    go false e ih = rw (e, ← shift (passed S n place (suc j) k)) (ih (less (rw e at h)))
      where
        shift : (i : ℕ) → suc j + i ≡ j + suc i
        shift i = omega arith

        less : suc (passed S n place (suc j) k) < suc k → passed S n place (suc j) k < k
        less l = omega arith

-- placing goes on, and stops
module _ (S : ℕ → List ℕ) (n g q : ℕ) (place : List ℕ) where
  pub placing-stop : (f : ℕ) → g ≤ passed S n place 0 g → placing S n g f q place ≡ place
  placing-stop zero h = refl
  placing-stop (suc f) h = rw (le-ltb (passed S n place 0 g) g h)

  pub placing-more : (f j : ℕ) → j ≡ passed S n place 0 g → j < g → placing S n g (suc f) q place ≡ placing S n g f (q + 1) (set place j (q + 1))
  placing-more f j e h = rw (← e, lt-ltb j g h, add-one)

  pub order-stop : (f : ℕ) → g ≤ passed S n place 0 g → placing_order S n g f q place ≡ []
  order-stop zero h = refl
  order-stop (suc f) h = rw (le-ltb (passed S n place 0 g) g h)

  pub order-more : (f j : ℕ) → j ≡ passed S n place 0 g → j < g → placing_order S n g (suc f) q place ≡ j ∷ placing_order S n g f (q + 1) (set place j (q + 1))
  order-more f j e h = rw (← e, lt-ltb j g h, add-one)

-- entries of a table: one more, and those that a store past them leaves
pub entries-more : (s : List ℕ) (i k : ℕ) → entries s i (suc k) ≡ entries s i k ++ (get_or s (i + k) 0 ∷ [])
entries-more s i zero = rw add-zero
entries-more s i (suc k) = rw (entries-more s (suc i) k, shift)
  where
    shift : suc i + k ≡ i + suc k
    shift = omega arith

pub entries-same : (s r : List ℕ) (i k : ℕ) → ((x : ℕ) → x < i + k → get_or r x 0 ≡ get_or s x 0) → entries r i k ≡ entries s i k
entries-same s r i zero h = refl
entries-same s r i (suc k) h = ap₂ ◌∷◌ (h i (omega arith)) (entries-same s r (suc i) k (λ x l. h x (omega arith)))

pub entries-set : (s : List ℕ) (q j : ℕ) → q < length s → entries (set s q j) 0 (q + 1) ≡ entries s 0 q ++ (j ∷ [])
entries-set s q j h =
    rw (
      add-one,
      entries-more (set s q j) 0 q,
      entries-same s (set s q j) 0 q (λ x l. get_or-set_other s q x j 0 (λ e. omega arith)),
      zero-add,
      get_or-set_same s q j 0 h,
    )

pub passed-short : (S : ℕ → List ℕ) (n : ℕ) (place : List ℕ) (j k : ℕ) → passed S n place j k ≤ k
passed-short S n place j zero = omega arith
passed-short S n place j (suc k) = go (ready S n place j) refl (passed-short S n place (suc j) k)
  where
    go : (b : Bool) → ready S n place j ≡ b → passed S n place (suc j) k ≤ k → passed S n place j (suc k) ≤ suc k
    go true e h = rw e (omega arith)
    go false e h = rw e (omega arith)
