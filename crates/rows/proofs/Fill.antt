-- Rows filled from the front, one turn of a loop after another. Assumes nothing.
use Prim.Native.Nat.{ℕ, ◌+◌, ◌≤◌, ◌<◌}
use mathlib.Core.Path.{◌≡◌, ◌∙◌}
use mathlib.Core.List.{List}
use native.Mathlib.Omega.{arith}
use borrow.Author.Count.{below_more}
use lib.ListN.{length, get_or, set, length-set}
use lib.Seq.{get_or-set_same, get_or-set_other}

-- of n entries the first l are those of F
abbrev pub Filled : ℕ → (ℕ → ℕ) → List ℕ → ℕ → Type 0
Filled n F row l = (l ≤ n) × (length row ≡ n) × ((m : ℕ) → m < l → get_or row m 0 ≡ F m)

-- a turn stores one more
pub fill-turn : (n : ℕ) (F : ℕ → ℕ) (row : List ℕ) (l entry : ℕ) → Filled n F row l → l < n → entry ≡ F l → Filled n F (set row l entry) (l + 1)
fill-turn n F row l entry inv less e = (
  omega arith,
  length-set row l entry ∙ inv.1,
  below_more (λ (m : ℕ). get_or (set row l entry) m 0 ≡ F m) l
      (λ m h. get_or-set_other row l m entry 0 (λ same. omega arith) ∙ inv.2 m h)
      (get_or-set_same row l entry 0 (omega (arith, inv.1)) ∙ e),
)
