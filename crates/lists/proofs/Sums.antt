-- Sums F 0 + .. + F (k - 1), term by term. Assumes nothing.
use Prim.Native.Nat.{ℕ, zero, suc, ◌+◌, ◌*◌, ◌≤◌, ◌<◌}
use mathlib.Core.Bool.{false, true≢false}
use mathlib.Core.List.{List}
use mathlib.Core.Logic.{◌≢◌, ⊎_elim, by_cases}
use mathlib.Core.Path.{◌≡◌, refl, sym, ap, ap₂, ◌∙◌}
use native.Mathlib.Decide.{dec_lt, ℕ_discrete}
use native.Mathlib.Nat.{eq-zero-or-pos, eq-or-lt_of_le, le_of_suc-le-suc}
use native.Mathlib.Numerals.{add-one}
use native.Mathlib.Omega.{arith}
use lib.ListN.{length, get_or, get_or-eq_default}
use Rattle.lists.specs.Lists.{sum_below, all_zero}
use Rattle.lists.proofs.Every.{zero-passes}

-- the first term apart from the others
pub sum_first : (F : ℕ → ℕ) (k : ℕ) → sum_below (suc k) F ≡ F 0 + sum_below k (λ j. F (suc j))
sum_first F zero = omega arith
sum_first F (suc k) = omega (arith, sum_first F k)

-- one turn of a loop that adds up
pub sum_more : (F : ℕ → ℕ) (k s x : ℕ) → s ≡ sum_below k F → x ≡ F k → s + x ≡ sum_below (k + 1) F
sum_more F k s x e f = rw add-one (ap₂ ◌+◌ e f)

pub sum_same : (F H : ℕ → ℕ) (k : ℕ) → ((j : ℕ) → j < k → F j ≡ H j) → sum_below k F ≡ sum_below k H
sum_same F H zero h = refl
sum_same F H (suc k) h = ap₂ ◌+◌ (sum_same F H k (λ j l. h j (omega arith))) (h k (omega arith))

-- terms that are zero from j on add nothing
pub sum_zeros : (F : ℕ → ℕ) (j k : ℕ) → ((i : ℕ) → j ≤ i → i < j + k → F i ≡ 0) → sum_below (j + k) F ≡ sum_below j F
sum_zeros F j zero h =
    let none : j + 0 ≡ j = omega arith in
    ap (λ (i : ℕ). sum_below i F) none
sum_zeros F j (suc k) h =
    let last : j + suc k ≡ suc (j + k) = omega arith in
    omega (
      arith,
      ap (λ (i : ℕ). sum_below i F) last,
      sum_zeros F j k (λ i from to. h i from (omega arith)),
      h (j + k) (omega arith) (omega arith),
    )

-- a term is at most the sum, and a sum that is not zero has a term that is not
pub sum-term : (F : ℕ → ℕ) (k j : ℕ) → j < k → F j ≤ sum_below k F
sum-term F zero j l = absurd (omega arith)
sum-term F (suc k) j l =
    ⊎_elim
    (λ e. omega (arith, ap F e))
    (λ less. omega (arith, sum-term F k j less))
    (eq-or-lt_of_le (le_of_suc-le-suc l))

pub sum-some : (F : ℕ → ℕ) (k : ℕ) → 0 < sum_below k F → (j : ℕ) × (j < k) × (0 < F j)
sum-some F zero h = absurd (omega arith)
sum-some F (suc k) h =
    ⊎_elim
    (λ z. let w = sum-some F k (omega arith) in (w.0, omega (arith, w.1), w.2))
    (λ p. (k, omega arith, p))
    (eq-zero-or-pos (F k))

-- terms of at most b, and terms of at most u times those of another sum
pub sum-bounded : (F : ℕ → ℕ) (b k : ℕ) → ((j : ℕ) → j < k → F j ≤ b) → sum_below k F ≤ k * b
sum-bounded F b zero h = omega arith
sum-bounded F b (suc k) h = omega (arith, sum-bounded F b k (λ j l. h j (omega arith)), h k (omega arith))

pub sum-scaled : (F H : ℕ → ℕ) (u k : ℕ) → ((j : ℕ) → j < k → F j ≤ u * H j) → sum_below k F ≤ u * sum_below k H
sum-scaled F H u zero h = omega arith
sum-scaled F H u (suc k) h = omega (arith, sum-scaled F H u k (λ j l. h j (omega arith)), h k (omega arith))

-- entries that are not all zero have a sum
pub some-sum : (xs : List ℕ) → all_zero xs ≡ false → 0 < sum_below (length xs) (λ i. get_or xs i 0)
some-sum xs e =
    by_cases
    (dec_lt 0 (sum_below (length xs) (λ i. get_or xs i 0)))
    (λ l. l)
    (λ no.
    absurd
    (true≢false
    (sym
    (zero-passes
    xs
    (λ i.
    by_cases
    (dec_lt i (length xs))
    (λ l. omega (arith, sum-term (λ i. get_or xs i 0) (length xs) i l))
    (λ past. get_or-eq_default xs 0 (omega arith))))
    ∙ e)))

-- one term changed
pub sum-changed : (F H : ℕ → ℕ) (g k : ℕ) → g < k → ((j : ℕ) → j < k → j ≢ g → F j ≡ H j) → sum_below k F + H g ≡ sum_below k H + F g
sum-changed F H g zero l same = absurd (omega arith)
sum-changed F H g (suc k) l same =
    by_cases (ℕ_discrete g k)
    (λ e.
    let before = sum_same F H k (λ j m. same j (omega arith) (λ x. omega arith)) in
    omega (arith, before, ap F e, ap H e))
    (λ other.
    let before = sum-changed F H g k (omega arith) (λ j m n. same j (omega arith) n) in
    omega (arith, before, same k (omega arith) (λ x. other (sym x))))
