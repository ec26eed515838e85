-- One fold step in an array, pair by pair, is `fold_step` of the list. Assumes nothing.
use Prim.Native.Nat.{ℕ, zero, suc, ◌+◌, ◌*◌, ◌≤◌, ◌<◌}
use mathlib.Core.Path.{◌≡◌, refl, sym, ap, ap₂, ◌∙◌}
use mathlib.Core.List.{List, [], ◌∷◌}
use native.Mathlib.Omega.{arith}
use lib.ListN.{length, get_or, take, length-take}
use lib.Seq.{get_or-take, ext_get_or, length-take-le}
use Rattle.rounding.specs.Rounding.{blend}
use Rattle.rounding.proofs.Laws.{blend-at-most}
use Rattle.figure.specs.Figure.{fold_step}

-- pair k of the list, folded
abbrev pub pair_at : ℕ → ℕ → List ℕ → ℕ → ℕ
pair_at u f xs k = blend u (get_or xs (2 * k) 0) (get_or xs (2 * k + 1) 0) f

-- `fold_step` by places
pub at-fold_step : (u f : ℕ) (xs : List ℕ) (k : ℕ) → 2 * k + 1 < length xs → get_or (fold_step u f xs) k 0 ≡ pair_at u f xs k
at-fold_step u f [] k h = absurd (none h)
  where
    none : 2 * k + 1 < 0 → ⊥
    none h = omega arith
at-fold_step u f (r ∷ []) k h = absurd (none h)
  where
    none : 2 * k + 1 < 1 → ⊥
    none h = omega arith
at-fold_step u f (r ∷ w ∷ xs) zero h = refl
at-fold_step u f (r ∷ w ∷ xs) (suc k) h =
    let even : suc (suc (2 * k)) ≡ 2 * suc k = omega arith in
    let odd : suc (suc (2 * k + 1)) ≡ 2 * suc k + 1 = omega arith in
    at-fold_step u f xs k (omega arith)
    ∙ ap₂ (λ (i j : ℕ). blend u (get_or (r ∷ w ∷ xs) i 0) (get_or (r ∷ w ∷ xs) j 0) f) even odd

pub length-fold_step : (u f : ℕ) (h : ℕ) (xs : List ℕ) → length xs ≡ 2 * h → length (fold_step u f xs) ≡ h
length-fold_step u f h [] e = omega arith
length-fold_step u f h (r ∷ []) e = omega arith
length-fold_step u f zero (r ∷ w ∷ xs) e = omega arith
length-fold_step u f (suc h) (r ∷ w ∷ xs) e = ap suc (length-fold_step u f h xs (omega arith))

-- an array whose front has the pairs of another, folded, has the fold step of what stood there in front
pub folded : (u f : ℕ) (xs ys : List ℕ) (half : ℕ) → half ≤ length ys → 2 * half ≤ length xs
    → ((k : ℕ) → k < half → get_or ys k 0 ≡ pair_at u f xs k) → take half ys ≡ fold_step u f (take (2 * half) xs)
folded u f xs ys half room h done =
    ext_get_or 0 (take half ys) (fold_step u f (take (2 * half) xs))
    (length-take-le half ys room ∙ sym (length-fold_step u f half (take (2 * half) xs) (length-take-le (2 * half) xs h)))
    (λ i hi.
    let l : i < half = omega (arith, length-take half ys) in
    get_or-take half ys i 0 l
    ∙ done i l
    ∙ sym (ap₂ (λ (r w : ℕ). blend u r w f) (get_or-take (2 * half) xs (2 * i) 0 (omega arith)) (get_or-take (2 * half) xs (2 * i + 1) 0 (omega arith)))
    ∙ sym (at-fold_step u f (take (2 * half) xs) i (omega (arith, length-take-le (2 * half) xs h))))

-- and no value there passes u
pub folded_fits : (u f : ℕ) (xs ys : List ℕ) (half : ℕ) → ((k : ℕ) → k < half → get_or ys k 0 ≡ pair_at u f xs k) → 0 < u → f ≤ u
    → ((i : ℕ) → i < 2 * half → get_or xs i 0 ≤ u) → (i : ℕ) → i < half → get_or ys i 0 ≤ u
folded_fits u f xs ys half done pos small fits i l =
    rw (done i l) (blend-at-most u (get_or xs (2 * i) 0) (get_or xs (2 * i + 1) 0) f u pos small (fits (2 * i) (omega arith)) (fits (2 * i + 1) (omega arith)))
