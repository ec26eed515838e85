-- The fold told by the values on the pins is the fold of document 01; a pin that cannot fail drops out, and no value passes U. Assumes nothing.
use Prim.Native.Nat.{ℕ, zero, suc, ◌+◌, ◌≤◌, ◌<◌}
use mathlib.Core.Bool.{Bool, true, false, cond, not, beq}
use mathlib.Core.List.{List, [], ◌∷◌, map}
use mathlib.Core.Path.{◌≡◌, refl, sym, ap, ap₂, ◌∙◌, fun_ext}
use native.Mathlib.Nat.{add-zero}
use native.Mathlib.Omega.{arith}
use lib.ListN.{length, get_or}
use Rattle.rounding.specs.Rounding.{units_in_one, blend}
use Rattle.rounding.proofs.Laws.{blend-none, blend-at-most}
use Rattle.figure.specs.Figure.{answer, inverted, error_patterns, difference, start_values, fold_pins}
use Rattle.figure.proofs.Fold.{fold_over, fold_pins-over}
use Rattle.netlist.specs.Seen.{alone, differ}
use Rattle.rows.specs.Rows.{value_if}
use Rattle.folds.specs.Failing.{fold_first}

-- ---- values inverted from place k on

abbrev inverted_from : ℕ → List Bool → List Bool → List Bool
inverted_from zero vs es = inverted vs es
inverted_from (suc k) [] es = []
inverted_from (suc k) (v ∷ vs) es = v ∷ inverted_from k vs es

inverted-none : (vs : List Bool) → inverted vs [] ≡ vs
inverted-none [] = refl
inverted-none (v ∷ vs) = refl

from-none : (k : ℕ) (vs : List Bool) → inverted_from k vs [] ≡ vs
from-none zero vs = inverted-none vs
from-none (suc k) [] = refl
from-none (suc k) (v ∷ vs) = ap (λ (us : List Bool). v ∷ us) (from-none k vs)

-- place k right, and place k inverted
from-right : (k : ℕ) (vs es : List Bool) → inverted_from k vs (false ∷ es) ≡ inverted_from (suc k) vs es
from-right zero [] es = refl
from-right zero (v ∷ vs) es = refl
from-right (suc k) [] es = refl
from-right (suc k) (v ∷ vs) es = ap (λ (us : List Bool). v ∷ us) (from-right k vs es)

from_wrong : (k : ℕ) (vs es : List Bool) → inverted_from k vs (true ∷ es) ≡ inverted (inverted_from (suc k) vs es) (alone k)
from_wrong zero [] es = refl
from_wrong zero (v ∷ vs) es = ap (λ (us : List Bool). not v ∷ us) (sym (inverted-none (inverted vs es)))
from_wrong (suc k) [] es = refl
from_wrong (suc k) (v ∷ vs) es = ap (λ (us : List Bool). v ∷ us) (from_wrong k vs es)

-- ---- both folds

module _ (start : List Bool → ℕ) where
  fold-from : (failure : ℕ → ℕ) (vs : List Bool) (fs : List ℕ) (k : ℕ) → ((i : ℕ) → get_or fs i 0 ≡ failure (k + i))
      → fold_over units_in_one fs (λ es. fold_first start failure k (inverted_from k vs es)) ≡ fold_first start failure (k + length fs) vs
  fold-from failure vs [] k h =
      ap (fold_first start failure k) (from-none k vs) ∙ ap (λ (n : ℕ). fold_first start failure n vs) (sym (add-zero k))
  fold-from failure vs (f ∷ fs) k h =
      let here : f ≡ failure k = h 0 ∙ ap failure (add-zero k) in
      let next : suc k + length fs ≡ k + suc (length fs) = omega arith in
      ap (fold_over units_in_one fs)
      (fun_ext (λ es.
      let us = inverted_from (suc k) vs es in
      ap₂ (λ (us ws : List Bool). blend units_in_one (fold_first start failure k us) (fold_first start failure k ws) f) (from-right k vs es) (from_wrong k vs es)
      ∙ ap (blend units_in_one (fold_first start failure k us) (fold_first start failure k (inverted us (alone k)))) here))
      ∙ fold-from failure vs fs (suc k) (λ i. h (suc i) ∙ ap failure (place i))
      ∙ ap (λ (n : ℕ). fold_first start failure n vs) next
    where
      place : (i : ℕ) → k + suc i ≡ suc k + i
      place i = omega arith

  -- a pin that cannot fail drops out
  pub drop-last : (failure : ℕ → ℕ) (k : ℕ) (vs : List Bool) → failure k ≡ 0 → fold_first start failure (suc k) vs ≡ fold_first start failure k vs
  drop-last failure k vs e =
      ap (blend units_in_one (fold_first start failure k vs) (fold_first start failure k (inverted vs (alone k)))) e
      ∙ blend-none units_in_one (fold_first start failure k vs) (fold_first start failure k (inverted vs (alone k))) (omega arith)

  pub drop_all : (failure : ℕ → ℕ) (k : ℕ) (vs : List Bool) → ((i : ℕ) → i < k → failure i ≡ 0) → fold_first start failure k vs ≡ start vs
  drop_all failure zero vs h = refl
  drop_all failure (suc k) vs h = drop-last failure k vs (h k (omega arith)) ∙ drop_all failure k vs (λ i l. h i (omega arith))

  pub drop-end : (failure : ℕ → ℕ) (end more : ℕ) (vs : List Bool) → ((i : ℕ) → end ≤ i → i < end + more → failure i ≡ 0)
      → fold_first start failure (end + more) vs ≡ fold_first start failure end vs
  drop-end failure end zero vs h = ap (λ (n : ℕ). fold_first start failure n vs) (add-zero end)
  drop-end failure end (suc more) vs h =
      let next : end + suc more ≡ suc (end + more) = omega arith in
      ap (λ (n : ℕ). fold_first start failure n vs) next
      ∙ drop-last failure (end + more) vs (h (end + more) (omega arith) (omega arith))
      ∙ drop-end failure end more vs (λ i low high. h i low (omega arith))

  -- no value passes U
  pub first-at-most : (failure : ℕ → ℕ) (k : ℕ) (vs : List Bool) → ((us : List Bool) → start us ≤ units_in_one)
      → ((i : ℕ) → i < k → failure i ≤ units_in_one) → fold_first start failure k vs ≤ units_in_one
  first-at-most failure zero vs s h = s vs
  first-at-most failure (suc k) vs s h =
      blend-at-most units_in_one (fold_first start failure k vs) (fold_first start failure k (inverted vs (alone k))) (failure k) units_in_one (omega arith)
      (h k (omega arith))
      (first-at-most failure k vs s (λ i l. h i (omega arith)))
      (first-at-most failure k (inverted vs (alone k)) s (λ i l. h i (omega arith)))

-- start values and failures that are the same
pub first-same : (start fresh : List Bool → ℕ) (failure new : ℕ → ℕ) (k : ℕ) (vs : List Bool) → ((us : List Bool) → start us ≡ fresh us)
    → ((i : ℕ) → i < k → failure i ≡ new i) → fold_first start failure k vs ≡ fold_first fresh new k vs
first-same start fresh failure new zero vs s h = s vs
first-same start fresh failure new (suc k) vs s h =
    ap₂ (λ (r w : ℕ). blend units_in_one r w (failure k))
    (first-same start fresh failure new k vs s (λ i l. h i (omega arith)))
    (first-same start fresh failure new k (inverted vs (alone k)) s (λ i l. h i (omega arith)))
    ∙ ap (blend units_in_one (fold_first fresh new k vs) (fold_first fresh new k (inverted vs (alone k)))) (h k (omega arith))

pub value-fits : (b : Bool) → value_if b ≤ units_in_one
value-fits true = omega arith
value-fits false = omega arith

-- ---- the fold of document 01

value_of : (a b : Bool) → cond (beq a b) 0 units_in_one ≡ value_if (differ a b)
value_of true true = refl
value_of true false = refl
value_of false true = refl
value_of false false = refl

-- steps 1 and 2 of the figures
pub fold-all : (table : ℕ) (vs : List Bool) (fs : List ℕ) → length fs ≡ length vs
    → fold_pins units_in_one fs (start_values units_in_one table vs)
    ≡ fold_first (λ us. value_if (differ (answer table us) (answer table vs))) (λ i. get_or fs i 0) (length fs) vs
unfolding start_values difference
fold-all table vs fs e =
    let start : List Bool → ℕ = λ us. value_if (differ (answer table us) (answer table vs)) in
    ap (λ (n : ℕ). fold_pins units_in_one fs (map (difference units_in_one table vs) (error_patterns n))) (sym e)
    ∙ fold_pins-over units_in_one fs (difference units_in_one table vs)
    ∙ ap (fold_over units_in_one fs) (fun_ext (λ es. value_of (answer table (inverted vs es)) (answer table vs)))
    ∙ fold-from start (λ i. get_or fs i 0) vs fs 0 (λ i. ap (λ (k : ℕ). get_or fs k 0) (from_zero i))
    ∙ ap (λ (n : ℕ). fold_first start (λ i. get_or fs i 0) n vs) (sym (from_zero (length fs)))
  where
    from_zero : (i : ℕ) → i ≡ 0 + i
    from_zero i = omega arith
