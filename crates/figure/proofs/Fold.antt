-- The fold of step 2 on lists of numbers is the fold on functions of the pins' errors. Assumes nothing.
use Prim.Native.Nat.{ℕ}
use mathlib.Core.Bool.{Bool, true, false}
use mathlib.Core.List.{List, [], ◌∷◌, map}
use mathlib.Core.Path.{◌≡◌, refl, ap, ◌∙◌}
use lib.ListN.{length}
use Rattle.rounding.specs.Rounding.{blend}
use Rattle.figure.specs.Figure.{interleave, error_patterns, fold_step, fold_pins}

-- the pins in turn, pin 0 first, on a function W of which pins are wrong
abbrev pub fold_over : ℕ → List ℕ → (List Bool → ℕ) → ℕ
fold_over u [] W = W []
fold_over u (f ∷ fs) W = fold_over u fs (λ es. blend u (W (false ∷ es)) (W (true ∷ es)) f)

-- one step folds each pair of neighbours
step : (u f : ℕ) (W : List Bool → ℕ) (g h : List Bool → List Bool) (E : List (List Bool))
    → fold_step u f (map W (interleave (map g E) (map h E))) ≡ map (λ (e : List Bool). blend u (W (g e)) (W (h e)) f) E
step u f W g h [] = refl
step u f W g h (e ∷ E) = ap (λ (xs : List ℕ). blend u (W (g e)) (W (h e)) f ∷ xs) (step u f W g h E)

pub fold_pins-over : (u : ℕ) (fs : List ℕ) (W : List Bool → ℕ) → fold_pins u fs (map W (error_patterns (length fs))) ≡ fold_over u fs W
fold_pins-over u [] W = refl
fold_pins-over u (f ∷ fs) W =
    ap (fold_pins u fs) (step u f W (λ e. false ∷ e) (λ e. true ∷ e) (error_patterns (length fs)))
    ∙ fold_pins-over u fs (λ es. blend u (W (false ∷ es)) (W (true ∷ es)) f)
