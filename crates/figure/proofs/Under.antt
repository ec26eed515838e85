-- Lists that keep a bound: what each step keeps, and what a part of an array has of it. Assumes nothing.
use Prim.Native.Nat.{ℕ, zero, suc, ◌+◌, ◌-◌, ◌*◌, ◌%◌, ◌≤◌, ◌<◌}
use mathlib.Core.Bool.{Bool, true, false, cond}
use mathlib.Core.Path.{◌≡◌, sym, ap, ◌∙◌}
use mathlib.Core.List.{List, [], ◌∷◌, map}
use native.Mathlib.Nat.{mul-le-mul_right, one-mul, zero-mod, mod_self}
use native.Mathlib.Omega.{arith}
use lib.ListN.{get_or, take}
use lib.Seq.{get_or-take}
use Rattle.rounding.proofs.Laws.{blend-at-most}
use Rattle.figure.specs.Figure.{fold_step}
use Rattle.figure.specs.Steps.{Pin, room, spread_step, spread_pin, spread_pins, NoneOrAll}

-- every element, and the 0 past the end, keeps the bound b after r is added
abbrev pub Under : ℕ → ℕ → List ℕ → Type 0
Under b r xs = (i : ℕ) → get_or xs i 0 + r ≤ b

-- the elements of an array whose part is a list; and where that list keeps a bound
pub in-part : (xs ys : List ℕ) (n : ℕ) → take n xs ≡ ys → (i : ℕ) → i < n → get_or xs i 0 ≡ get_or ys i 0
in-part xs ys n e i l = sym (get_or-take n xs i 0 l) ∙ ap (λ (zs : List ℕ). get_or zs i 0) e

pub part : (b r : ℕ) (xs ys : List ℕ) (n : ℕ) → take n xs ≡ ys → Under b r ys → (i : ℕ) → i < n → get_or xs i 0 + r ≤ b
part b r xs ys n e h i l = omega (arith, in-part xs ys n e i l, h i)

-- what is taken once at the most; so a pin adds at most its bit
pub once : (count x : ℕ) → count ≤ 1 → count * x ≤ x
once count x h = omega (arith, mul-le-mul_right {m = count} {n = 1} x h, one-mul x)

pub added : (word bit : ℕ) → word % 2 * bit ≤ bit
added word bit = once (word % 2) bit (omega arith)

under-step : (b r right wrong : ℕ) (xs : List ℕ) → Under b (right + wrong + r) xs → Under b r (spread_step right wrong xs)
under-step b r right wrong [] h i = omega (arith, h i)
under-step b r right wrong (x ∷ xs) h zero = omega (arith, h 0)
under-step b r right wrong (x ∷ xs) h (suc zero) = omega (arith, h 0)
under-step b r right wrong (x ∷ xs) h (suc (suc i)) = under-step b r right wrong xs (λ j. h (suc j)) i

pub under-pin : (b r word bit : ℕ) (xs : List ℕ) → Under b (bit + r) xs → Under b r (spread_pin word bit xs)
under-pin b r word bit xs h =
    under-step b r (word % 2 * bit) (bit - word % 2 * bit) xs (λ i. omega (arith, h i, added word bit))

pub under-fold : (u f : ℕ) (xs : List ℕ) → 0 < u → f ≤ u → Under u 0 xs → Under u 0 (fold_step u f xs)
under-fold u f [] pos hf h i = h i
under-fold u f (r ∷ []) pos hf h i = omega arith
under-fold u f (r ∷ w ∷ xs) pos hf h zero = omega (arith, blend-at-most u r w f u pos hf (omega (arith, h 0)) (omega (arith, h 1)))
under-fold u f (r ∷ w ∷ xs) pos hf h (suc i) = under-fold u f xs pos hf (λ j. h (suc (suc j))) i

choice : (u : ℕ) (b : Bool) → NoneOrAll u (cond b 0 u)
choice u true = (zero-mod u, omega arith)
choice u false = (mod_self u, omega arith)

-- start values are 0 or u
pub choices : {A : Type 0} (u : ℕ) (test : A → Bool) (es : List A) (i : ℕ) → NoneOrAll u (get_or (map (λ (e : A). cond (test e) 0 u) es) i 0)
choices u test [] i = choice u true
choices u test (e ∷ es) zero = choice u (test e)
choices u test (e ∷ es) (suc i) = choices u test es i

pub under-choices : {A : Type 0} (u : ℕ) (test : A → Bool) (es : List A) → Under u 0 (map (λ (e : A). cond (test e) 0 u) es)
under-choices u test es i = omega (arith, (choices u test es i).1)

under_one : (b r x : ℕ) → x + r ≤ b → Under b r (x ∷ [])
under_one b r x h zero = h
under_one b r x h (suc i) = omega arith

-- indices that pins spread from `start`
pub under_pins : (b r start : ℕ) (ps : List Pin) → start + room ps + r ≤ b → Under b r (spread_pins ps (start ∷ []))
under_pins b r start [] h = under_one b r start (omega arith)
under_pins b r start (p ∷ ps) h =
    under-pin b r p.word p.bit (spread_pins ps (start ∷ [])) (under_pins b (p.bit + r) start ps (omega arith))
