-- Laws of a gate's figures: no value passes u, and the code's fold is the figure of document 01. Assumes nothing.
use Prim.Native.Nat.{ℕ, zero, suc, ◌+◌, ◌-◌, ◌*◌, ◌/◌, ◌%◌, ◌^◌, ◌≤◌, ◌<◌}
use mathlib.Core.Bool.{Bool, true, false, cond, not, beq}
use mathlib.Core.Path.{◌≡◌, refl, sym, ap, ap₂, ◌∙◌, fun_ext}
use mathlib.Core.List.{List, [], ◌∷◌, map}
use native.Mathlib.Omega.{arith}
use lib.Dec.{eqb}
use lib.ListN.{length, length-map}
use Rattle.rounding.proofs.Laws.{blend-at-most}
use Rattle.figure.specs.Figure.{bit_of, index_of, invert_if, inverted, interleave, error_patterns, answer, difference, start_values}
use Rattle.figure.specs.Figure.{fold_step, fold_pins, gate_step, gate_failure, output_step, right_of, failure_of, gate_word}
use Rattle.figure.specs.Steps.{Pin, numbered, spread_step, spread_pins, differs, last_value, right_index, right_bit, pins_word}
use Rattle.figure.proofs.Under.{Under, under-fold, under-choices}

fold-at-most : (u : ℕ) → 0 < u → (fs xs : List ℕ) → Under u 0 fs → Under u 0 xs → fold_pins u fs xs ≤ u
fold-at-most u pos [] xs hf h = omega (arith, h 0)
fold-at-most u pos (f ∷ fs) xs hf h = fold-at-most u pos fs (fold_step u f xs) (λ i. hf (suc i)) (under-fold u f xs pos (omega (arith, hf 0)) h)

module _ (u : ℕ) (pos : 0 < u) where
  pub last-at-most : (table : ℕ) (vs : List Bool) (fs : List ℕ) → Under u 0 fs → fold_pins u fs (start_values u table vs) ≤ u
  unfolding start_values difference
  last-at-most table vs fs hf =
      fold-at-most u pos fs _ hf (under-choices u (λ e. beq (answer table (inverted vs e)) (answer table vs)) (error_patterns (length vs)))

  pub gate-step-at-most : (m p : ℕ) → m ≤ u → p ≤ u → gate_step u m p ≤ u
  unfolding gate_step
  gate-step-at-most m p hm hp = blend-at-most u m (u - m) p u pos hp hm (omega arith)

  -- a gate's failure is at most u
  pub failure-at-most : (table : ℕ) (vs : List Bool) (fs : List ℕ) (p : ℕ) → Under u 0 fs → p ≤ u → gate_failure u table vs fs p ≤ u
  unfolding gate_failure
  failure-at-most table vs fs p hf hp = gate-step-at-most _ p (last-at-most table vs fs hf) hp

  -- so is the reliability after every output
  pub output-at-most : (s f : ℕ) → s ≤ u → f ≤ u → output_step u s f ≤ u
  unfolding output_step
  output-at-most s f hs hf = blend-at-most u s 0 f u pos hf hs (omega arith)

-- the lowest bit of a number as a value, back as a number
pub bit-odd : (x : ℕ) → bit_of (right_of x) ≡ x % 2
bit-odd x = go (x % 2) (omega arith)
  where
    go : (r : ℕ) → r < 2 → bit_of (eqb r 1) ≡ r
    go zero h = refl
    go (suc zero) h = refl
    go (suc (suc r)) h = absurd (none h)
      where
        none : suc (suc r) < 2 → ⊥
        none h = omega arith

-- what a wrong pin adds
bit-wrong : (w n : ℕ) → n - w % 2 * n ≡ bit_of (not (right_of w)) * n
bit-wrong w n = go (w % 2) (omega arith)
  where
    go : (r : ℕ) → r < 2 → n - r * n ≡ bit_of (not (eqb r 1)) * n
    go zero h = omega arith
    go (suc zero) h = omega arith
    go (suc (suc r)) h = absurd (none h)
      where
        none : suc (suc r) < 2 → ⊥
        none h = omega arith

-- two bits agree as values where they agree as numbers
beq-odd : (x y : ℕ) → x < 2 → y < 2 → beq (eqb x 1) (eqb y 1) ≡ eqb x y
beq-odd zero zero hx hy = refl
beq-odd zero (suc zero) hx hy = refl
beq-odd (suc zero) zero hx hy = refl
beq-odd (suc zero) (suc zero) hx hy = refl
beq-odd zero (suc (suc y)) hx hy = absurd (large hy)
  where
    large : suc (suc y) < 2 → ⊥
    large h = omega arith
beq-odd (suc zero) (suc (suc y)) hx hy = absurd (large hy)
  where
    large : suc (suc y) < 2 → ⊥
    large h = omega arith
beq-odd (suc (suc x)) y hx hy = absurd (large hx)
  where
    large : suc (suc x) < 2 → ⊥
    large h = omega arith

map-interleave : {A B : Type 0} (G : A → B) (xs ys : List A) → map G (interleave xs ys) ≡ interleave (map G xs) (map G ys)
map-interleave G [] ys = refl
map-interleave G (x ∷ xs) [] = refl
map-interleave G (x ∷ xs) (y ∷ ys) = ap (λ l. G x ∷ G y ∷ l) (map-interleave G xs ys)

map-spread : (D : ℕ → ℕ) (right wrong : ℕ) (xs : List ℕ)
    → map D (spread_step right wrong xs) ≡ interleave (map (λ (x : ℕ). D (x + right)) xs) (map (λ (x : ℕ). D (x + wrong)) xs)
map-spread D right wrong [] = refl
map-spread D right wrong (x ∷ xs) = ap (λ l. D (x + right) ∷ D (x + wrong) ∷ l) (map-spread D right wrong xs)

-- the index that an error pattern leads to, from x, where pin 0 has the bit p
abbrev at : ℕ → ℕ → List ℕ → List Bool → ℕ
at p x ws es = x + p * index_of (inverted (map right_of ws) es)

-- one side of a pin: right where e is false, wrong where it is true
side : (D : ℕ → ℕ) (p x add : ℕ) (e : Bool) (w : ℕ) (ws : List ℕ) → add ≡ bit_of (invert_if e (right_of w)) * p → (E : List (List Bool))
    → map (λ (es : List Bool). D (at (2 * p) x ws es + add)) E ≡ map (λ (es : List Bool). D (at p x (w ∷ ws) es)) (map (λ (es : List Bool). e ∷ es) E)
side D p x add e w ws h [] = refl
side D p x add e w ws h (es ∷ E) =
    let same : at (2 * p) x ws es + add ≡ at p x (w ∷ ws) (e ∷ es) = omega (arith, h) in
    ap₂ (λ (y : ℕ) (l : List ℕ). D y ∷ l) same (side D p x add e w ws h E)

-- the indices worked out pin by pin are those of the error patterns, in their order
spread_at : (D : ℕ → ℕ) (p x : ℕ) (ws : List ℕ)
    → map D (spread_pins (numbered p ws) (x ∷ [])) ≡ map (λ (es : List Bool). D (at p x ws es)) (error_patterns (length ws))
spread_at D p x [] =
    let none : x ≡ x + p * 0 = omega arith in
    ap (λ (y : ℕ). D y ∷ []) none
spread_at D p x (w ∷ ws) =
    let E = error_patterns (length ws) in
    let right = w % 2 * p in
    let wrong = p - w % 2 * p in
    map-spread D right wrong (spread_pins (numbered (2 * p) ws) (x ∷ []))
    ∙ ap₂ interleave
    (spread_at (λ y. D (y + right)) (2 * p) x ws ∙ side D p x right false w ws (ap (λ (b : ℕ). b * p) (sym (bit-odd w))) E)
    (spread_at (λ y. D (y + wrong)) (2 * p) x ws ∙ side D p x wrong true w ws (bit-wrong w p) E)
    ∙ sym (map-interleave (λ (es : List Bool). D (at p x (w ∷ ws) es)) (map (λ (e : List Bool). false ∷ e) E) (map (λ (e : List Bool). true ∷ e) E))

-- step 1 at an index is step 1 under the error pattern that leads there
at-index : (u table : ℕ) (ws : List ℕ) (es : List Bool)
    → differs u table (table / 2 ^ index_of (map right_of ws) % 2) (at 1 0 ws es) ≡ difference u table (map right_of ws) es
unfolding difference answer
at-index u table ws es =
    let vs = map right_of ws in
    let here : at 1 0 ws es ≡ index_of (inverted vs es) = omega arith in
    ap (λ (b : Bool). cond b 0 u)
    (ap (λ (x : ℕ). eqb (table / 2 ^ x % 2) (table / 2 ^ index_of vs % 2)) here
    ∙ sym (beq-odd (table / 2 ^ index_of (inverted vs es) % 2) (table / 2 ^ index_of vs % 2) (omega arith) (omega arith)))

numbered-failures : (p : ℕ) (ws : List ℕ) → map (λ (q : Pin). failure_of q.word) (numbered p ws) ≡ map failure_of ws
numbered-failures p [] = refl
numbered-failures p (w ∷ ws) = ap (λ (fs : List ℕ). failure_of w ∷ fs) (numbered-failures (2 * p) ws)

numbered-index : (x p : ℕ) (ws : List ℕ) → right_index x (numbered p ws) ≡ x + p * index_of (map right_of ws)
numbered-index x p [] = omega arith
numbered-index x p (w ∷ ws) =
    omega (arith, numbered-index x (2 * p) ws, ap (λ (b : ℕ). b * p) (bit-odd w))

-- the index where every pin is right
right-index : (ws : List ℕ) → right_index 0 (numbered 1 ws) ≡ index_of (map right_of ws)
right-index ws = numbered-index 0 1 ws ∙ omega arith

-- the code's last value is steps 1 and 2 of the figures
pub last-is : (u table right : ℕ) (ws : List ℕ) → right ≡ table / 2 ^ index_of (map right_of ws) % 2
    → last_value u table right 0 (numbered 1 ws) ≡ fold_pins u (map failure_of ws) (start_values u table (map right_of ws))
unfolding last_value start_values
last-is u table right ws e =
    let vs = map right_of ws in
    ap (λ (fs : List ℕ). fold_pins u fs (map (differs u table right) (spread_pins (numbered 1 ws) (0 ∷ [])))) (numbered-failures 1 ws)
    ∙ ap (fold_pins u (map failure_of ws))
    (ap (λ (r : ℕ). map (differs u table r) (spread_pins (numbered 1 ws) (0 ∷ []))) e
    ∙ spread_at (differs u table (table / 2 ^ index_of vs % 2)) 1 0 ws
    ∙ ap (λ (f : List Bool → ℕ). map f (error_patterns (length ws))) (fun_ext (λ es. at-index u table ws es))
    ∙ ap (λ (n : ℕ). map (difference u table vs) (error_patterns n)) (sym (length-map ws right_of)))

-- the word that the code makes of all pins is the gate's
pub word-is : (u table flip : ℕ) (ws : List ℕ) → pins_word u table 0 (numbered 1 ws) flip ≡ gate_word u table ws flip
unfolding pins_word gate_word gate_failure answer
word-is u table flip ws =
    let bit : right_bit table 0 (numbered 1 ws) ≡ table / 2 ^ index_of (map right_of ws) % 2
    = ap (λ (i : ℕ). table / 2 ^ i % 2) (right-index ws) in
    ap₂ (λ (m b : ℕ). 2 * gate_step u m flip + b)
    (last-is u table (right_bit table 0 (numbered 1 ws)) ws bit)
    (bit ∙ sym (bit-odd (table / 2 ^ index_of (map right_of ws))))
