-- A gate's answer and its failure figure, on lists: document 01, "The netlist image" (truth table) and "The figures", steps 1 to 3.
-- A gate's pins stand in lists, pin 0 first. `u` is the number of units in one.
use Rattle.std.specs.Prelude.{ℕ, zero, suc, ◌+◌, ◌-◌, ◌*◌, ◌/◌, ◌%◌, ◌^◌, Bool, true, false, cond, not, List, [], ◌∷◌, map, length, get_or, eqb}
use Rattle.std.specs.Bool.{beq}
use Rattle.rounding.specs.Rounding.{blend}

-- a value as a number, and the lowest bit of a number as a value
abbrev pub bit_of : Bool → ℕ
bit_of b = cond b 1 0

abbrev pub is_odd : ℕ → Bool
is_odd x = eqb (x % 2) 1

-- the sum of pin i's value × 2^i
abbrev pub index_of : List Bool → ℕ
index_of [] = 0
index_of (b ∷ bs) = bit_of b + 2 * index_of bs

-- the table's answer: its bit at that index
unfoldable pub answer : ℕ → List Bool → Bool
answer table vs = is_odd (table / 2 ^ index_of vs)

-- a value, inverted where the first bit is set
abbrev pub invert_if : Bool → Bool → Bool
invert_if e v = cond e (not v) v

-- values, each inverted where the bit beside it is set
abbrev pub inverted : List Bool → List Bool → List Bool
inverted [] es = []
inverted (v ∷ vs) [] = v ∷ vs
inverted (v ∷ vs) (e ∷ es) = invert_if e v ∷ inverted vs es

-- two lists in turn: the first of each, the second of each, ..
abbrev pub interleave {ℓ} : {A : Type ℓ} → List A → List A → List A
interleave [] ys = []
interleave (x ∷ xs) [] = []
interleave (x ∷ xs) (y ∷ ys) = x ∷ y ∷ interleave xs ys

-- the 2^a error patterns of a pins in rising order: bit i, here place i, says that pin i is wrong
abbrev pub error_patterns : ℕ → List (List Bool)
error_patterns zero = [] ∷ []
error_patterns (suc a) = interleave (map (λ (e : List Bool). false ∷ e) (error_patterns a)) (map (λ (e : List Bool). true ∷ e) (error_patterns a))

-- step 1 for one error pattern: u where the table's answer under it differs from the right one, else 0
unfoldable pub difference : ℕ → ℕ → List Bool → List Bool → ℕ
difference u table vs e = cond (beq (answer table (inverted vs e)) (answer table vs)) 0 u

-- step 1
unfoldable pub start_values : ℕ → ℕ → List Bool → List ℕ
start_values u table vs = map (difference u table vs) (error_patterns (length vs))

-- step 2 for one pin with failure f: each pair (pin right, pin wrong) becomes one value
abbrev pub fold_step : ℕ → ℕ → List ℕ → List ℕ
fold_step u f [] = []
fold_step u f (r ∷ []) = []
fold_step u f (r ∷ w ∷ xs) = blend u r w f ∷ fold_step u f xs

-- step 2: the pins in turn, pin 0 first; the last value
abbrev pub fold_pins : ℕ → List ℕ → List ℕ → ℕ
fold_pins u [] xs = get_or xs 0 0
fold_pins u (f ∷ fs) xs = fold_pins u fs (fold_step u f xs)

-- step 3, the gate step: from the last value m and the flip p
unfoldable pub gate_step : ℕ → ℕ → ℕ → ℕ
gate_step u m p = blend u m (u - m) p

-- a gate's failure from its table, its pins' right values and failures, and its flip, all in units
unfoldable pub gate_failure : ℕ → ℕ → List Bool → List ℕ → ℕ → ℕ
gate_failure u table vs fs p = gate_step u (fold_pins u fs (start_values u table vs)) p

-- the output product: the reliability s after one more output whose failure is f
unfoldable pub output_step : ℕ → ℕ → ℕ → ℕ
output_step u s f = blend u s 0 f

-- a source's word, as the work area holds it for a gate: 2 × failure + right value
abbrev pub right_of : ℕ → Bool
right_of w = is_odd w

abbrev pub failure_of : ℕ → ℕ
failure_of w = w / 2

-- a gate's word from its table, its pins' words, pin 0 first, and its flip
unfoldable pub gate_word : ℕ → ℕ → List ℕ → ℕ → ℕ
gate_word u table ws p =
    2 * gate_failure u table (map right_of ws) (map failure_of ws) p + bit_of (answer table (map right_of ws))
