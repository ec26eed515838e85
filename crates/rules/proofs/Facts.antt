-- The tests of rules 5 and 6, and of the counts, as facts, both ways. Assumes nothing.
use Prim.Native.Nat.{ℕ, zero, suc, ◌+◌, ◌-◌, ◌*◌, ◌%◌, ◌^◌, ◌≤◌, ◌<◌}
use mathlib.Core.Bool.{Bool, true, ◌&&◌, and-eq-true_iff}
use mathlib.Core.List.{List, [], ◌∷◌}
use mathlib.Core.Path.{◌≡◌, refl, sym, ap, ◌∙◌}
use native.Mathlib.Nat.{one-mul}
use native.Mathlib.Omega.{arith}
use borrow.Author.Tests.{leb-true, le-leb, ltb-true, lt-ltb, eqb-true, eq-eqb}
use lib.Dec.{leb, ltb, eqb}
use lib.ListN.{length, get_or, take, drop, length-take}
use lib.Pow.{shl_exact}
use lib.Seq.{get_or-take, get_or-drop}
use Rattle.area.specs.Layout.{most_pins, most_inputs, most_gates, most_outputs, gates, outputs, outputs_index, output_words, needed}
use Rattle.lists.specs.Lists.{all_zero, all_below}
use Rattle.area.specs.Rules.{gate_shape, used_below, counts_in_range}

-- both of two tests, apart and together
pub both : (a b : Bool) → a && b ≡ true → (a ≡ true) × (b ≡ true)
both a b e = (and-eq-true_iff a b).0 e

pub join : (a b : Bool) → a ≡ true → b ≡ true → a && b ≡ true
join a b p q = (and-eq-true_iff a b).1 (p, q)

-- every element zero, every element below b; past the end get_or has 0
pub zero-holds : (xs : List ℕ) → all_zero xs ≡ true → (i : ℕ) → get_or xs i 0 ≡ 0
zero-holds [] e i = refl
zero-holds (x ∷ xs) e zero = eqb-true x 0 (both (eqb x 0) (all_zero xs) e).0
zero-holds (x ∷ xs) e (suc i) = zero-holds xs (both (eqb x 0) (all_zero xs) e).1 i

pub zero-passes : (xs : List ℕ) → ((i : ℕ) → get_or xs i 0 ≡ 0) → all_zero xs ≡ true
zero-passes [] f = refl
zero-passes (x ∷ xs) f = join (eqb x 0) (all_zero xs) (eq-eqb x 0 (f 0)) (zero-passes xs (λ i. f (suc i)))

pub below_holds : (b : ℕ) (xs : List ℕ) → all_below b xs ≡ true → (i : ℕ) → i < length xs → get_or xs i 0 < b
below_holds b [] e i h = absurd (omega arith)
below_holds b (x ∷ xs) e zero h = ltb-true x b (both (ltb x b) (all_below b xs) e).0
below_holds b (x ∷ xs) e (suc i) h = below_holds b xs (both (ltb x b) (all_below b xs) e).1 i (omega arith)

pub below-passes : (b : ℕ) (xs : List ℕ) → ((i : ℕ) → i < length xs → get_or xs i 0 < b) → all_below b xs ≡ true
below-passes b [] f = refl
below-passes b (x ∷ xs) f =
    join (ltb x b) (all_below b xs) (lt-ltb x b (f 0 (omega arith))) (below-passes b xs (λ i h. f (suc i) (omega arith)))

-- rule 5
pub record Shape (a table : ℕ) (ps : List ℕ) : Type 0 where
  pub few_pins : a ≤ most_pins
  pub table_bits : table < 2 ^ 2 ^ a
  pub unused_zero : (i : ℕ) → a ≤ i → get_or ps i 0 ≡ 0

pub shape-holds : (a table : ℕ) (ps : List ℕ) → gate_shape a table ps ≡ true → Shape a table ps
unfolding gate_shape
shape-holds a table ps e =
    let p = both (leb a most_pins) (ltb table (2 ^ 2 ^ a) && all_zero (drop a ps)) e in
    let q = both (ltb table (2 ^ 2 ^ a)) (all_zero (drop a ps)) p.1 in
    record {
      few_pins = leb-true a most_pins p.0;
      table_bits = ltb-true table (2 ^ 2 ^ a) q.0;
      unused_zero = λ i h. at i h (zero-holds (drop a ps) q.1 (i - a));
    }
  where
    at : (i : ℕ) → a ≤ i → get_or (drop a ps) (i - a) 0 ≡ 0 → get_or ps i 0 ≡ 0
    at i h z =
        let s : i ≡ a + (i - a) = omega arith in
        ap (λ (k : ℕ). get_or ps k 0) s ∙ sym (get_or-drop a ps (i - a) 0) ∙ z

pub shape-passes : (a table : ℕ) (ps : List ℕ) → Shape a table ps → gate_shape a table ps ≡ true
unfolding gate_shape
shape-passes a table ps s =
    join (leb a most_pins) (ltb table (2 ^ 2 ^ a) && all_zero (drop a ps)) (le-leb a most_pins s.few_pins)
    (join (ltb table (2 ^ 2 ^ a)) (all_zero (drop a ps)) (lt-ltb table (2 ^ 2 ^ a) s.table_bits)
    (zero-passes (drop a ps) (λ i. get_or-drop a ps i 0 ∙ s.unused_zero (a + i) (omega arith))))

-- rule 6
pub used-holds : (limit a : ℕ) (ps : List ℕ) → used_below limit a ps ≡ true → (i : ℕ) → i < a → i < length ps → get_or ps i 0 < limit
unfolding used_below
used-holds limit a ps e i h l =
    rw (get_or-take a ps i 0 h) at (below_holds limit (take a ps) e i (rw length-take (omega arith)))

pub used-passes : (limit a : ℕ) (ps : List ℕ) → ((i : ℕ) → i < a → get_or ps i 0 < limit) → used_below limit a ps ≡ true
unfolding used_below
used-passes limit a ps f = below-passes limit (take a ps) at
  where
    at : (i : ℕ) → i < length (take a ps) → get_or (take a ps) i 0 < limit
    at i h =
        let l : i < a = omega (arith, length-take a ps) in
        rw (get_or-take a ps i 0 l) (f i l)

-- rule 14, the counts
pub counts_hold : (n g k : ℕ) → counts_in_range n g k ≡ true → (n ≤ most_inputs) × (g ≤ most_gates) × (1 ≤ k) × (k ≤ most_outputs)
unfolding counts_in_range
counts_hold n g k e =
    let p = both (leb n most_inputs) (leb g most_gates && (leb 1 k && leb k most_outputs)) e in
    let q = both (leb g most_gates) (leb 1 k && leb k most_outputs) p.1 in
    let r = both (leb 1 k) (leb k most_outputs) q.1 in
    (leb-true n most_inputs p.0, leb-true g most_gates q.0, leb-true 1 k r.0, leb-true k most_outputs r.1)

pub counts-pass : (n g k : ℕ) → n ≤ most_inputs → g ≤ most_gates → 1 ≤ k → k ≤ most_outputs → counts_in_range n g k ≡ true
unfolding counts_in_range
counts-pass n g k a b c d =
    join (leb n most_inputs) (leb g most_gates && (leb 1 k && leb k most_outputs)) (le-leb n most_inputs a)
    (join (leb g most_gates) (leb 1 k && leb k most_outputs) (le-leb g most_gates b) (join (leb 1 k) (leb k most_outputs) (le-leb 1 k c) (le-leb k most_outputs d)))

-- 2^n of so few inputs, by a shift
pub shifted : (n : ℕ) → n ≤ most_inputs → 1 * 2 ^ n % 2 ^ 32 ≡ 2 ^ n
shifted n h = shl_exact 1 n 32 (omega arith) (omega arith) ∙ one-mul (2 ^ n)

-- the output words by their start and end
pub middle : (ws : List ℕ) → take (needed (gates ws) (outputs ws) - outputs_index (gates ws)) (drop (outputs_index (gates ws)) ws) ≡ output_words ws
middle ws =
    let z : needed (gates ws) (outputs ws) - outputs_index (gates ws) ≡ outputs ws = omega arith in
    ap (λ (k : ℕ). take k (drop (outputs_index (gates ws)) ws)) z
