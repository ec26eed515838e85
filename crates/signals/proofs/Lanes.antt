-- Bits of words, lane by lane: the bit operations, a word with every bit set, and a word doubled. Assumes nothing.
use Prim.Native.Nat.{ℕ, zero, suc, ◌+◌, ◌-◌, ◌*◌, ◌/◌, ◌%◌, ◌^◌, ◌≤◌, ◌<◌, min, max}
use mathlib.Core.Bool.{Bool, true, false, ◌&&◌, ◌||◌}
use mathlib.Core.List.{List}
use mathlib.Core.Path.{◌≡◌, refl, sym, ap, ◌∙◌}
use native.Mathlib.Nat.{mod-lt, zero-lt-suc, div-one, pow-succ', div-div-eq-div-mul, zero-div}
use native.Mathlib.Omega.{arith}
use lib.Arith.{digits_mod}
use lib.Bits.{bit_and, bit_or, bit_xor, differ, and_step, or_step, xor_step, and_shr, or_shr, xor_shr}
use lib.Dec.{eqb}
use lib.ListN.{length, get_or, get_or-eq_default}
use lib.Pow.{pow_pos}
use Rattle.figure.specs.Figure.{is_odd, invert_if}
use Rattle.signals.specs.Signals.{lane}

-- ---- one law for the operations: `f` does with two digits what `on` does with two values

module _ (op f : ℕ → ℕ → ℕ) (on : Bool → Bool → Bool)
    (step : (a b : ℕ) → op a b ≡ op (a / 2) (b / 2) * 2 + f (a % 2) (b % 2))
    (shr : (a b k : ℕ) → op a b / 2 ^ k ≡ op (a / 2 ^ k) (b / 2 ^ k))
    (digit : (x y : ℕ) → x < 2 → y < 2 → (f x y < 2) × (eqb (f x y) 1 ≡ on (eqb x 1) (eqb y 1))) where
  odd-op : (a b : ℕ) → is_odd (op a b) ≡ on (is_odd a) (is_odd b)
  odd-op a b =
      let two = digit (a % 2) (b % 2) (mod-lt a (zero-lt-suc 1)) (mod-lt b (zero-lt-suc 1)) in
      ap (λ (x : ℕ). eqb (x % 2) 1) (step a b)
      ∙ ap (λ (x : ℕ). eqb x 1) (digits_mod (op (a / 2) (b / 2)) {m = 2} {r = f (a % 2) (b % 2)} two.0)
      ∙ two.1

  lane-op : (l a b : ℕ) → lane l (op a b) ≡ on (lane l a) (lane l b)
  unfolding lane
  lane-op l a b = ap is_odd (shr a b l) ∙ odd-op (a / 2 ^ l) (b / 2 ^ l)

-- two digits, each 0 or 1
digits_of : (P : ℕ → ℕ → Type 0) → P 0 0 → P 0 1 → P 1 0 → P 1 1 → (x y : ℕ) → x < 2 → y < 2 → P x y
digits_of P a b c d zero zero l m = a
digits_of P a b c d zero (suc zero) l m = b
digits_of P a b c d (suc zero) zero l m = c
digits_of P a b c d (suc zero) (suc zero) l m = d
digits_of P a b c d zero (suc (suc y)) l m = absurd (omega arith)
digits_of P a b c d (suc zero) (suc (suc y)) l m = absurd (omega arith)
digits_of P a b c d (suc (suc x)) y l m = absurd (omega arith)

abbrev DigitOf : (ℕ → ℕ → ℕ) → (Bool → Bool → Bool) → ℕ → ℕ → Type 0
DigitOf f on x y = (f x y < 2) × (eqb (f x y) 1 ≡ on (eqb x 1) (eqb y 1))

pub lane_xor : (l a b : ℕ) → lane l (bit_xor a b) ≡ invert_if (lane l a) (lane l b)
lane_xor =
    lane-op bit_xor differ invert_if xor_step xor_shr
    (digits_of (DigitOf differ invert_if) (omega arith, refl) (omega arith, refl) (omega arith, refl) (omega arith, refl))

pub lane_and : (l a b : ℕ) → lane l (bit_and a b) ≡ lane l a && lane l b
lane_and =
    lane-op bit_and min ◌&&◌ and_step and_shr
    (digits_of (DigitOf min ◌&&◌) (omega arith, refl) (omega arith, refl) (omega arith, refl) (omega arith, refl))

pub lane_or : (l a b : ℕ) → lane l (bit_or a b) ≡ lane l a || lane l b
lane_or =
    lane-op bit_or max ◌||◌ or_step or_shr
    (digits_of (DigitOf max ◌||◌) (omega arith, refl) (omega arith, refl) (omega arith, refl) (omega arith, refl))

-- ---- 0 has no bit, and the doubled word has every bit one lane higher

pub lane-zero : (l : ℕ) → lane l 0 ≡ false
unfolding lane
lane-zero l = ap is_odd (zero-div (2 ^ l))

pub lane_first : (w b : ℕ) → lane 0 (2 * w + b % 2) ≡ is_odd b
unfolding lane
lane_first w b =
    let e : (2 * w + b % 2) / 2 ^ 0 % 2 ≡ b % 2 = omega (arith, div-one (2 * w + b % 2)) in
    ap (λ (x : ℕ). eqb x 1) e

pub lane-later : (w b l : ℕ) → lane (suc l) (2 * w + b % 2) ≡ lane l w
unfolding lane
lane-later w b l =
    let e : (2 * w + b % 2) / 2 ≡ w = omega arith in
    ap is_odd (ap (λ (k : ℕ). (2 * w + b % 2) / k) (pow-succ' 2 l) ∙ sym (div-div-eq-div-mul (2 * w + b % 2) 2 (2 ^ l)) ∙ ap (λ (x : ℕ). x / 2 ^ l) e)

-- ---- the lowest k bits all set: those lanes, and no other

ones-more : (k : ℕ) → 2 ^ suc k - 1 ≡ 2 * (2 ^ k - 1) + 1 % 2
ones-more k = omega (arith, pow-succ' 2 k, pow_pos k)

pub ones_below : (k l : ℕ) → l < k → lane l (2 ^ k - 1) ≡ true
ones_below zero l less = absurd (omega arith)
ones_below (suc k) zero less = ap (lane 0) (ones-more k) ∙ lane_first (2 ^ k - 1) 1
ones_below (suc k) (suc l) less = ap (lane (suc l)) (ones-more k) ∙ lane-later (2 ^ k - 1) 1 l ∙ ones_below k l (omega arith)

pub ones-past : (k l : ℕ) → k ≤ l → lane l (2 ^ k - 1) ≡ false
ones-past zero l less = lane-zero l
ones-past (suc k) zero less = absurd (omega arith)
ones-past (suc k) (suc l) less = ap (lane (suc l)) (ones-more k) ∙ lane-later (2 ^ k - 1) 1 l ∙ ones-past k l (omega arith)

-- ---- a word packed from the last pattern to pattern k: it has the bits of input i in them, pattern k's lowest, and nothing above

pub record Packed (patterns : List ℕ) (i word k : ℕ) : Type 0 where
  pub small : word < 2 ^ (length patterns - k)
  pub bits : (l : ℕ) → lane l word ≡ is_odd (get_or patterns (k + l) 0 / 2 ^ i)

module _ (patterns : List ℕ) (i : ℕ) where
  pub packed_none : Packed patterns i 0 (length patterns)
  packed_none =
      record {
        small = pow_pos (length patterns - length patterns);
        bits =
            λ l.
            let past = get_or-eq_default patterns 0 {n = length patterns + l} (omega arith) in
            lane-zero l ∙ sym (ap (λ (x : ℕ). is_odd (x / 2 ^ i)) past ∙ ap is_odd (zero-div (2 ^ i)));
      }

  pub packed_more : (word k : ℕ) → k < length patterns → Packed patterns i word (suc k) → Packed patterns i (2 * word + get_or patterns k 0 / 2 ^ i % 2) k
  packed_more word k h p =
      let e : length patterns - k ≡ suc (length patterns - suc k) = omega arith in
      record {
        small = rw e (omega (arith, p.small, pow-succ' 2 (length patterns - suc k)));
        bits = λ l. go l;
      }
    where
      go : (l : ℕ) → lane l (2 * word + get_or patterns k 0 / 2 ^ i % 2) ≡ is_odd (get_or patterns (k + l) 0 / 2 ^ i)
      go zero = lane_first word (get_or patterns k 0 / 2 ^ i) ∙ ap (λ (n : ℕ). is_odd (get_or patterns n 0 / 2 ^ i)) (omega arith)
      go (suc l) = lane-later word (get_or patterns k 0 / 2 ^ i) l ∙ p.bits l ∙ ap (λ (n : ℕ). is_odd (get_or patterns n 0 / 2 ^ i)) (omega arith)
