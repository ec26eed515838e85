-- Rows that a source does not tell apart: its words are the same in them. Assumes nothing.
use Prim.Native.Nat.{ℕ, zero, suc, ◌+◌, ◌-◌, ◌*◌, ◌/◌, ◌%◌, ◌^◌, ◌≤◌, ◌<◌}
use mathlib.Core.List.{List}
use mathlib.Core.Logic.{⊎_elim, by_cases}
use mathlib.Core.Path.{◌≡◌, sym, ap, subst, ◌∙◌}
use native.Mathlib.Decide.{dec_lt}
use native.Mathlib.Nat.{eq-or-lt_of_le}
use native.Mathlib.Omega.{arith}
use lib.ListN.{length, get_or}
use lib.Pow.{shr-shr}
use Rattle.lists.proofs.Every.{map_same}
use Rattle.figure.specs.Figure.{failure_of, gate_word}
use Rattle.rounding.specs.Rounding.{units_in_one}
use Rattle.area.specs.Layout.{inputs, gates, table, flip, pin_count, used_pins}
use Rattle.area.specs.Rules.{NetSound}
use Rattle.area.specs.Figures.{gate_word_from}
use Rattle.area.proofs.Words.{used-count, used-pin, used-below}
use Rattle.rows.specs.Rows.{row_length}
use Rattle.rows.proofs.Lanes.{low_bit}
use Rattle.plan.specs.Plan.{row_inputs, row_bits, Unseen}
use Rattle.average.specs.Blocks.{word_for, row_pattern, row_count, Block, RowsHeld}
use Rattle.average.proofs.BlockWords.{word-input, word-gate}

-- a gate's word from the same words of its pins
gate-by : (ws : List ℕ) (j : ℕ) (f h : ℕ → ℕ) → ((i : ℕ) → i < length (used_pins ws j) → f (get_or (used_pins ws j) i 0) ≡ h (get_or (used_pins ws j) i 0))
    → gate_word_from f ws j ≡ gate_word_from h ws j
unfolding gate_word_from
gate-by ws j f h same = ap (λ (us : List ℕ). gate_word units_in_one (table ws j) us (flip ws j)) (map_same f h (used_pins ws j) same)

-- two patterns that a source which does not see the lowest k bits of a row's number does not tell apart
record SameFor (n k q p : ℕ) : Type 0 where
  low : (i : ℕ) → i < n → i < row_inputs → q / 2 ^ i % 2 ≡ p / 2 ^ i % 2
  high : (i : ℕ) → i < n → k + row_inputs ≤ i → q / 2 ^ i % 2 ≡ p / 2 ^ i % 2

module _ (ws : List ℕ) (net : NetSound ws) (unseen : List ℕ) (known : Unseen ws unseen (gates ws)) (q p : ℕ) where
  abbrev Same : ℕ → Type 0
  Same s = SameFor (inputs ws) (get_or unseen s 0) q p → word_for ws q s ≡ word_for ws p s

  word_same : (b : ℕ) → b ≤ gates ws → (s : ℕ) → s < inputs ws + b → Same s
  word_same zero few s l =
      λ same.
      let input : s < inputs ws = omega arith in
      word-input ws net q s input
      ∙ by_cases (dec_lt s row_inputs) (same.low s input)
      (λ later. same.high s input (known.bits.input s (omega arith) input))
      ∙ sym (word-input ws net p s input)
  word_same (suc b) few s l =
      ⊎_elim
      (λ e. subst Same (sym e) (gate_same (word_same b (omega arith))))
      (λ before. word_same b (omega arith) s before)
      (eq-or-lt_of_le {n = s} {m = inputs ws + b} (omega arith))
    where
      gate_same : ((t : ℕ) → t < inputs ws + b → Same t) → Same (inputs ws + b)
      gate_same before same =
          word-gate ws net q b (omega arith)
          ∙ gate-by ws b (word_for ws q) (word_for ws p)
          (λ i used.
          let inside : i < pin_count ws b = omega (arith, used-count ws net b (omega arith)) in
          let less = rw (used-pin ws net b (omega arith) i inside) at (known.gate b i (omega arith) inside) in
          before (get_or (used_pins ws b) i 0) (used-below ws net b (omega arith) i used)
          (record { low = same.low; high = λ k few more. same.high k few (omega (arith, less)) }))
          ∙ sym (word-gate ws net p b (omega arith))

-- ---- patterns of two rows

-- the first five inputs have the same values in every row
low-inputs : (a l i : ℕ) → i < row_inputs → (row_length * a + l) / 2 ^ i % 2 ≡ l / 2 ^ i % 2
low-inputs a l zero less = omega arith
low-inputs a l (suc zero) less = omega arith
low-inputs a l (suc (suc zero)) less = omega arith
low-inputs a l (suc (suc (suc zero))) less = omega arith
low-inputs a l (suc (suc (suc (suc zero)))) less = omega arith
low-inputs a l (suc (suc (suc (suc (suc i))))) less = absurd (omega arith)

-- input 5 + k + m is bit k + m of the row's number
high-input : (a l k m : ℕ) → l < row_length → (row_length * a + l) / 2 ^ (row_inputs + (k + m)) ≡ a / 2 ^ k / 2 ^ m
high-input a l k m less =
    let number : (row_length * a + l) / 2 ^ row_inputs ≡ a = omega arith in
    sym (shr-shr (row_length * a + l) row_inputs (k + m)) ∙ ap (λ (x : ℕ). x / 2 ^ (k + m)) number ∙ sym (shr-shr a k m)

rows_same : (n a b k l : ℕ) → l < row_length → a / 2 ^ k ≡ b / 2 ^ k → SameFor n k ((row_length * a + l) % 2 ^ n) ((row_length * b + l) % 2 ^ n)
rows_same n a b k l less e =
    record {
      low =
          λ i few low.
          low_bit n (row_length * a + l) i few
          ∙ low-inputs a l i low
          ∙ sym (low_bit n (row_length * b + l) i few ∙ low-inputs b l i low);
      high =
          λ i few high.
          let m = i - (k + row_inputs) in
          let place : i ≡ row_inputs + (k + m) = omega arith in
          low_bit n (row_length * a + l) i few
          ∙ ap (λ (j : ℕ). (row_length * a + l) / 2 ^ j % 2) place
          ∙ ap (λ (x : ℕ). x % 2) (high-input a l k m less ∙ ap (λ (x : ℕ). x / 2 ^ m) e ∙ sym (high-input b l k m less))
          ∙ ap (λ (j : ℕ). (row_length * b + l) / 2 ^ j % 2) (sym place)
          ∙ sym (low_bit n (row_length * b + l) i few);
    }

-- ---- rows that are held

-- every source tells the number of no row from those of rows
none-same : (k a : ℕ) → k ≤ row_bits → a < row_count → row_count / 2 ^ k ≡ a / 2 ^ k → ⊥
none-same zero a few less e = omega arith
none-same (suc zero) a few less e = omega arith
none-same (suc (suc zero)) a few less e = omega arith
none-same (suc (suc (suc zero))) a few less e = omega arith
none-same (suc (suc (suc (suc zero)))) a few less e = omega arith
none-same (suc (suc (suc (suc (suc zero))))) a few less e = omega arith
none-same (suc (suc (suc (suc (suc (suc zero)))))) a few less e = omega arith
none-same (suc (suc (suc (suc (suc (suc (suc zero))))))) a few less e = omega arith
none-same (suc (suc (suc (suc (suc (suc (suc (suc k)))))))) a few less e = omega arith

module _ (ws unseen rows : List ℕ) (net : NetSound ws) (known : Unseen ws unseen (gates ws)) where
  pub held_none : RowsHeld ws unseen rows row_count
  held_none number less j from inside live same l few = absurd (none-same (get_or unseen (inputs ws + j) 0) number (known.bits.few (inputs ws + j)) less same)

  -- what has been worked out for a row is held for every row that a gate does not tell from it
  pub held-block : (held : ℕ) → Block ws rows (row_length * held) (gates ws) → RowsHeld ws unseen rows held
  held-block held block number less j from inside live same l few =
      block j inside live l few
      ∙ ap failure_of
      (word_same ws net unseen known (row_pattern ws (row_length * held) l) (row_pattern ws (row_length * number) l) (gates ws) (omega arith) (inputs ws + j)
      (omega arith)
      (rows_same (inputs ws) held number (get_or unseen (inputs ws + j) 0) l few same))
