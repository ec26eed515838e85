-- A gate whose pins' sources change: none does where their words are all 0; else the answers on the words as they are and inverted by the changes differ
-- where the gate's answer changes. Assumes nothing.
use Prim.Native.Nat.{ℕ, zero, suc, ◌<◌}
use mathlib.Core.List.{List, [], ◌∷◌, map}
use mathlib.Core.Path.{◌≡◌, sym, ap, ap₂, ◌∙◌}
use native.Mathlib.Omega.{arith}
use lib.Bits.{bit_or, bit_xor, or_add_and, and_le_l, and_le_r}
use lib.ListN.{get_or}
use Rattle.figure.specs.Figure.{answer, invert_if}
use Rattle.netlist.specs.Seen.{differ}
use Rattle.area.specs.Layout.{most_pins, gates, table, pin_count, pin, pins}
use Rattle.area.specs.Rules.{NetSound}
use Rattle.area.proofs.Words.{pin_at}
use Rattle.signals.specs.Signals.{lane, pin_lanes}
use Rattle.signals.proofs.Lanes.{lane_xor, lane-zero}
use Rattle.signals.proofs.Answers.{differs}
use Rattle.signals.proofs.Held.{pins-lanes}
use Rattle.counts.specs.Counts.{right_answer, changed_answer}
use Rattle.counts.proofs.Windows.{no_change}

-- words without a one between them are 0
or-zero : (a b : ℕ) → bit_or a b ≡ 0 → (a ≡ 0) × (b ≡ 0)
or-zero a b e = (omega (arith, or_add_and a b, and_le_r a b), omega (arith, or_add_and a b, and_le_l a b))

module _ (ws words changed by : List ℕ) (sound : NetSound ws) (j : ℕ) (inside : j < gates ws)
    (read : by ≡ map (λ (p : ℕ). get_or changed p 0) (pins ws j)) where
  pub unchanged-answer : bit_or (bit_or (bit_or (get_or by 0 0) (get_or by 1 0)) (get_or by 2 0)) (get_or by 3 0) ≡ 0
      → (l : ℕ) → lane l 0 ≡ differ (changed_answer ws words changed j l) (right_answer ws words j l)
  unchanged-answer e l =
      let last = or-zero _ _ e in
      let third = or-zero _ _ last.0 in
      let two = or-zero _ _ third.0 in
      lane-zero l
      ∙ sym (no_change ws words sound changed j inside
      (λ i used. go i two.0 two.1 third.1 last.1 (omega (arith, (sound.gate j inside).few_pins)))
      l)
    where
      -- the word of pin i
      word : (i : ℕ) → i < most_pins → get_or by i 0 ≡ 0 → get_or changed (get_or (pins ws j) i 0) 0 ≡ get_or by i 0 → get_or changed (pin ws j i) 0 ≡ 0
      word i few e has = ap (λ (p : ℕ). get_or changed p 0) (pin_at ws j i few) ∙ has ∙ e

      go : (i : ℕ) → get_or by 0 0 ≡ 0 → get_or by 1 0 ≡ 0 → get_or by 2 0 ≡ 0 → get_or by 3 0 ≡ 0 → i < most_pins → get_or changed (pin ws j i) 0 ≡ 0
      go zero a b c d few = word 0 few a (sym (ap (λ (xs : List ℕ). get_or xs 0 0) read))
      go (suc zero) a b c d few = word 1 few b (sym (ap (λ (xs : List ℕ). get_or xs 1 0) read))
      go (suc (suc zero)) a b c d few = word 2 few c (sym (ap (λ (xs : List ℕ). get_or xs 2 0) read))
      go (suc (suc (suc zero))) a b c d few = word 3 few d (sym (ap (λ (xs : List ℕ). get_or xs 3 0) read))
      go (suc (suc (suc (suc i)))) a b c d few = absurd (omega arith)

  -- the gate's answer on its pins' words, each inverted by its changes, against its word
  pub changed-difference : (have : List ℕ) (answered right l : ℕ)
      → have ≡ map (λ (p : ℕ). get_or words p 0) (pins ws j)
      → lane l answered ≡ answer (table ws j) (pin_lanes l (pin_count ws j) (
      bit_xor (get_or have 0 0) (get_or by 0 0) ∷ bit_xor (get_or have 1 0) (get_or by 1 0) ∷ bit_xor (get_or have 2 0) (get_or by 2 0)
      ∷ bit_xor (get_or have 3 0) (get_or by 3 0) ∷ []))
      → lane l right ≡ right_answer ws words j l
      → lane l (bit_xor answered right) ≡ differ (changed_answer ws words changed j l) (right_answer ws words j l)
  changed-difference have answered right l had answers rights =
      lane_xor l answered right
      ∙ ap₂ invert_if
      (answers ∙ ap (answer (table ws j)) (rw (had, read) (pins-lanes l (λ p. bit_xor (get_or words p 0) (get_or changed p 0)) ws j)))
      rights
      ∙ differs (changed_answer ws words changed j l) (right_answer ws words j l)
