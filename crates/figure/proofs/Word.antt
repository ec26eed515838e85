-- A gate's word from two arrays: the indices that its pins spread to, and the values folded from there. Assumes nothing.
use Prim.Native.Nat.{ℕ, ◌+◌, ◌*◌, ◌/◌, ◌%◌, ◌^◌, ◌≤◌, ◌<◌}
use mathlib.Core.List.{List, [], ◌∷◌, map}
use mathlib.Core.Path.{◌≡◌, sym, ap, ap₂, ◌∙◌}
use native.Mathlib.Omega.{arith}
use lib.ListN.{get_or, take}
use lib.Seq.{get_or-take}
use Rattle.rounding.specs.Rounding.{units_in_one}
use Rattle.figure.specs.Figure.{failure_of, fold_pins, gate_step}
use Rattle.figure.specs.Steps.{Pin, room, spread_pins, differs, right_index, right_bit, last_value, pins_word}
use Rattle.figure.proofs.Under.{part, under_pins}
use Rattle.figure.proofs.Split.{first-index}

module _ (start : ℕ) (ps : List Pin) (used : ℕ) (indices : List ℕ) (spread : take used indices ≡ spread_pins ps (start ∷ [])) where
  -- indices that these pins were spread to leave room for one more
  pub spread-room : (bit : ℕ) → start + room ps + bit ≤ 15 → (i : ℕ) → i < used → get_or indices i 0 + bit ≤ 15
  spread-room bit fits = part 15 bit indices (spread_pins ps (start ∷ [])) used spread (under_pins 15 bit start ps fits)

  -- and are places of the table
  pub spread-small : start + room ps ≤ 15 → (i : ℕ) → i < used → get_or indices i 0 ≤ 15
  spread-small fits i l = omega (arith, spread-room 0 (omega arith) i l)

  -- the word that comes of them, where `right` is the answer at the first: there all pins are right
  pub word_made : (table right flip : ℕ) (values : List ℕ) → 0 < used → right ≡ table / 2 ^ get_or indices 0 0 % 2
      → get_or (take 1 values) 0 0
      ≡ fold_pins units_in_one (map (λ (p : Pin). failure_of p.word) ps) (map (differs units_in_one table right) (take used indices))
      → 2 * gate_step units_in_one (get_or values 0 0) flip + right ≡ pins_word units_in_one table start ps flip
  unfolding pins_word last_value
  word_made table right flip values some answer folded =
      let fold : ℕ → List ℕ → ℕ
      = λ r xs. fold_pins units_in_one (map (λ (p : Pin). failure_of p.word) ps) (map (differs units_in_one table r) xs) in
      let first : get_or indices 0 0 ≡ right_index start ps
      = sym (get_or-take used indices 0 0 some) ∙ ap (λ (xs : List ℕ). get_or xs 0 0) spread ∙ first-index ps start in
      let same : right ≡ right_bit table start ps = answer ∙ ap (λ (i : ℕ). table / 2 ^ i % 2) first in
      ap₂ (λ (m r : ℕ). 2 * gate_step units_in_one m flip + r)
      (sym (get_or-take 1 values 0 0 (omega arith)) ∙ folded ∙ ap₂ fold same spread)
      same
