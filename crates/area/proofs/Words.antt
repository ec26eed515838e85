-- Where a gate's pins and the outputs stand in the words of an area whose netlist part is sound, and what they read. Assumes nothing.
use Prim.Native.Nat.{ℕ, zero, suc, ◌+◌, ◌≤◌, ◌<◌}
use mathlib.Core.List.{List}
use mathlib.Core.Path.{◌≡◌, refl, sym, ap, ◌∙◌}
use native.Mathlib.Omega.{arith}
use lib.ListN.{length, get_or, take, drop, length-take, length-drop}
use lib.Seq.{get_or-take, take-take}
use Rattle.lists.specs.Lists.{Below}
use Rattle.lists.proofs.Parts.{part_at, four-from}
use Rattle.area.specs.Layout.{most_pins, most_sources, inputs, gates, outputs, pin_count, pins_index, figure_index, pin, pins, used_pins}
use Rattle.area.specs.Layout.{outputs_index, output, output_words}
use Rattle.area.specs.Rules.{NetSound}

-- a pin in its place, and an output in its place
pub pin_at : (ws : List ℕ) (j i : ℕ) → i < most_pins → pin ws j i ≡ get_or (pins ws j) i 0
pin_at ws j zero l = ap (λ (x : ℕ). get_or ws x 0) (omega arith)
pin_at ws j (suc zero) l = refl
pin_at ws j (suc (suc zero)) l = refl
pin_at ws j (suc (suc (suc zero))) l = refl
pin_at ws j (suc (suc (suc (suc i)))) l = absurd (omega arith)

pub output-at : (ws : List ℕ) (k : ℕ) → k < outputs ws → output ws k ≡ get_or (output_words ws) k 0
output-at ws k l = sym (part_at ws (outputs_index (gates ws)) (outputs ws) k l)

module _ (ws : List ℕ) (sound : NetSound ws) where
  -- a gate's words are all there
  pub gate-inside : (j : ℕ) → j < gates ws → figure_index j < length ws
  gate-inside j l = omega (arith, sound.long)

  module _ (j : ℕ) (below : j < gates ws) where
    -- the used pins as they stand
    pub used-at : take (pin_count ws j) (drop (pins_index j) ws) ≡ used_pins ws j
    used-at =
        sym (take-take (pin_count ws j) most_pins (drop (pins_index j) ws) (sound.gate j below).few_pins)
        ∙ ap (take (pin_count ws j)) (sym (four-from ws (pins_index j) (omega (arith, gate-inside j below))))

    pub used-count : length (used_pins ws j) ≡ pin_count ws j
    used-count = omega (arith, length-take (pin_count ws j) (pins ws j), (sound.gate j below).few_pins)

    -- used pin i
    pub used-pin : (i : ℕ) → i < pin_count ws j → pin ws j i ≡ get_or (used_pins ws j) i 0
    used-pin i l =
        pin_at ws j i (omega (arith, (sound.gate j below).few_pins)) ∙ sym (get_or-take (pin_count ws j) (pins ws j) i 0 l)

    -- a used pin reads an earlier source
    pub pin-below : (i : ℕ) → i < pin_count ws j → pin ws j i < inputs ws + j
    pin-below i l =
        omega (arith, pin_at ws j i (omega (arith, (sound.gate j below).few_pins)), (sound.gate j below).pins_below i l)

    pub used-below : Below (inputs ws + j) (used_pins ws j)
    used-below i l =
        let inside : i < pin_count ws j = omega (arith, used-count) in
        rw (← used-pin i inside) (pin-below i inside)

  pub output_count : length (output_words ws) ≡ outputs ws
  output_count = omega (arith, length-take (outputs ws) (drop (outputs_index (gates ws)) ws), length-drop (outputs_index (gates ws)) ws, sound.long)

  -- an output reads a source
  pub output-below : Below (inputs ws + gates ws) (output_words ws)
  output-below k l = sound.outputs_below k (omega (arith, output_count))

  pub output-source : (k : ℕ) → k < outputs ws → output ws k < inputs ws + gates ws
  output-source k l = omega (arith, output-at ws k l, sound.outputs_below k l)

  -- sources are few
  pub few-sources : inputs ws + gates ws ≤ most_sources
  few-sources = omega (arith, sound.inputs_fit, sound.gates_fit)
