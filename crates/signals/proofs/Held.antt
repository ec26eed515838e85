-- Words that hold values: from the inputs on gate by gate. Assumes nothing.
use Prim.Native.Nat.{ℕ, zero, suc, ◌+◌, ◌/◌, ◌^◌, ◌<◌}
use mathlib.Core.Bool.{Bool, true, false}
use mathlib.Core.List.{List, [], ◌∷◌, map}
use mathlib.Core.Logic.{⊎_elim}
use mathlib.Core.Path.{◌≡◌, refl, sym, ap, subst, ◌∙◌}
use native.Mathlib.Nat.{eq-or-lt_of_le}
use native.Mathlib.Omega.{arith}
use borrow.Author.Tests.{ltb-true, ltb-false}
use lib.Dec.{ltb}
use lib.ListN.{length, get_or, set, take, length-set}
use lib.Seq.{get_or-set_same, get_or-set_other}
use Rattle.lists.proofs.Every.{map_same}
use Rattle.figure.specs.Figure.{is_odd, answer}
use Rattle.netlist.specs.Netlist.{Gate, pin_values}
use Rattle.netlist.proofs.Values.{right-input, right-gate}
use Rattle.area.specs.Layout.{most_sources, inputs, gates, pin_count, table, pins, used_pins}
use Rattle.area.specs.Rules.{NetSound}
use Rattle.area.specs.Net.{net_of}
use Rattle.area.proofs.Net.{gate-at, gate_count, sound-pins}
use Rattle.area.proofs.Words.{used-below, few-sources}
use Rattle.signals.specs.Signals.{lane_count, lane, pin_lanes, InputWords, right_in, WordsHold, WordStored}

-- every pin, used or not, is a source
pub pin-source : (ws : List ℕ) → NetSound ws → (j : ℕ) → j < gates ws → (i : ℕ) → get_or (pins ws j) i 0 < most_sources
pin-source ws sound j l i = go (ltb i (pin_count ws j)) refl
  where
    go : (b : Bool) → ltb i (pin_count ws j) ≡ b → get_or (pins ws j) i 0 < most_sources
    go true e = omega (arith, (sound.gate j l).pins_below i (ltb-true i (pin_count ws j) e), few-sources ws sound)
    go false e = omega (arith, (sound.gate j l).unused_zero i (ltb-false i (pin_count ws j) e))

-- ---- the words that pins read have in each lane the values that the pins read

map-take : {A B : Type 0} (f : A → B) (k : ℕ) (xs : List A) → map f (take k xs) ≡ take k (map f xs)
map-take f zero xs = refl
map-take f (suc k) [] = refl
map-take f (suc k) (x ∷ xs) = ap (λ (ys : List _). f x ∷ ys) (map-take f k xs)

map-map : (f : ℕ → Bool) (g : ℕ → ℕ) (xs : List ℕ) → map f (map g xs) ≡ map (λ x. f (g x)) xs
map-map f g [] = refl
map-map f g (x ∷ xs) = ap (λ (ys : List Bool). f (g x) ∷ ys) (map-map f g xs)

-- a gate's used pins, each with the word that F has for it
pub pins-lanes : (l : ℕ) (F : ℕ → ℕ) (ws : List ℕ) (j : ℕ) → pin_lanes l (pin_count ws j) (map F (pins ws j)) ≡ map (λ p. lane l (F p)) (used_pins ws j)
pins-lanes l F ws j = ap (map (lane l)) (sym (map-take F (pin_count ws j) (pins ws j))) ∙ map-map (lane l) F (used_pins ws j)

-- ---- one input more

pub input-more : (n : ℕ) (patterns words : List ℕ) (word : ℕ) → InputWords n patterns words → n < most_sources
    → ((l : ℕ) → lane l word ≡ is_odd (get_or patterns l 0 / 2 ^ n)) → InputWords (n + 1) patterns (set words n word)
input-more n patterns words word h inside here =
    record {
      long = length-set words n word ∙ h.long;
      input =
          λ l i below.
          ⊎_elim
          (λ e. ap (λ (t : ℕ). lane l (get_or (set words n word) t 0)) e
          ∙ ap (lane l) (get_or-set_same words n word 0 (omega (arith, h.long)))
          ∙ here l
          ∙ ap (λ (t : ℕ). is_odd (get_or patterns l 0 / 2 ^ t)) (sym e))
          (λ before. ap (lane l) (get_or-set_other words n i word 0 (λ e. omega arith)) ∙ h.input l i before)
          (eq-or-lt_of_le {n = i} {m = n} (omega arith));
    }

-- ---- the right values

module _ (ws patterns : List ℕ) (sound : NetSound ws) where
  pub first-held : (words : List ℕ) → InputWords (inputs ws) patterns words → WordsHold (inputs ws) (right_in (net_of ws [] []) patterns) words
  first-held words h =
      record {
        long = h.long;
        held = λ l s less below. h.input l s below ∙ sym (right-input (net_of ws [] []) (sound-pins ws [] [] sound) (get_or patterns l 0) s below);
      }

  abbrev values : ℕ → List Bool
  values = right_in (net_of ws [] []) patterns

  module _ (words new : List ℕ) (j : ℕ) (inside : j < gates ws) (stored : WordStored ws words new j) where
    -- a gate's word from pins' words that are right
    pub gate-right : (l : ℕ) → l < lane_count
        → ((i : ℕ) → i < length (used_pins ws j) → lane l (get_or words (get_or (used_pins ws j) i 0) 0) ≡ get_or (values l) (get_or (used_pins ws j) i 0) false)
        → lane l (get_or new (inputs ws + j) 0) ≡ get_or (values l) (inputs ws + j) false
    gate-right l less held =
        stored.here l less
        ∙ ap (answer (table ws j))
        (pins-lanes l (λ p. get_or words p 0) ws j
        ∙ map_same (λ p. lane l (get_or words p 0)) (λ p. get_or (values l) p false) (used_pins ws j) held)
        ∙ ap (λ (g : Gate). answer g.table (pin_values (values l) g.pins)) (sym (gate-at ws [] [] j inside))
        ∙ sym (right-gate (net_of ws [] []) (sound-pins ws [] [] sound) (get_or patterns l 0) j (omega (arith, gate_count ws [] [])))

    -- one gate more
    pub gate-held : WordsHold (inputs ws + j) values words → WordsHold (inputs ws + (j + 1)) values new
    gate-held h =
        record {
          long = stored.long;
          held =
              λ l s less below.
              ⊎_elim
              (λ e. subst (λ (t : ℕ). lane l (get_or new t 0) ≡ get_or (values l) t false) (sym e)
              (gate-right l less (λ i used. h.held l (get_or (used_pins ws j) i 0) less (used-below ws sound j inside i used))))
              (λ before. ap (lane l) (stored.other s (λ e. omega arith)) ∙ h.held l s less before)
              (eq-or-lt_of_le {n = s} {m = inputs ws + j} (omega arith));
        }
