-- The values under a flip pattern by their equations: an input's value is its bit of the pattern of inputs, a gate's is its table's answer on the values
-- of its pins, inverted if the gate flips. Assumes nothing.
use Prim.Native.Nat.{ℕ, zero, suc, ◌+◌, ◌/◌, ◌^◌, ◌<◌}
use mathlib.Core.Bool.{Bool, true, false}
use mathlib.Core.List.{List, [], ◌∷◌, ◌++◌}
use mathlib.Core.Path.{◌≡◌, refl, sym, ap, ap₂, ◌∙◌}
use native.Mathlib.Nat.{add-zero}
use native.Mathlib.Omega.{arith}
use lib.ListN.{length, get_or, length-append, get_or-append}
use lib.Seq.{get_or_at}
use Rattle.lists.proofs.Every.{AllFrom, all_head, all_tail}
use Rattle.figure.specs.Figure.{is_odd, invert_if, answer}
use Rattle.netlist.specs.Netlist.{Gate, Netlist, no_gate, gate_at, input_values, pin_values, first_flip, other_flips, values}
use Rattle.netlist.specs.WellFormed.{GatePinsBelow, PinsBelow}
use Rattle.netlist.specs.Seen.{alone}
use Rattle.netlist.proofs.Values.{inputs-length, input-value, pins-agree}

-- ---- flip patterns by their entries

first-flip : (flips : List Bool) → first_flip flips ≡ get_or flips 0 false
first-flip [] = refl
first-flip (b ∷ bs) = refl

other-flips : (flips : List Bool) (k : ℕ) → get_or (other_flips flips) k false ≡ get_or flips (suc k) false
other-flips [] k = refl
other-flips (b ∷ bs) k = refl

-- the pattern of one gate alone
pub alone_at : (j : ℕ) → get_or (alone j) j false ≡ true
alone_at zero = refl
alone_at (suc j) = alone_at j

pub alone-other : (j k : ℕ) → (k ≡ j → ⊥) → get_or (alone j) k false ≡ false
alone-other zero zero h = absurd (h refl)
alone-other zero (suc k) h = refl
alone-other (suc j) zero h = refl
alone-other (suc j) (suc k) h = alone-other j k (λ e. h (ap suc e))

-- ---- values from the values of the sources so far

pub values_length : (gs : List Gate) (flips vs : List Bool) → length (values gs flips vs) ≡ length vs + length gs
values_length [] flips vs = sym (add-zero (length vs))
values_length (g ∷ gs) flips vs =
    let v = invert_if (first_flip flips) (answer g.table (pin_values vs g.pins)) in
    omega (arith, values_length gs (other_flips flips) (vs ++ (v ∷ [])), length-append vs (v ∷ []))

-- what stands stays
pub values-keep : (gs : List Gate) (flips vs : List Bool) (i : ℕ) → i < length vs → get_or vs i false ≡ get_or (values gs flips vs) i false
values-keep [] flips vs i l = refl
values-keep (g ∷ gs) flips vs i l =
    let v = invert_if (first_flip flips) (answer g.table (pin_values vs g.pins)) in
    sym (get_or-append vs (v ∷ []) false i l) ∙ values-keep gs (other_flips flips) (vs ++ (v ∷ [])) i (omega (arith, length-append vs (v ∷ [])))

values-gate : (n : ℕ) (gs : List Gate) (flips vs : List Bool) → length vs ≡ n → AllFrom no_gate GatePinsBelow n gs
    → (k : ℕ) → k < length gs
    → get_or (values gs flips vs) (n + k) false
    ≡ invert_if (get_or flips k false) (answer (get_or gs k no_gate).table (pin_values (values gs flips vs) (get_or gs k no_gate).pins))
values-gate n [] flips vs e below k l = absurd (omega arith)
values-gate n (g ∷ gs) flips vs e below zero l =
    let v = invert_if (first_flip flips) (answer g.table (pin_values vs g.pins)) in
    let all = values (g ∷ gs) flips vs in
    ap (λ (i : ℕ). get_or all i false) (add-zero n)
    ∙ sym (values-keep gs (other_flips flips) (vs ++ (v ∷ [])) n (omega (arith, length-append vs (v ∷ []))))
    ∙ get_or_at vs v [] false n e
    ∙ ap₂
    (λ (b : Bool) (ws : List Bool). invert_if b (answer g.table ws))
    (first-flip flips)
    (pins-agree false n vs all g.pins (all_head no_gate GatePinsBelow n g gs below) (λ i h. values-keep (g ∷ gs) flips vs i (omega arith)))
values-gate n (g ∷ gs) flips vs e below (suc k) l =
    let v = invert_if (first_flip flips) (answer g.table (pin_values vs g.pins)) in
    let all = values (g ∷ gs) flips vs in
    let at : n + suc k ≡ suc n + k = omega arith in
    let size : length (vs ++ (v ∷ [])) ≡ suc n = omega (arith, length-append vs (v ∷ [])) in
    ap (λ (i : ℕ). get_or all i false) at
    ∙ values-gate (suc n) gs (other_flips flips) (vs ++ (v ∷ [])) size (all_tail no_gate GatePinsBelow n g gs below) k (omega arith)
    ∙ ap (λ (b : Bool). invert_if b (answer (get_or gs k no_gate).table (pin_values all (get_or gs k no_gate).pins))) (other-flips flips k)

-- ---- values of a netlist

module _ (net : Netlist) (below : PinsBelow net) (flips : List Bool) (q : ℕ) where
  pub flipped-length : length (values net.gates flips (input_values net.inputs q)) ≡ net.inputs + length net.gates
  flipped-length = omega (arith, values_length net.gates flips (input_values net.inputs q), inputs-length net.inputs q)

  -- an input's value is its bit of the pattern
  pub flipped-input : (i : ℕ) → i < net.inputs → get_or (values net.gates flips (input_values net.inputs q)) i false ≡ is_odd (q / 2 ^ i)
  flipped-input i l =
      sym (values-keep net.gates flips (input_values net.inputs q) i (omega (arith, inputs-length net.inputs q)))
      ∙ input-value net.inputs q i l

  -- a gate has what its table answers to the values of its pins, and the opposite where it flips
  pub flipped-gate : (k : ℕ) → k < length net.gates
      → get_or (values net.gates flips (input_values net.inputs q)) (net.inputs + k) false
      ≡ invert_if
      (get_or flips k false)
      (answer (gate_at net k).table (pin_values (values net.gates flips (input_values net.inputs q)) (gate_at net k).pins))
  flipped-gate = values-gate net.inputs net.gates flips (input_values net.inputs q) (inputs-length net.inputs q) below
