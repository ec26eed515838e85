-- The right values by their equations: an input's value is its bit of the pattern, a gate's is its table's answer on the values of its pins; and no other
-- list of that length meets them. Assumes nothing.
use Prim.Native.Nat.{ℕ, zero, suc, ◌+◌, ◌/◌, ◌^◌, ◌<◌}
use mathlib.Core.Bool.{Bool, false}
use mathlib.Core.List.{List, [], ◌∷◌, ◌++◌, map}
use mathlib.Core.Path.{◌≡◌, refl, sym, ap, ◌∙◌}
use native.Mathlib.Nat.{pow-succ', div-one, div-div-eq-div-mul}
use native.Mathlib.Omega.{arith}
use lib.ListN.{length, get_or}
use Rattle.figure.specs.Figure.{is_odd, answer}
use Rattle.netlist.specs.Netlist.{Gate, Netlist, gate_at, input_values, pin_values, values, right_values}
use Rattle.lists.specs.Lists.{Below}
use Rattle.lists.proofs.Every.{map_same}
use Rattle.netlist.specs.WellFormed.{PinsBelow}
use Rattle.netlist.proofs.Grow.{Looks, Solves, grow, grow-solves, grow-unique}

pub inputs-length : (n q : ℕ) → length (input_values n q) ≡ n
inputs-length zero q = refl
inputs-length (suc n) q = ap suc (inputs-length n (q / 2))

pub input-value : (n q i : ℕ) → i < n → get_or (input_values n q) i false ≡ is_odd (q / 2 ^ i)
input-value zero q i l = absurd (omega arith)
input-value (suc n) q zero l = ap is_odd (sym (div-one q))
input-value (suc n) q (suc i) l =
    input-value n (q / 2) i (omega arith) ∙ ap is_odd (div-div-eq-div-mul q 2 (2 ^ i) ∙ ap (λ (k : ℕ). q / k) (sym (pow-succ' 2 i)))

-- what pins below b read is settled below b
pub pins-agree : {B : Type 0} (z : B) (b : ℕ) (xs ys : List B) (ps : List ℕ) → Below b ps
    → ((i : ℕ) → i < b → get_or xs i z ≡ get_or ys i z) → map (λ (p : ℕ). get_or xs p z) ps ≡ map (λ (p : ℕ). get_or ys p z) ps
pins-agree z b xs ys ps below agree = map_same _ _ ps (λ i l. agree (get_or ps i 0) (below i l))

-- a gate's right value from a list of values
abbrev pub right_step : Gate → List Bool → Bool
right_step g vs = answer g.table (pin_values vs g.pins)

values-grow : (gs : List Gate) (vs : List Bool) → values gs [] vs ≡ grow false right_step gs vs
values-grow [] vs = refl
values-grow (g ∷ gs) vs = values-grow gs (vs ++ (right_step g vs ∷ []))

module _ (net : Netlist) (below : PinsBelow net) (q : ℕ) where
  looks : Looks false right_step net.inputs net.gates
  looks j l xs ys agree = ap (answer (gate_at net j).table) (pins-agree false (net.inputs + j) xs ys (gate_at net j).pins (below j l) agree)

  right-grow : right_values net q ≡ grow false right_step net.gates (input_values net.inputs q)
  unfolding right_values
  right-grow = values-grow net.gates (input_values net.inputs q)

  pub right-solves : Solves false right_step net.inputs net.gates (input_values net.inputs q) (right_values net q)
  right-solves = rw right-grow (grow-solves false right_step net.inputs net.gates (input_values net.inputs q) (inputs-length net.inputs q) looks)

  pub right-length : length (right_values net q) ≡ net.inputs + length net.gates
  right-length = right-solves.size

  -- an input's value is its bit of the pattern
  pub right-input : (i : ℕ) → i < net.inputs → get_or (right_values net q) i false ≡ is_odd (q / 2 ^ i)
  right-input i l = sym (right-solves.start i l) ∙ input-value net.inputs q i l

  -- a gate has what its table answers to the values of its pins
  pub right-gate : (j : ℕ) → j < length net.gates
      → get_or (right_values net q) (net.inputs + j) false ≡ answer (gate_at net j).table (pin_values (right_values net q) (gate_at net j).pins)
  right-gate = right-solves.steps

  pub right_unique : (vs : List Bool) → length vs ≡ net.inputs + length net.gates
      → ((i : ℕ) → i < net.inputs → get_or vs i false ≡ is_odd (q / 2 ^ i))
      → ((j : ℕ) → j < length net.gates → get_or vs (net.inputs + j) false ≡ answer (gate_at net j).table (pin_values vs (gate_at net j).pins))
      → vs ≡ right_values net q
  right_unique vs size bits steps =
      grow-unique
      false
      right_step
      net.inputs
      net.gates
      (input_values net.inputs q)
      vs
      (inputs-length net.inputs q)
      looks
      (record { size = size; start = λ i l. input-value net.inputs q i l ∙ sym (bits i l); steps = steps })
      ∙ sym right-grow
