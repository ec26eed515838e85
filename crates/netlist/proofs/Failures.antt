-- The failures by their equations: an input's is 0, a gate's is the figure of its table, its pins' right values and failures, and its flip; no other list
-- of that length meets them, and none passes u. Assumes nothing.
use Prim.Native.Nat.{ℕ, suc, ◌+◌, ◌-◌, ◌*◌, ◌≤◌, ◌<◌}
use mathlib.Core.Bool.{Bool, true, false, beq, cond}
use mathlib.Core.List.{List, [], ◌∷◌, ◌++◌, map}
use mathlib.Core.Path.{◌≡◌, refl, sym, ap, ◌∙◌}
use native.Mathlib.Nat.{le_refl, mul-le-mul_right}
use native.Mathlib.Omega.{arith}
use lib.ListN.{length, get_or, replicate, length-replicate, length-map}
use Rattle.lists.proofs.Parts.{zeros-at}
use Rattle.lists.proofs.Every.{map-all}
use Rattle.rounding.specs.Rounding.{blend, to_units}
use Rattle.rounding.proofs.Laws.{at_most, blend-at-most}
use Rattle.figure.specs.Figure.{difference, answer, inverted, error_patterns, start_values, fold_pins, gate_step, gate_failure, output_step}
use Rattle.figure.proofs.Fold.{fold_over, fold_pins-over}
use Rattle.netlist.specs.Netlist.{Gate, Netlist, gate_at, pin_values, right_values}
use Rattle.netlist.specs.Figures.{pin_failures, failures_from, failures, reliability_from, reliability}
use Rattle.netlist.specs.WellFormed.{PinsBelow, WellFormed}
use Rattle.netlist.proofs.Grow.{Looks, Solves, grow, grow-solves, grow-unique, grow-all}
use Rattle.netlist.proofs.Values.{pins-agree}

-- a gate's failure from a list of failures; vs are the right values
abbrev pub failure_step : ℕ → ℕ → List Bool → Gate → List ℕ → ℕ
failure_step u d vs g fs = gate_failure u g.table (pin_values vs g.pins) (pin_failures fs g.pins) (to_units u d g.chance)

failures-grow : (u d : ℕ) (vs : List Bool) (gs : List Gate) (fs : List ℕ) → failures_from u d vs gs fs ≡ grow 0 (failure_step u d vs) gs fs
failures-grow u d vs [] fs = refl
failures-grow u d vs (g ∷ gs) fs = failures-grow u d vs gs (fs ++ (failure_step u d vs g fs ∷ []))

grown : (u d : ℕ) (net : Netlist) (q : ℕ) → failures u d net q ≡ grow 0 (failure_step u d (right_values net q)) net.gates (replicate net.inputs 0)
unfolding failures
grown u d net q = failures-grow u d (right_values net q) net.gates (replicate net.inputs 0)

module _ (u d : ℕ) (net : Netlist) (below : PinsBelow net) (q : ℕ) where
  looks : Looks 0 (failure_step u d (right_values net q)) net.inputs net.gates
  looks j l xs ys agree =
      let g = gate_at net j in
      ap
      (λ (fs : List ℕ). gate_failure u g.table (pin_values (right_values net q) g.pins) fs (to_units u d g.chance))
      (pins-agree 0 (net.inputs + j) xs ys g.pins (below j l) agree)

  pub failures-solve : Solves 0 (failure_step u d (right_values net q)) net.inputs net.gates (replicate net.inputs 0) (failures u d net q)
  failures-solve =
      rw
      (grown u d net q)
      (grow-solves 0 (failure_step u d (right_values net q)) net.inputs net.gates (replicate net.inputs 0) (length-replicate net.inputs 0) looks)

  pub failures-length : length (failures u d net q) ≡ net.inputs + length net.gates
  failures-length = failures-solve.size

  -- an input's failure is 0
  pub failure-input : (i : ℕ) → i < net.inputs → get_or (failures u d net q) i 0 ≡ 0
  failure-input i l = sym (failures-solve.start i l) ∙ zeros-at net.inputs i

  -- a gate's failure comes from its pins' right values and failures, and its flip
  pub failure-gate : (j : ℕ) → j < length net.gates
      → get_or (failures u d net q) (net.inputs + j) 0 ≡ failure_step u d (right_values net q) (gate_at net j) (failures u d net q)
  failure-gate = failures-solve.steps

  pub failures-unique : (fs : List ℕ) → length fs ≡ net.inputs + length net.gates
      → ((i : ℕ) → i < net.inputs → get_or fs i 0 ≡ 0)
      → ((j : ℕ) → j < length net.gates → get_or fs (net.inputs + j) 0 ≡ failure_step u d (right_values net q) (gate_at net j) fs)
      → fs ≡ failures u d net q
  failures-unique fs size zeros steps =
      grow-unique
      0
      (failure_step u d (right_values net q))
      net.inputs
      net.gates
      (replicate net.inputs 0)
      fs
      (length-replicate net.inputs 0)
      looks
      (record { size = size; start = λ i l. zeros-at net.inputs i ∙ sym (zeros i l); steps = steps })
      ∙ sym (grown u d net q)

-- a chance of at most 1 is at most u units
pub units-at-most : (u d c : ℕ) → 0 < d → c ≤ d → to_units u d c ≤ u
unfolding to_units
units-at-most u d c pos h = at_most (c * u) d pos u (omega (arith, mul-le-mul_right u h))

-- a fold of values of at most k is at most k
pub fold-at-most : (u k : ℕ) → 0 < u → (fs : List ℕ) → ((i : ℕ) → get_or fs i 0 ≤ u) → (W : List Bool → ℕ) → ((bs : List Bool) → W bs ≤ k)
    → fold_over u fs W ≤ k
fold-at-most u k pos [] hf W h = h []
fold-at-most u k pos (f ∷ fs) hf W h =
    fold-at-most
    u
    k
    pos
    fs
    (λ i. hf (suc i))
    (λ bs. blend u (W (false ∷ bs)) (W (true ∷ bs)) f)
    (λ bs. blend-at-most u (W (false ∷ bs)) (W (true ∷ bs)) f k pos (hf 0) (h (false ∷ bs)) (h (true ∷ bs)))

-- the fold of a gate on functions of its pins' errors
pub start-fold : (u table : ℕ) (vs : List Bool) (fs : List ℕ) → length vs ≡ length fs
    → fold_pins u fs (start_values u table vs) ≡ fold_over u fs (difference u table vs)
unfolding start_values
start-fold u table vs fs e =
    ap (λ (k : ℕ). fold_pins u fs (map (difference u table vs) (error_patterns k))) e ∙ fold_pins-over u fs (difference u table vs)

-- a step 1 value is 0 or u
pub start-at-most : (u : ℕ) (right : Bool) → cond right 0 u ≤ u
start-at-most u true = omega arith
start-at-most u false = le_refl u

-- a gate's figure is at most u if its flip and the failures of its pins are
pub figure-at-most : (u p table : ℕ) → 0 < u → p ≤ u → (vs : List Bool) (fs : List ℕ) → length vs ≡ length fs → ((i : ℕ) → get_or fs i 0 ≤ u)
    → gate_failure u table vs fs p ≤ u
unfolding gate_failure gate_step difference
figure-at-most u p table posu hp vs fs same hf =
    let m = fold_pins u fs (start_values u table vs) in
    let fold : m ≡ fold_over u fs (difference u table vs) = start-fold u table vs fs same in
    let small : fold_over u fs (difference u table vs) ≤ u
    = fold-at-most u u posu fs hf _ (λ es. start-at-most u (beq (answer table (inverted vs es)) (answer table vs))) in
    blend-at-most u m (u - m) p u posu hp (omega arith) (omega arith)

pub gate-at-most : (u d : ℕ) → 0 < u → 0 < d → (vs : List Bool) (g : Gate) → g.chance ≤ d → (fs : List ℕ) → ((i : ℕ) → get_or fs i 0 ≤ u)
    → failure_step u d vs g fs ≤ u
gate-at-most u d posu posd vs g hc fs hf =
    figure-at-most
    u
    (to_units u d g.chance)
    g.table
    posu
    (units-at-most u d g.chance posd hc)
    (pin_values vs g.pins)
    (pin_failures fs g.pins)
    (length-map g.pins (λ (p : ℕ). get_or vs p false) ∙ sym (length-map g.pins (λ (p : ℕ). get_or fs p 0)))
    (map-all 0 (λ (f : ℕ). f ≤ u) (omega arith) (λ (p : ℕ). get_or fs p 0) g.pins (λ i l. hf (get_or g.pins i 0)))

-- every failure is at most u
pub failures-at-most : (u d : ℕ) → 0 < u → 0 < d → (net : Netlist) → WellFormed d net → (q s : ℕ) → get_or (failures u d net q) s 0 ≤ u
failures-at-most u d posu posd net well q s =
    rw
    (grown u d net q)
    (grow-all
    0
    (failure_step u d (right_values net q))
    (λ f. f ≤ u)
    (omega arith)
    net.gates
    (replicate net.inputs 0)
    (λ i. omega (arith, zeros-at net.inputs i))
    (λ j l fs h. gate-at-most u d posu posd (right_values net q) (gate_at net j) (well.chances j l) fs h)
    s)

-- and so is the reliability
pub reliability-at-most : (u d : ℕ) → 0 < u → 0 < d → (net : Netlist) → WellFormed d net → (q : ℕ) → reliability u d net q ≤ u
unfolding reliability output_step
reliability-at-most u d posu posd net well q = go net.outputs u (le_refl u)
  where
    go : (os : List ℕ) (s : ℕ) → s ≤ u → reliability_from u (failures u d net q) s os ≤ u
    go [] s l = l
    go (o ∷ os) s l =
        go os (blend u s 0 (get_or (failures u d net q) o 0))
        (blend-at-most u s 0 (get_or (failures u d net q) o 0) u posu (failures-at-most u d posu posd net well q o) l (omega arith))
