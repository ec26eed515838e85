-- The failures worked out under a set of suppositions, by their equations; none passes u; and with no shared gate they are the failures. Assumes nothing.
use Prim.Native.Nat.{ℕ, zero, suc, ◌+◌, ◌-◌, ◌*◌, ◌/◌, ◌%◌, ◌^◌, ◌≤◌, ◌<◌}
use mathlib.Core.Bool.{Bool, true, false, cond}
use mathlib.Core.List.{List, [], ◌∷◌, ◌++◌, map}
use mathlib.Core.Path.{◌≡◌, refl, sym, ap, ap₂, ◌∙◌}
use native.Mathlib.Nat.{le_refl}
use native.Mathlib.Omega.{arith}
use lib.ListN.{length, get_or, replicate, length-replicate, get_or-replicate, length-map, get_or-eq_default}
use lib.Dec.{eqb, leb}
use borrow.Author.Tests.{le-leb}
use lib.Arith.{sub-sub_self}
use lib.Pow.{field, mod-mod-pow}
use Rattle.rounding.specs.Rounding.{round_div, blend, to_units}
use Rattle.figure.specs.Figure.{is_odd, gate_failure, output_step}
use Rattle.netlist.specs.Netlist.{Gate, Netlist, gate_at, input_values, pin_values, values, right_values}
use Rattle.netlist.specs.Figures.{failures_from, failures, reliability_from, reliability}
use Rattle.netlist.specs.Exact.{sum_over_flips}
use Rattle.lists.specs.Lists.{Below}
use Rattle.netlist.specs.WellFormed.{PinsBelow, WellFormed}
use Rattle.suppose.specs.Suppose.{shared_gates, is_supposed, supposed_wrong, seen, supposed_from, supposed_failures}
use Rattle.suppose.specs.Suppose.{shared_steps, output_steps, supposed_figure, at_most, shared_reliability}
use Rattle.lists.proofs.Every.{below-tail}
use Rattle.netlist.proofs.Grow.{Looks, Solves, grow, grow-solves, grow-unique, grow-all}
use Rattle.netlist.proofs.Failures.{units-at-most, figure-at-most, reliability-at-most}

-- what a list of pins sees
abbrev pub pins_seen : ℕ → List ℕ → List Bool → List ℕ → List ℕ → List ℕ
pins_seen u ss bs fs ps = map (λ (p : ℕ). seen u ss bs p (get_or fs p 0)) ps

abbrev pub supposed_step : ℕ → ℕ → List Bool → List ℕ → List Bool → Gate → List ℕ → ℕ
supposed_step u d vs ss bs g fs = gate_failure u g.table (pin_values vs g.pins) (pins_seen u ss bs fs g.pins) (to_units u d g.chance)

supposed-grow : (u d : ℕ) (vs : List Bool) (ss : List ℕ) (bs : List Bool) (gs : List Gate) (fs : List ℕ)
    → supposed_from u d vs ss bs gs fs ≡ grow 0 (supposed_step u d vs ss bs) gs fs
supposed-grow u d vs ss bs [] fs = refl
supposed-grow u d vs ss bs (g ∷ gs) fs = supposed-grow u d vs ss bs gs (fs ++ (supposed_step u d vs ss bs g fs ∷ []))

seen-agree : (u : ℕ) (ss : List ℕ) (bs : List Bool) (b : ℕ) (xs ys : List ℕ) (ps : List ℕ) → Below b ps
    → ((i : ℕ) → i < b → get_or xs i 0 ≡ get_or ys i 0) → pins_seen u ss bs xs ps ≡ pins_seen u ss bs ys ps
seen-agree u ss bs b xs ys [] below agree = refl
seen-agree u ss bs b xs ys (p ∷ ps) below agree =
    ap₂ ◌∷◌ (ap (seen u ss bs p) (agree p (below 0 (omega arith)))) (seen-agree u ss bs b xs ys ps (below-tail b p ps below) agree)

seen-at-most : (u : ℕ) (ss : List ℕ) (bs : List Bool) (fs : List ℕ) → ((i : ℕ) → get_or fs i 0 ≤ u) → (ps : List ℕ) (i : ℕ)
    → get_or (pins_seen u ss bs fs ps) i 0 ≤ u
seen-at-most u ss bs fs h [] i = omega arith
seen-at-most u ss bs fs h (p ∷ ps) zero = go (is_supposed ss p) (supposed_wrong ss bs p)
  where
    go : (a b : Bool) → cond a (cond b u 0) (get_or fs p 0) ≤ u
    go true true = le_refl u
    go true false = omega arith
    go false b = h p
seen-at-most u ss bs fs h (p ∷ ps) (suc i) = seen-at-most u ss bs fs h ps i

module _ (u d : ℕ) (net : Netlist) (q : ℕ) (bs : List Bool) where
  abbrev vs : List Bool
  vs = right_values net q

  abbrev ss : List ℕ
  ss = shared_gates net

  grown : supposed_failures u d net q bs ≡ grow 0 (supposed_step u d vs ss bs) net.gates (replicate net.inputs 0)
  unfolding supposed_failures
  grown = supposed-grow u d vs ss bs net.gates (replicate net.inputs 0)

  module _ (below : PinsBelow net) where
    looks : Looks 0 (supposed_step u d vs ss bs) net.inputs net.gates
    looks j l xs ys agree =
        let g = gate_at net j in
        ap
        (λ (fs : List ℕ). gate_failure u g.table (pin_values vs g.pins) fs (to_units u d g.chance))
        (seen-agree u ss bs (net.inputs + j) xs ys g.pins (below j l) agree)

    supposed-solve : Solves 0 (supposed_step u d vs ss bs) net.inputs net.gates (replicate net.inputs 0) (supposed_failures u d net q bs)
    supposed-solve =
        rw
        grown
        (grow-solves 0 (supposed_step u d vs ss bs) net.inputs net.gates (replicate net.inputs 0) (length-replicate net.inputs 0) looks)

    pub supposed-input : (i : ℕ) → i < net.inputs → get_or (supposed_failures u d net q bs) i 0 ≡ 0
    supposed-input i l = sym (supposed-solve.start i l) ∙ get_or-replicate net.inputs i 0 0 l

    pub supposed-outside : (i : ℕ) → net.inputs + length net.gates ≤ i → get_or (supposed_failures u d net q bs) i 0 ≡ 0
    supposed-outside i l = get_or-eq_default (supposed_failures u d net q bs) 0 (omega (arith, supposed-solve.size))

    pub supposed-gate : (j : ℕ) → j < length net.gates
        → get_or (supposed_failures u d net q bs) (net.inputs + j) 0 ≡ supposed_step u d vs ss bs (gate_at net j) (supposed_failures u d net q bs)
    supposed-gate = supposed-solve.steps

    -- no other list meets the equations: what code must show of the failures that it works out
    pub supposed-unique : (fs : List ℕ) → length fs ≡ net.inputs + length net.gates
        → ((i : ℕ) → i < net.inputs → get_or fs i 0 ≡ 0)
        → ((j : ℕ) → j < length net.gates → get_or fs (net.inputs + j) 0 ≡ supposed_step u d vs ss bs (gate_at net j) fs)
        → fs ≡ supposed_failures u d net q bs
    supposed-unique fs size zeros steps =
        grow-unique
        0
        (supposed_step u d vs ss bs)
        net.inputs
        net.gates
        (replicate net.inputs 0)
        fs
        (length-replicate net.inputs 0)
        looks
        (record { size = size; start = λ i l. get_or-replicate net.inputs i 0 0 l ∙ sym (zeros i l); steps = steps })
        ∙ sym grown

  pub supposed-at-most : 0 < u → 0 < d → WellFormed d net → (s : ℕ) → get_or (supposed_failures u d net q bs) s 0 ≤ u
  supposed-at-most posu posd well s =
      rw
      grown
      (grow-all
      0
      (supposed_step u d vs ss bs)
      (λ f. f ≤ u)
      (omega arith)
      net.gates
      (replicate net.inputs 0)
      (zeros net.inputs)
      (λ j l fs h.
      let g = gate_at net j in
      figure-at-most
      u
      (to_units u d g.chance)
      g.table
      posu
      (units-at-most u d g.chance posd (well.chances j l))
      (pin_values vs g.pins)
      (pins_seen u ss bs fs g.pins)
      (length-map g.pins (λ (p : ℕ). get_or vs p false) ∙ sym (length-map g.pins (λ (p : ℕ). seen u ss bs p (get_or fs p 0))))
      (seen-at-most u ss bs fs h g.pins))
      s)
    where
      zeros : (n i : ℕ) → get_or (replicate n 0) i 0 ≤ u
      zeros zero i = omega arith
      zeros (suc n) zero = omega arith
      zeros (suc n) (suc i) = zeros n i

-- with no shared gate, the reliability
none_from : (u d : ℕ) (vs : List Bool) (bs : List Bool) (gs : List Gate) (fs : List ℕ) → supposed_from u d vs [] bs gs fs ≡ failures_from u d vs gs fs
none_from u d vs bs [] fs = refl
none_from u d vs bs (g ∷ gs) fs = none_from u d vs bs gs _

pub none-outputs : (u : ℕ) (fs : List ℕ) (s : ℕ) (os : List ℕ) → output_steps u (λ o. get_or fs o 0) s os ≡ reliability_from u fs s os
unfolding output_step
none-outputs u fs s [] = refl
none-outputs u fs s (o ∷ os) = none-outputs u fs (blend u s 0 (get_or fs o 0)) os

pub none-shared : (u d : ℕ) → 0 < u → 0 < d → (net : Netlist) → WellFormed d net → (q : ℕ) → shared_gates net ≡ []
    → shared_reliability u d net q ≡ reliability u d net q
unfolding shared_reliability supposed_figure supposed_failures reliability failures
none-shared u d posu posd net well q none =
    let fs : List ℕ → List Bool → List ℕ = λ ss bs. supposed_from u d (right_values net q) ss bs net.gates (replicate net.inputs 0) in
    let figure : List ℕ → List Bool → ℕ
    = λ ss bs. output_steps u (λ o. seen u ss bs o (get_or (fs ss bs) o 0)) (shared_steps u (λ p. get_or (fs ss bs) p 0) u ss bs) net.outputs in
    ap (λ (ss : List ℕ). cond (leb (sum_over_flips (length ss) (figure ss)) u) (sum_over_flips (length ss) (figure ss)) u) none
    ∙ ap (λ (x : ℕ). cond (leb x u) x u) same
    ∙ ap (λ (c : Bool). cond c (reliability u d net q) u) (le-leb (reliability u d net q) u (reliability-at-most u d posu posd net well q))
  where
    same : output_steps
        u
        (λ o. get_or (supposed_from u d (right_values net q) [] [] net.gates (replicate net.inputs 0)) o 0)
        u
        net.outputs
        ≡ reliability u d net q
    same =
        ap (λ (fs : List ℕ). output_steps u (λ o. get_or fs o 0) u net.outputs) (none_from u d (right_values net q) [] net.gates (replicate net.inputs 0))
        ∙ none-outputs u _ u net.outputs

-- a gate that is supposed wrong takes an output step with the rest of its failure
pub wrong-step : (u s f : ℕ) → f ≤ u → blend u 0 s f ≡ output_step u s (u - f)
unfolding output_step blend
wrong-step u s f h = ap (λ (x : ℕ). round_div x u) (omega (arith, ap (λ (z : ℕ). s * z) (sub-sub_self h)))

-- only the low bits of a pattern count, one for each input
low_values : (n q : ℕ) → input_values n (q % 2 ^ n) ≡ input_values n q
low_values zero q = refl
low_values (suc n) q =
    let more : suc n ≡ n + 1 = omega arith in
    ap₂ (λ (x y : ℕ). eqb x 1 ∷ input_values n y)
    (ap (λ (k : ℕ). q % 2 ^ k % 2) more ∙ mod-mod-pow q n 1)
    (ap (λ (k : ℕ). q % 2 ^ k / 2) more ∙ field q n 1)
    ∙ ap (◌∷◌ (is_odd q)) (low_values n (q / 2))

pub low-right : (net : Netlist) (q : ℕ) → right_values net (q % 2 ^ net.inputs) ≡ right_values net q
unfolding right_values
low-right net q = ap (values net.gates []) (low_values net.inputs q)

pub low-pattern : (u d : ℕ) (net : Netlist) (q : ℕ) → shared_reliability u d net (q % 2 ^ net.inputs) ≡ shared_reliability u d net q
unfolding shared_reliability supposed_figure supposed_failures
low-pattern u d net q =
    let ss = shared_gates net in
    let fs : List Bool → List Bool → List ℕ = λ vs bs. supposed_from u d vs ss bs net.gates (replicate net.inputs 0) in
    ap (λ (vs : List Bool).
    at_most u (sum_over_flips (length ss) (λ bs.
    output_steps u (λ o. seen u ss bs o (get_or (fs vs bs) o 0)) (shared_steps u (λ p. get_or (fs vs bs) p 0) u ss bs) net.outputs)))
    (low-right net q)
