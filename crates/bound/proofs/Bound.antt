-- The bound for every size: the reliability in units is within the charges of u times the exact sum. Assumes nothing.
use Prim.Native.Nat.{ℕ, zero, suc, ◌+◌, ◌-◌, ◌*◌, ◌^◌, ◌≤◌, ◌<◌}
use mathlib.Core.Bool.{Bool, false}
use mathlib.Core.List.{map}
use mathlib.Core.Path.{◌≡◌, refl, sym, ap, ap₂, ◌∙◌}
use native.Mathlib.Nat.{pow-zero, pow-succ', mul-pos, one-le-pow, mul-le-mul_right}
use native.Mathlib.Omega.{arith}
use lib.ListN.{length, get_or, length-map, get_or-eq_default}
use lib.Dec.{leb}
use Rattle.rounding.specs.Rounding.{to_units, Near}
use Rattle.figure.specs.Figure.{difference, gate_step, gate_failure}
use Rattle.figure.proofs.Fold.{fold_over}
use Rattle.netlist.specs.Netlist.{Gate, Netlist, no_gate, gate_at, input_values, pin_values, right_values}
use Rattle.netlist.specs.WellFormed.{WellFormed}
use Rattle.netlist.specs.Exact.{exact_sum}
use Rattle.netlist.specs.Figures.{pin_failures, failures, reliability}
use Rattle.lists.specs.Lists.{count}
use Rattle.lists.proofs.Every.{AllFrom}
use Rattle.netlist.specs.Live.{live_reads_from, live_reads, readers, live_gates, SingleReaders}
use Rattle.netlist.proofs.Values.{inputs-length, input-value, right-input, right-gate}
use Rattle.netlist.proofs.Failures.{failures-length, failure-input, failure-gate, failures-at-most, start-fold}
use Rattle.bound.proofs.Near.{near-at, near-cancel, near-weaken}
use Rattle.bound.proofs.Bits.{fold_bits}
use Rattle.bound.proofs.Sources as sources
use Rattle.bound.proofs.Replace.{charges, Local, replaced}
use Rattle.bound.proofs.Rounded.{right-share, wrong-share, shares_sum}
use Rattle.bound.specs.Sharp.{further_gates, gate_halves, error_halves, KindsHonest}
use Rattle.bound.specs.Statements.{NearExact}
use Rattle.bound.proofs.Local.{Within, outputs-near, gate-near, gate-sharp}
use Rattle.bound.proofs.Charge.{three-each, halves_are}
use Rattle.bound.proofs.Shares.{if_right, right-at-most, right_given, wrong_given, given-sum}
use Rattle.bound.proofs.Literal.{errors_from, literal}

pub mul-pow : (a b k : ℕ) → (a * b) ^ k ≡ a ^ k * b ^ k
mul-pow a b zero = omega (arith, pow-zero (a * b), pow-zero a, pow-zero b, ap₂ ◌*◌ (pow-zero a) (pow-zero b))
mul-pow a b (suc k) =
    pow-succ' (a * b) k
    ∙ ap (λ (z : ℕ). a * b * z) (mul-pow a b k)
    ∙ omega arith
    ∙ sym (ap₂ ◌*◌ (pow-succ' a k) (pow-succ' b k))

module _ (u d : ℕ) (posu : 0 < u) (posd : 0 < d) (net : Netlist) (well : WellFormed d net) (q : ℕ) where
  -- the bit of a source: wrong with its rounded failure
  abbrev f : ℕ → ℕ
  f s = get_or (failures u d net q) s 0

  f-most : (s : ℕ) → f s ≤ u
  f-most s = failures-at-most u d posu posd net well q s

  abbrev r : ℕ → ℕ
  r = right-share u d f

  abbrev w : ℕ → ℕ
  w = wrong-share u d f

  sums : (s : ℕ) → r s + w s ≡ u * d
  sums = shares_sum u d f f-most

  pos : 0 < u * d
  pos = mul-pos posu posd

  -- the sum over errors, from errors of the inputs
  abbrev pub error_sum : (ℕ → Bool) → ℕ
  error_sum = errors_from u d net.outputs (right_values net q) net.inputs net.gates

  -- the exact sum is that of inputs without errors
  pub exact-is : u ^ length net.gates * exact_sum d net q ≡ error_sum (λ t. false)
  unfolding exact_sum
  exact-is =
      literal
      u
      d
      net.outputs
      (right_values net q)
      net.inputs
      net.gates
      (input_values net.inputs q)
      (λ t. false)
      (inputs-length net.inputs q)
      (λ i l. input-value net.inputs q i l ∙ sym (right-input net well.pins_below q i l))
      well.pins_below
      well.chances
      (right-gate net well.pins_below q)
      well.outputs_below

  input-sure : (i : ℕ) → i < net.inputs → f i ≡ 0
  input-sure = failure-input u d net well.pins_below q

  outside-sure : (i : ℕ) → net.inputs + length net.gates ≤ i → f i ≡ 0
  outside-sure i past =
      get_or-eq_default (failures u d net q) 0 (omega (arith, failures-length u d net well.pins_below q))

  module _ (single : SingleReaders net) where
    -- a gate is read once
    read-once : (t : ℕ) → net.inputs ≤ t → t < net.inputs + length net.gates → count t (live_reads_from net.outputs net.inputs net.gates) ≤ 1
    unfolding SingleReaders readers live_reads
    read-once t l k =
        let at : net.inputs + (t - net.inputs) ≡ t = omega arith in
        omega (arith, single (t - net.inputs) (omega arith), ap (λ (p : ℕ). count p (live_reads_from net.outputs net.inputs net.gates)) at)

    -- any charges that each gate and the outputs keep by themselves
    pub charged-bound : (charge : Gate → ℕ) (out : ℕ)
        → AllFrom no_gate (Local u (u * d) r w (λ t. wrong_given u d (right_values net q)) charge) net.inputs net.gates
        → Near
        (out * (u * d) ^ length net.outputs)
        (2 * (reliability u d net q * (u * d) ^ length net.outputs))
        (2 * (u * fold_bits r w net.outputs (if_right 1)))
        → Near
        ((charges net.outputs charge net.inputs net.gates + out) * d ^ length net.gates)
        (2 * (reliability u d net q * d ^ length net.gates))
        (2 * (u * exact_sum d net q))
    charged-bound charge out gates outs =
        let G = length net.gates in
        let rs = right_values net q in
        let rel = reliability u d net q in
        let c = charges net.outputs charge net.inputs net.gates in
        let all : Near ((c + out) * (u * d) ^ G) (2 * (rel * (u * d) ^ G)) (2 * (u * error_sum (λ t. false)))
        = replaced
        net.outputs
        (if_right 1)
        (λ t. right_given u d rs)
        (λ t. wrong_given u d rs)
        (u * d)
        (λ t. given-sum u d rs)
        r
        w
        sums
        pos
        u
        right-at-most
        charge
        net.inputs
        net.gates
        out
        rel
        (sources.sure u d (failures u d net q) net.inputs G input-sure outside-sure)
        well.pins_below
        well.outputs_below
        gates
        (sources.once u d (failures u d net q) net.inputs G input-sure outside-sure (live_reads_from net.outputs net.inputs net.gates) read-once)
        outs in
        let scale : (u * d) ^ G ≡ u ^ G * d ^ G = mul-pow u d G in
        let e : (c + out) * (u * d) ^ G ≡ u ^ G * ((c + out) * d ^ G) = ap (λ (z : ℕ). (c + out) * z) scale ∙ omega arith in
        let a : 2 * (rel * (u * d) ^ G) ≡ u ^ G * (2 * (rel * d ^ G)) = ap (λ (z : ℕ). 2 * (rel * z)) scale ∙ omega arith in
        let b : 2 * (u * error_sum (λ t. false)) ≡ u ^ G * (2 * (u * exact_sum d net q)) = ap (λ (z : ℕ). 2 * (u * z)) (sym exact-is) ∙ omega arith in
        near-cancel (u ^ G) ((c + out) * d ^ G) (2 * (rel * d ^ G)) (2 * (u * exact_sum d net q)) (one-le-pow G u posu) (near-at e a b all)

    -- a source that may fail is a gate
    abbrev is_gate : ℕ → Bool
    is_gate s = leb net.inputs s

    never : (s : ℕ) → is_gate s ≡ false → f s ≡ 0
    never = sources.never u d (failures u d net q) net.inputs (length net.gates) input-sure outside-sure

    -- a gate's failure is its figure by itself
    figure-is : (j : ℕ) → j < length net.gates → (halves : ℕ)
        → Within u d posu posd (failures u d net q) f-most is_gate never halves (right_values net q) (gate_at net j)
        → Local u (u * d) r w (λ t. wrong_given u d (right_values net q)) (λ g. halves) (net.inputs + j) (gate_at net j)
    unfolding gate_failure
    figure-is j l halves n =
        let g = gate_at net j in
        let vs = right_values net q in
        let fs = failures u d net q in
        let same : length (pin_values vs g.pins) ≡ length (pin_failures fs g.pins)
        = length-map g.pins (λ (p : ℕ). get_or vs p false) ∙ sym (length-map g.pins f) in
        let p = to_units u d g.chance in
        let figure : f (net.inputs + j) ≡ gate_step u (fold_over u (map f g.pins) (difference u g.table (pin_values vs g.pins))) p
        = failure-gate u d net well.pins_below q j l
        ∙ ap (λ (m : ℕ). gate_step u m p) (start-fold u g.table (pin_values vs g.pins) (pin_failures fs g.pins) same) in
        near-at refl (ap (λ (z : ℕ). 2 * (u * ((u * d) ^ length g.pins * (d * z)))) (sym figure)) refl n

    -- any charge that is at least what each gate costs by itself, and the outputs that read gates, less one
    charged : (charge : Gate → ℕ)
        → ((j : ℕ) → j < length net.gates → Local u (u * d) r w (λ t. wrong_given u d (right_values net q)) charge (net.inputs + j) (gate_at net j))
        → NearExact (charges net.outputs charge net.inputs net.gates + further_gates net.inputs net.outputs) u d net q (reliability u d net q)
    unfolding reliability
    charged charge gates =
        charged-bound charge (further_gates net.inputs net.outputs) gates
        (outputs-near u d posu posd (failures u d net q) f-most is_gate never net.outputs)

    -- three half units for each live gate
    pub bound : NearExact (3 * live_gates net) u d net q (reliability u d net q)
    bound =
        let charge : Gate → ℕ = λ g. 2 + further_gates net.inputs g.pins in
        near-weaken
        (mul-le-mul_right (d ^ length net.gates) (three-each net well single charge (λ g. omega arith)))
        (charged charge (λ j l.
        figure-is j l (charge (gate_at net j))
        (gate-near u d posu posd (failures u d net q) f-most is_gate never (right_values net q) (gate_at net j) (well.chances j l))))

    -- the sharper one
    pub sharp : KindsHonest net → NearExact (error_halves net) u d net q (reliability u d net q)
    sharp honest =
        near-at
        (ap (λ (k : ℕ). k * d ^ length net.gates) (sym (halves_are net well)))
        refl
        refl
        (charged (gate_halves net.inputs) (λ j l.
        figure-is j l (gate_halves net.inputs (gate_at net j))
        (gate-sharp u d posu posd (failures u d net q) f-most is_gate never (right_values net q) (gate_at net j) (well.chances j l) (honest j l))))
