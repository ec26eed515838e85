-- The average's bound: the mean of the patterns' bounds, and one rounding more. Assumes nothing.
use Prim.Native.Nat.{ℕ, zero, suc, ◌+◌, ◌-◌, ◌*◌, ◌^◌, ◌≤◌, ◌<◌}
use mathlib.Core.Bool.{Bool, true, false, cond}
use mathlib.Core.List.{List}
use mathlib.Core.Path.{◌≡◌, refl, ap}
use native.Mathlib.Nat.{le_trans, le_of_eq}
use native.Mathlib.Omega.{arith}
use lib.Dec.{eqb, leb}
use lib.ListN.{get_or}
use Rattle.rounding.specs.Rounding.{round_div, Near}
use Rattle.rounding.proofs.Laws.{near}
use Rattle.netlist.specs.Netlist.{Netlist}
use Rattle.netlist.specs.Exact.{exact_sum}
use Rattle.netlist.specs.Figures.{reliability}
use Rattle.netlist.specs.Live.{live_gates}
use Rattle.lists.specs.Lists.{sum_below}
use Rattle.netlist.specs.Average.{weighted_sum, total_weight, exact_average_sum, average_units}
use Rattle.bound.specs.Statements.{denominator, NearExact, NearAverage, ReliabilityBound, AverageBound, SharpBound, SharpAverage, ZeroExact, NeverWider}
use Rattle.bound.specs.Sharp.{how_many, gate_halves, error_halves}
use Rattle.bound.proofs.Near.{near-at, near-trans, near_add, near-scale}
use Rattle.bound.proofs.Bound.{bound, sharp}
use Rattle.bound.proofs.Charge.{halves_are, three-each}

pub reliability-bound : ReliabilityBound
reliability-bound u d posu posd net well single q = bound u d posu posd net well q single

-- a bound on every entry, weighted and added up
weighted-near : (k e a b : ℕ) (weight F H : ℕ → ℕ) → ((q : ℕ) → Near e (2 * (F q * a)) (2 * (b * H q)))
    → Near (e * sum_below k weight) (2 * (sum_below k (λ q. weight q * F q) * a)) (2 * (b * sum_below k (λ q. weight q * H q)))
weighted-near zero e a b weight F H h = record { up = omega arith; down = omega arith }
weighted-near (suc k) e a b weight F H h =
    near-at
    (omega arith)
    (omega arith)
    (omega arith)
    (near_add (weighted-near k e a b weight F H h) (near-scale (weight k) (h k)))

-- whatever half units every pattern is within, the average is within one more
averaged : (u d : ℕ) (net : Netlist) (weights : List ℕ) → 0 < total_weight net weights → (halves : ℕ)
    → ((q : ℕ) → NearExact halves u d net q (reliability u d net q)) → NearAverage (halves + 1) u d net weights (average_units u d net weights)
unfolding average_units exact_average_sum total_weight
averaged u d net weights pos halves each =
    let W = total_weight net weights in
    let D = denominator d net in
    let S = weighted_sum net weights (reliability u d net) in
    let A = round_div S W in
    let last = near-scale D (near S W pos) in
    let sums = weighted-near (2 ^ net.inputs) (halves * D) D u (λ q. get_or weights q 0) (reliability u d net) (exact_sum d net) each in
    let e : D * W + halves * D * W ≡ (halves + 1) * W * D = omega arith in
    let a : D * (2 * (A * W)) ≡ 2 * (A * W * D) = omega arith in
    let m : 2 * (S * D) ≡ D * (2 * S) = omega arith in
    near-at e a refl (near-trans last (near-at refl m refl sums))

pub average-bound : AverageBound
average-bound u d posu posd net well single weights pos =
    averaged u d net weights pos (3 * live_gates net) (reliability-bound u d posu posd net well single)

-- the sharper error
pub sharp-bound : SharpBound
sharp-bound u d posu posd net well single honest q = sharp u d posu posd net well q single honest

pub sharp-average : SharpAverage
sharp-average u d posu posd net well single honest weights pos =
    averaged u d net weights pos (error_halves net) (sharp-bound u d posu posd net well single honest)

pub zero-exact : ZeroExact
zero-exact u d posu posd net well single honest none q =
    let D = denominator d net in
    let n = near-at (ap (λ (k : ℕ). k * D) none) refl refl (sharp-bound u d posu posd net well single honest q) in
    omega (arith, n.up, n.down)

pub never-wider : NeverWider
never-wider d net well single =
    le_trans (le_of_eq (halves_are net well))
    (three-each net well single (gate_halves net.inputs) (λ g. few (eqb g.kind 0) (how_many (leb net.inputs) g.pins)))
  where
    few : (b : Bool) (k : ℕ) → cond b 0 2 + (k - 1) ≤ 2 + k
    few true k = omega arith
    few false k = omega arith
