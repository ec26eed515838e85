-- What is promised of every netlist that refusals 5 to 9 leave, of any size, for any number u of units in one and any denominator d of the chances:
-- document 01, "The list and the book", with every denominator multiplied out and distances in half units. proofs/Bound.antt and proofs/Average.antt prove it.
use Rattle.std.specs.Prelude.{ℕ, ◌+◌, ◌*◌, ◌^◌, ◌≤◌, ◌<◌, List, [], ◌≡◌, length}
use Rattle.rounding.specs.Rounding.{Near}
use Rattle.netlist.specs.Netlist.{Netlist}
use Rattle.netlist.specs.WellFormed.{WellFormed}
use Rattle.netlist.specs.Exact.{exact_sum}
use Rattle.netlist.specs.Figures.{reliability}
use Rattle.netlist.specs.Live.{live_gates, SingleReaders}
use Rattle.suppose.specs.Suppose.{shared_gates, shared_reliability}
use Rattle.netlist.specs.Average.{total_weight, exact_average_sum, average_units}
use Rattle.bound.specs.Sharp.{error_halves, KindsHonest}

-- the denominator of the exact sum: d for each gate
abbrev pub denominator : ℕ → Netlist → ℕ
denominator d net = d ^ length net.gates

-- so many units are at most so many half units away from u times the exact sum under q: all of it times the exact sum's denominator
abbrev pub NearExact : ℕ → ℕ → ℕ → Netlist → ℕ → ℕ → Type 0
NearExact halves u d net q units = Near (halves * denominator d net) (2 * (units * denominator d net)) (2 * (u * exact_sum d net q))

-- and from u times the exact average: times the sum of weights too
abbrev pub NearAverage : ℕ → ℕ → ℕ → Netlist → List ℕ → ℕ → Type 0
NearAverage halves u d net weights units =
    Near
    (halves * total_weight net weights * denominator d net)
    (2 * (units * total_weight net weights * denominator d net))
    (2 * (u * exact_average_sum d net weights))

-- the reliability under a pattern: 1.5 units for each live gate
abbrev pub ReliabilityBound : Type 0
ReliabilityBound =
    (u d : ℕ) → 0 < u → 0 < d → (net : Netlist) → WellFormed d net → SingleReaders net → (q : ℕ)
    → NearExact (3 * live_gates net) u d net q (reliability u d net q)

-- the average in units: half a unit more
abbrev pub AverageBound : Type 0
AverageBound =
    (u d : ℕ) → 0 < u → 0 < d → (net : Netlist) → WellFormed d net → SingleReaders net → (weights : List ℕ) → 0 < total_weight net weights
    → NearAverage (3 * live_gates net + 1) u d net weights (average_units u d net weights)

-- document 02, card 6: the sharper error, for a pattern and for the average
abbrev pub SharpBound : Type 0
SharpBound =
    (u d : ℕ) → 0 < u → 0 < d → (net : Netlist) → WellFormed d net → SingleReaders net → KindsHonest net → (q : ℕ)
    → NearExact (error_halves net) u d net q (reliability u d net q)

abbrev pub SharpAverage : Type 0
SharpAverage =
    (u d : ℕ) → 0 < u → 0 < d → (net : Netlist) → WellFormed d net → SingleReaders net → KindsHonest net → (weights : List ℕ) → 0 < total_weight net weights
    → NearAverage (error_halves net + 1) u d net weights (average_units u d net weights)

-- where it is 0 every figure is exact
abbrev pub ZeroExact : Type 0
ZeroExact =
    (u d : ℕ) → 0 < u → 0 < d → (net : Netlist) → WellFormed d net → SingleReaders net → KindsHonest net → error_halves net ≡ 0 → (q : ℕ)
    → reliability u d net q * denominator d net ≡ u * exact_sum d net q

-- and it is never more than 1.5 units for each live gate
abbrev pub NeverWider : Type 0
NeverWider = (d : ℕ) (net : Netlist) → WellFormed d net → SingleReaders net → error_halves net ≤ 3 * live_gates net

-- document 02, card 9: with any shared gates, the shared reliability is at most 1.5 units for each live gate and each set of suppositions away
abbrev pub SharedBound : Type 0
SharedBound =
    (u d : ℕ) → 0 < u → 0 < d → (net : Netlist) → WellFormed d net → (q : ℕ)
    → NearExact (3 * live_gates net * 2 ^ length (shared_gates net)) u d net q (shared_reliability u d net q)

-- and with none shared it is the reliability
abbrev pub NoneShared : Type 0
NoneShared =
    (u d : ℕ) → 0 < u → 0 < d → (net : Netlist) → WellFormed d net → (q : ℕ) → shared_gates net ≡ []
    → shared_reliability u d net q ≡ reliability u d net q
