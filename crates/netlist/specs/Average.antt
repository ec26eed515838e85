-- The weighted average of document 01, exact and in units: weights has entry q for pattern q. Chances are whole numbers of 1 / d.
use Rattle.std.specs.Prelude.{ℕ, ◌*◌, ◌^◌, List, get_or}
use Rattle.rounding.specs.Rounding.{round_div}
use Rattle.lists.specs.Lists.{sum_below}
use Rattle.netlist.specs.Netlist.{Netlist}
use Rattle.netlist.specs.Exact.{exact_sum}
use Rattle.netlist.specs.Figures.{reliability}

-- the sum over all patterns q of weight q × F q
abbrev pub weighted_sum : Netlist → List ℕ → (ℕ → ℕ) → ℕ
weighted_sum net weights F = sum_below (2 ^ net.inputs) (λ q. get_or weights q 0 * F q)

-- the sum of weights
unfoldable pub total_weight : Netlist → List ℕ → ℕ
total_weight net weights = sum_below (2 ^ net.inputs) (λ q. get_or weights q 0)

-- the exact average is this sum, divided by the sum of weights and by d for each gate
unfoldable pub exact_average_sum : ℕ → Netlist → List ℕ → ℕ
exact_average_sum d net weights = weighted_sum net weights (exact_sum d net)

-- the average in units
unfoldable pub average_units : ℕ → ℕ → Netlist → List ℕ → ℕ
average_units u d net weights = round_div (weighted_sum net weights (reliability u d net)) (total_weight net weights)
