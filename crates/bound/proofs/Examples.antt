-- The bound says something of a netlist, and refusal 9 is needed for it: 16 units in one, chances in quarters. Assumes nothing.
use Prim.Native.Nat.{ℕ, zero, suc, ◌+◌, ◌*◌, ◌≤◌, ◌<◌}
use mathlib.Core.List.{[], ◌∷◌}
use mathlib.Core.Path.{refl}
use native.Mathlib.Omega.{arith}
use lib.ListN.{length}
use lib.Dec.{le→leb, lit≤, lit<}
use Rattle.rounding.specs.Rounding.{round_div, blend, to_units}
use Rattle.figure.specs.Figure.{answer, difference, start_values, gate_step, gate_failure, output_step}
use Rattle.lists.proofs.Every.{below_holds}
use Rattle.netlist.specs.Netlist.{gate_at, right_values}
use Rattle.netlist.specs.WellFormed.{GatePinsBelow, WellFormed}
use Rattle.netlist.specs.Exact.{exact_sum}
use Rattle.netlist.specs.Figures.{failures, reliability}
use Rattle.netlist.specs.Live.{live_reads, readers, live_gates, SingleReaders}
use Rattle.netlist.proofs.Examples.{forgiving, shared}
use Rattle.bound.specs.Statements.{NearExact}
use Rattle.bound.proofs.Average.{reliability-bound}

-- a netlist that meets what the bound asks
pub forgiving-well : WellFormed 4 forgiving
forgiving-well = record { pins_below = pins; chances = chances; outputs_below = below_holds 4 (3 ∷ []) refl }
  where
    pins : (j : ℕ) → j < length forgiving.gates → GatePinsBelow (2 + j) (gate_at forgiving j)
    pins zero l = below_holds 2 (0 ∷ []) refl
    pins (suc zero) l = below_holds 3 (2 ∷ 1 ∷ []) refl
    pins (suc (suc j)) l = absurd (omega arith)

    chances : (j : ℕ) → j < length forgiving.gates → (gate_at forgiving j).chance ≤ 4
    chances zero l = lit≤ tt
    chances (suc zero) l = lit≤ tt
    chances (suc (suc j)) l = absurd (omega arith)

pub forgiving-single : SingleReaders forgiving
unfolding SingleReaders readers live_reads
forgiving-single zero l = lit≤ tt
forgiving-single (suc zero) l = lit≤ tt
forgiving-single (suc (suc j)) l = absurd (omega arith)

-- so its figures are within three units of the exact ones
pub forgiving-bound : (q : ℕ) → NearExact 6 16 4 forgiving q (reliability 16 4 forgiving q)
unfolding live_gates live_reads
forgiving-bound q = reliability-bound 16 4 (lit< tt) (lit< tt) forgiving forgiving-well forgiving-single q

-- a gate on two outputs breaks the bound
pub shared-breaks : NearExact (3 * live_gates shared) 16 4 shared 0 (reliability 16 4 shared 0) → ⊥
unfolding
    live_gates live_reads exact_sum reliability failures right_values gate_failure gate_step start_values difference answer output_step blend round_div to_units
shared-breaks n = le→leb (2 * (16 * exact_sum 4 shared 0)) _ n.down
