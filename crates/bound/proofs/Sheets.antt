-- The table of sharper errors, by computation; the chain without flips is exact by the law for an error of 0. Assumes nothing.
use Prim.Native.Nat.{ℕ, zero, suc, ◌+◌, ◌≤◌, ◌<◌}
use mathlib.Core.List.{[], ◌∷◌}
use mathlib.Core.Path.{refl}
use native.Mathlib.Omega.{arith}
use lib.Dec.{lit≤}
use lib.ListN.{length}
use Rattle.lists.proofs.Every.{below_holds}
use Rattle.netlist.specs.Netlist.{gate_at}
use Rattle.netlist.specs.WellFormed.{GatePinsBelow, WellFormed}
use Rattle.netlist.specs.Live.{live_reads, readers, live_gates, SingleReaders}
use Rattle.bound.specs.Sharp.{error_halves, KindsHonest}
use Rattle.bound.specs.Sheets.{still_chain, SharpSheets}
use Rattle.bound.proofs.Average.{zero-exact}

still-well : (d : ℕ) → WellFormed d still_chain
still-well d = record { pins_below = pins; chances = chances; outputs_below = below_holds 5 (4 ∷ []) refl }
  where
    pins : (j : ℕ) → j < length still_chain.gates → GatePinsBelow (2 + j) (gate_at still_chain j)
    pins zero l = below_holds 2 (0 ∷ []) refl
    pins (suc zero) l = below_holds 3 (2 ∷ 1 ∷ []) refl
    pins (suc (suc zero)) l = below_holds 4 (3 ∷ []) refl
    pins (suc (suc (suc j))) l = absurd (omega arith)

    chances : (j : ℕ) → j < length still_chain.gates → (gate_at still_chain j).chance ≤ d
    chances zero l = omega arith
    chances (suc zero) l = omega arith
    chances (suc (suc zero)) l = omega arith
    chances (suc (suc (suc j))) l = absurd (omega arith)

still-single : SingleReaders still_chain
unfolding SingleReaders readers live_reads
still-single zero l = lit≤ tt
still-single (suc zero) l = lit≤ tt
still-single (suc (suc zero)) l = lit≤ tt
still-single (suc (suc (suc j))) l = absurd (omega arith)

still-honest : KindsHonest still_chain
still-honest zero l e = refl
still-honest (suc zero) l e = refl
still-honest (suc (suc zero)) l e = refl
still-honest (suc (suc (suc j))) l e = absurd (omega arith)

pub sharp-sheets : SharpSheets
unfolding error_halves readers live_reads live_gates
sharp-sheets =
    record {
      halves_hold = refl;
      live_hold = refl;
      still_exact = λ u d posu posd q. zero-exact u d posu posd still_chain (still-well d) still-single still-honest refl q;
    }
