-- Small netlists that pin the definitions down by computation: 16 units in one, chances in quarters. Assumes nothing.
use Prim.Native.Nat.{ℕ}
use mathlib.Core.List.{[], ◌∷◌, map}
use mathlib.Core.Path.{◌≡◌, refl}
use Rattle.rounding.specs.Rounding.{round_div, blend, to_units}
use Rattle.figure.specs.Figure.{answer, difference, start_values, gate_step, gate_failure, output_step}
use Rattle.netlist.specs.Netlist.{Gate, Netlist, right_values}
use Rattle.netlist.specs.Exact.{exact_sum}
use Rattle.netlist.specs.Figures.{failures, reliability}
use Rattle.netlist.specs.Live.{live_reads, readers, live_gates}
use Rattle.netlist.specs.Average.{total_weight, exact_average_sum, average_units}

-- gates by their truth tables: an inverter's is 1, a buffer's 2, the OR of two's 14
abbrev pub inverter : ℕ → ℕ → Gate
inverter p chance = record { pins = p ∷ []; table = 1; kind = 1; chance = chance }

abbrev pub buffer : ℕ → ℕ → Gate
buffer p chance = record { pins = p ∷ []; table = 2; kind = 1; chance = chance }

abbrev pub or_of : ℕ → ℕ → ℕ → Gate
or_of p q chance = record { pins = p ∷ q ∷ []; table = 14; kind = 1; chance = chance }

-- two inverters in a row: right if none flips or both do
abbrev pub inverters : Netlist
inverters = record { inputs = 1; gates = inverter 0 1 ∷ inverter 1 1 ∷ []; outputs = 2 ∷ [] }

-- an OR that input 1 takes out of the inverter's hand: its patterns 2 and 3 forgive the inverter
abbrev pub forgiving : Netlist
forgiving = record { inputs = 2; gates = inverter 0 1 ∷ or_of 2 1 1 ∷ []; outputs = 3 ∷ [] }

-- gates 2 and 3 are dead, though gate 3 reads gates 1 and 2
abbrev pub dead_end : Netlist
dead_end = record { inputs = 2; gates = or_of 0 1 1 ∷ inverter 2 1 ∷ inverter 2 1 ∷ or_of 4 3 1 ∷ []; outputs = 3 ∷ [] }

-- two outputs on one buffer
abbrev pub shared : Netlist
shared = record { inputs = 1; gates = buffer 0 2 ∷ []; outputs = 1 ∷ 1 ∷ [] }

-- exact sums, of 4 for each gate: a dead gate's flips add up to 4
pub exact-sums : exact_sum 4 inverters 0 ∷ exact_sum 4 dead_end 3 ∷ exact_sum 4 shared 1 ∷ [] ≡ 10 ∷ 160 ∷ 2 ∷ []
unfolding exact_sum right_values answer
exact-sums = refl

pub exact-patterns : map (exact_sum 4 forgiving) (0 ∷ 1 ∷ 2 ∷ 3 ∷ []) ≡ 10 ∷ 10 ∷ 12 ∷ 12 ∷ []
unfolding exact_sum right_values answer
exact-patterns = refl

-- the same in units; on two outputs the product counts the buffer twice
pub in-units : map (reliability 16 4 forgiving) (0 ∷ 1 ∷ 2 ∷ 3 ∷ []) ≡ 10 ∷ 10 ∷ 12 ∷ 12 ∷ []
unfolding reliability failures right_values gate_failure gate_step start_values difference answer output_step blend round_div to_units
in-units = refl

pub shared-product : reliability 16 4 shared 0 ≡ 4
unfolding reliability failures right_values gate_failure gate_step start_values difference answer output_step blend round_div to_units
shared-product = refl

-- averages: an exact one, two thirds go up, one third goes down; a half above 11 and one above 10 go to the even number
pub averages :
    map (average_units 16 4 forgiving)
    ((1 ∷ 1 ∷ 1 ∷ 1 ∷ []) ∷ (2 ∷ 0 ∷ 1 ∷ 0 ∷ []) ∷ (1 ∷ 0 ∷ 2 ∷ 0 ∷ []) ∷ (1 ∷ 0 ∷ 0 ∷ 3 ∷ []) ∷ (3 ∷ 0 ∷ 0 ∷ 1 ∷ []) ∷ [])
    ≡ 11 ∷ 11 ∷ 11 ∷ 12 ∷ 10 ∷ []
unfolding
    average_units total_weight reliability failures right_values
    gate_failure gate_step start_values difference answer output_step blend round_div to_units
averages = refl

pub exact-average : exact_average_sum 4 forgiving (2 ∷ 0 ∷ 1 ∷ 0 ∷ []) ≡ 32
unfolding exact_average_sum exact_sum right_values answer
exact-average = refl

-- live gates, and the live readers of each source: a dead gate reads nothing, two outputs are two readers
pub live-gates : map live_gates (inverters ∷ forgiving ∷ dead_end ∷ shared ∷ []) ≡ 2 ∷ 2 ∷ 2 ∷ 1 ∷ []
unfolding live_gates live_reads
live-gates = refl

pub live-readers-of : map (readers dead_end) (0 ∷ 1 ∷ 2 ∷ 3 ∷ 4 ∷ 5 ∷ []) ≡ 1 ∷ 1 ∷ 1 ∷ 1 ∷ 0 ∷ 0 ∷ []
unfolding readers live_reads
live-readers-of = refl

pub shared-readers : map (readers shared) (0 ∷ 1 ∷ []) ≡ 1 ∷ 2 ∷ []
unfolding readers live_reads
shared-readers = refl
