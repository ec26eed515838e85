-- The sharper error of worked netlists, as a table; proofs/Sheets.antt computes it.
use Rattle.std.specs.Prelude.{ℕ, ◌*◌, ◌<◌, List, [], ◌∷◌, map, ◌≡◌}
use Rattle.netlist.specs.Netlist.{Gate, Netlist}
use Rattle.netlist.specs.Exact.{exact_sum}
use Rattle.netlist.specs.Figures.{reliability}
use Rattle.netlist.specs.Live.{live_gates}
use Rattle.bound.specs.Sharp.{error_halves}
use Rattle.bound.specs.Statements.{denominator}

abbrev pub buffer : ℕ → ℕ → ℕ → Gate
buffer source kind chance = record { pins = source ∷ []; table = 2; kind = kind; chance = chance }

abbrev pub still_and : ℕ → ℕ → Gate
still_and first second = record { pins = first ∷ second ∷ []; table = 8; kind = 0; chance = 0 }

-- a netlist, its error in half units, and its live gates
pub record Row : Type 0 where
  pub net : Netlist
  pub halves : ℕ
  pub live : ℕ

-- document 01's printed sheet, chances in halves: two buffers at one half, and an AND that never flips
abbrev pub printed : Netlist
printed = record { inputs = 2; gates = buffer 0 1 1 ∷ buffer 1 1 1 ∷ still_and 2 3 ∷ []; outputs = 4 ∷ [] }

-- three gates that never flip, behind each other: the figure is exact
abbrev pub still_chain : Netlist
still_chain = record { inputs = 2; gates = buffer 0 0 0 ∷ still_and 2 1 ∷ buffer 3 0 0 ∷ []; outputs = 4 ∷ [] }

-- an AND of eight inputs as a tree of gates that never flip, behind one buffer that does; and the same with a buffer of kind 1 at chance 0
abbrev pub wide_and : ℕ → ℕ → Netlist
wide_and kind chance =
    record {
      inputs = 8;
      gates =
          buffer 0 kind chance
          ∷ still_and 8 1
          ∷ still_and 2 3
          ∷ still_and 4 5
          ∷ still_and 6 7
          ∷ still_and 9 10
          ∷ still_and 11 12
          ∷ still_and 13 14
          ∷ [];
      outputs = 15 ∷ [];
    }

-- two buffers on an input, an output each, and a dead one
abbrev pub two_outputs : Netlist
two_outputs = record { inputs = 1; gates = buffer 0 1 1 ∷ buffer 0 2 1 ∷ buffer 0 1 1 ∷ []; outputs = 1 ∷ 2 ∷ 0 ∷ [] }

abbrev pub rows : List Row
rows =
    record { net = printed; halves = 5; live = 3 }
    ∷ record { net = still_chain; halves = 0; live = 3 }
    ∷ record { net = wide_and 1 1; halves = 5; live = 8 }
    ∷ record { net = wide_and 1 0; halves = 5; live = 8 }
    ∷ record { net = wide_and 0 0; halves = 3; live = 8 }
    ∷ record { net = two_outputs; halves = 5; live = 2 }
    ∷ []

pub record SharpSheets : Type 0 where
  pub halves_hold : map (λ (r : Row). error_halves r.net) rows ≡ map (λ (r : Row). r.halves) rows
  pub live_hold : map (λ (r : Row). live_gates r.net) rows ≡ map (λ (r : Row). r.live) rows
  pub still_exact : (u d : ℕ) → 0 < u → 0 < d → (q : ℕ) → reliability u d still_chain q * denominator d still_chain ≡ u * exact_sum d still_chain q
