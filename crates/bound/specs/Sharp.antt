-- The sharper error of document 02, card 6, in half units, by the netlist with its kinds as last accepted.
use Rattle.std.specs.Prelude.{ℕ, ◌+◌, ◌-◌, ◌<◌, Bool, cond, List, [], ◌∷◌, ◌≡◌, length, eqb, leb}
use Rattle.figure.specs.Figure.{bit_of}
use Rattle.lists.specs.Lists.{sum_below}
use Rattle.netlist.specs.Netlist.{Gate, Netlist, gate_at}
use Rattle.netlist.specs.Live.{if_live, readers}

-- how many of these sources a test passes; gates are the sources from the number of inputs on
abbrev pub how_many : (ℕ → Bool) → List ℕ → ℕ
how_many test [] = 0
how_many test (p ∷ ps) = bit_of (test p) + how_many test ps

-- of those that read gates all but one
abbrev pub further_gates : ℕ → List ℕ → ℕ
further_gates n sources = how_many (leb n) sources - 1

-- a live gate: 2 if its kind is another than 0, and 1 for each pin on a gate but the first
abbrev pub gate_halves : ℕ → Gate → ℕ
gate_halves n g = cond (eqb g.kind 0) 0 2 + further_gates n g.pins

-- all live gates, and 1 for each output on a gate but the first
unfoldable pub error_halves : Netlist → ℕ
error_halves net =
    sum_below (length net.gates) (λ j. if_live (readers net (net.inputs + j)) (gate_halves net.inputs (gate_at net j)))
    + further_gates net.inputs net.outputs

-- a gate of kind 0 has chance 0
abbrev pub KindsHonest : Netlist → Type 0
KindsHonest net = (j : ℕ) → j < length net.gates → (gate_at net j).kind ≡ 0 → (gate_at net j).chance ≡ 0
