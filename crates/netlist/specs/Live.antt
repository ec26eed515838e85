-- Live gates and readers of document 01, "The figures", as counts of one multiset: the reads by outputs and by pins of live gates.
-- `Live` and `Depends` below are the document's sentences; proofs/Live.antt shows that the counts meet them.
use Rattle.std.specs.Prelude.{ℕ, zero, suc, ◌+◌, ◌≤◌, ◌<◌, Bool, true, false, cond, List, [], ◌∷◌, ◌++◌, length}
use Rattle.lists.specs.Lists.{count}
use Rattle.figure.specs.Figure.{bit_of}
use Rattle.netlist.specs.Netlist.{Gate, Netlist, gate_at}

-- a gate with so many live readers is live if there is one
abbrev pub is_live : ℕ → Bool
is_live zero = false
is_live (suc readers) = true

-- so much for a gate with so many live readers, if it is live
abbrev pub if_live : ℕ → ℕ → ℕ
if_live readers amount = cond (is_live readers) amount 0

-- the reads rs, with those by the pins of the gate at source s if rs has a read of it
abbrev pub with_gate : ℕ → List ℕ → List ℕ → List ℕ
with_gate s pins rs = cond (is_live (count s rs)) (pins ++ rs) rs

-- the reads by outputs, and by the picked pins of those of these gates that have such a read themselves. The first of them is source s; later gates come
-- first, for a gate's readers come after it
abbrev pub reads_from : (Gate → List ℕ) → List ℕ → ℕ → List Gate → List ℕ
reads_from pick outputs s [] = outputs
reads_from pick outputs s (g ∷ gs) = with_gate s (pick g) (reads_from pick outputs (suc s) gs)

-- the reads by outputs and by the live ones of these gates: every pin counts
abbrev pub live_reads_from : List ℕ → ℕ → List Gate → List ℕ
live_reads_from outputs s gs = reads_from (λ g. g.pins) outputs s gs

unfoldable pub live_reads : Netlist → List ℕ
live_reads net = live_reads_from net.outputs net.inputs net.gates

-- the live readers of a source
unfoldable pub readers : Netlist → ℕ → ℕ
readers net s = count s (live_reads net)

-- how many of the k sources from s on stand in rs
abbrev pub live_among : List ℕ → ℕ → ℕ → ℕ
live_among rs s zero = 0
live_among rs s (suc k) = bit_of (is_live (count s rs)) + live_among rs (suc s) k

-- L of document 01: the number of live gates
unfoldable pub live_gates : Netlist → ℕ
live_gates net = live_among (live_reads net) net.inputs (length net.gates)

-- refusal 9 does not apply: no gate has two live readers
unfoldable pub SingleReaders : Netlist → Type 0
SingleReaders net = (j : ℕ) → j < length net.gates → readers net (net.inputs + j) ≤ 1

-- read by an output, or by a picked pin of a gate that is itself reached so
pub data Reached (net : Netlist) (pick : Gate → List ℕ) : ℕ → Type 0 where
  output_reads : {s : ℕ} → 0 < count s net.outputs → Reached net pick s
  gate_reads : {s : ℕ} (j : ℕ) → j < length net.gates → Reached net pick (net.inputs + j) → 0 < count s (pick (gate_at net j)) → Reached net pick s

-- live, as document 01 has it: read by an output, or by a gate that is live itself
abbrev pub Live : Netlist → ℕ → Type 0
Live net s = Reached net (λ g. g.pins) s

-- dependence, as document 01 has it: on what a gate reads, and on whatever that depends on
pub data Depends (net : Netlist) : ℕ → ℕ → Type 0 where
  reads : {t : ℕ} (j : ℕ) → j < length net.gates → 0 < count t (gate_at net j).pins → Depends net (net.inputs + j) t
  reads_further : {t : ℕ} (j r : ℕ) → j < length net.gates → 0 < count r (gate_at net j).pins → Depends net r t → Depends net (net.inputs + j) t
