-- The netlist that tables of a text hold, once its gates are placed.
use Rattle.std.specs.Prelude.{ℕ, ◌+◌, ◌*◌, ◌<◌, ◌≤◌, List, ◌≡◌, length, get_or}
use Rattle.netlist.specs.Netlist.{Netlist}
use Rattle.area.specs.Layout.{most_pins, most_inputs, most_gates}
use Rattle.texts.specs.Words.{most_words}
use Rattle.statements.specs.Lines.{Places}
use Rattle.placing.specs.Placing.{entries, sources_of}
use Rattle.model.specs.Tables.{gate_from}
use Rattle.covers.specs.Cover.{cover_table}
use Rattle.meaning.specs.Net.{source_of, placed_gate, placed_net}
use Rattle.records.specs.Bytes.{two_bytes, gate_bytes}

-- the table of gate j, whose line begins with word `heads j` of n
abbrev pub table_at : List ℕ → List ℕ → List ℕ → ℕ → List ℕ → List ℕ → ℕ → ℕ
table_at text starts lines n heads counts j = cover_table (get_or counts j 0) (gate_from text starts lines n (get_or heads j 0)).cover

-- the bytes of gate j's record, and those of output word k
abbrev pub record_in : List ℕ → List ℕ → List ℕ → ℕ → List ℕ → List ℕ → List ℕ → ℕ → List ℕ → ℕ → List ℕ
record_in text starts lines n heads pins counts inputs place j =
    gate_bytes (placed_gate (sources_of pins counts) (table_at text starts lines n heads counts) inputs place j)

abbrev pub output_in : ℕ → List ℕ → List ℕ → ℕ → List ℕ
output_in inputs place outs k = two_bytes (source_of inputs place (get_or outs k 0))

-- the netlist of so many inputs, gates and outputs
unfoldable pub held_net :
    List ℕ → List ℕ → List ℕ → ℕ → List ℕ → List ℕ → List ℕ → List ℕ → List ℕ → List ℕ → ℕ → ℕ → ℕ → Netlist
held_net text starts lines n heads pins counts outs place order inputs gates outputs =
    placed_net (sources_of pins counts) (table_at text starts lines n heads counts) inputs place (entries order 0 gates) (entries outs 0 outputs)

-- the words of a text, in tables with room
pub record Words (text starts lines : List ℕ) (n : ℕ) : Type 0 where
  pub places : Places text starts n
  pub numbered : n ≤ length lines
  pub few : n ≤ most_words

-- the places of gates; pins that are numbers of definitions; how many of them each gate uses
pub record Sourced (inputs : ℕ) (place : List ℕ) : Type 0 where
  pub few : inputs ≤ most_inputs
  pub long : length place ≡ most_gates
  pub placed : (j : ℕ) → get_or place j 0 ≤ most_gates

pub record Pinned (inputs : ℕ) (pins place : List ℕ) : Type 0 where
  pub sourced : Sourced inputs place
  pub pins_long : length pins ≡ most_pins * most_gates
  pub pins_known : (i : ℕ) → get_or pins i 0 < inputs + most_gates

pub record Placeable (inputs : ℕ) (pins counts place : List ℕ) : Type 0 where
  pub pinned : Pinned inputs pins place
  pub counts_long : length counts ≡ most_gates
  pub counted : (j : ℕ) → get_or counts j 0 ≤ most_pins

-- gates in an order, each with its line among n words
pub record Ordered (n : ℕ) (heads order : List ℕ) (gates : ℕ) : Type 0 where
  pub few : gates ≤ most_gates
  pub long : length order ≡ most_gates
  pub headed : gates ≤ length heads
  pub inside : (j : ℕ) → j < gates → get_or heads j 0 < n
  pub ordered : (q : ℕ) → q < gates → get_or order q 0 < gates
