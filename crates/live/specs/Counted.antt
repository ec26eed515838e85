-- Counts of live readers, entry s for source s: how reads are added to them, and how live gates are read off them.
use Rattle.std.specs.Prelude.{ℕ, zero, suc, ◌+◌, ◌*◌, ◌≤◌, cond, List, [], ◌≡◌, length, get_or}
use Rattle.figure.specs.Figure.{bit_of}
use Rattle.lists.specs.Lists.{count}
use Rattle.netlist.specs.Live.{is_live}
use Rattle.area.specs.Layout.{most_pins, most_gates, most_outputs, most_sources, inputs, used_pins}

-- every output and every pin of the largest netlist
abbrev pub most_reads : ℕ
most_reads = most_outputs + most_pins * most_gates

-- counts that take further reads: one for each source, and none above what a netlist has
pub record Counts (counts : List ℕ) : Type 0 where
  pub long : length counts ≡ most_sources
  pub few : (s : ℕ) → get_or counts s 0 ≤ most_reads

-- new is old with the reads rs added
pub record Added (old rs new : List ℕ) : Type 0 where
  pub long : length new ≡ most_sources
  pub each : (s : ℕ) → get_or new s 0 ≡ get_or old s 0 + count s rs

-- what a gate with so many readers reads: nothing if it is dead
abbrev pub reads_of : ℕ → List ℕ → List ℕ
reads_of readers pins = cond (is_live readers) pins []

-- what gate j of the words reads, by these counts
abbrev pub gate_reads : List ℕ → List ℕ → ℕ → List ℕ
gate_reads ws counts j = reads_of (get_or counts (inputs ws + j) 0) (used_pins ws j)

-- how many of the k sources from s on have a reader
abbrev pub live_counted : List ℕ → ℕ → ℕ → ℕ
live_counted counts s zero = 0
live_counted counts s (suc k) = bit_of (is_live (get_or counts s 0)) + live_counted counts (suc s) k
