-- The same tables, lent as words of a text and as sources of gates.
use Rattle.std.specs.Prelude.{ℕ, ◌+◌, ◌<◌, ◌≤◌, List, length, get_or}
use Rattle.area.specs.Layout.{most_gates, most_outputs}
use Rattle.names.specs.declared.Words.{Words}
use Rattle.placing.specs.declared.Sources.{Sources}
use Rattle.writing.specs.declared.Model.{Model}
use Rattle.writing.specs.declared.Placement.{Placement}
use Rattle.netlist.specs.Netlist.{Netlist}
use Rattle.writing.specs.Written as written
use Rattle.writing.specs.Written.{Pinned, Placeable, Ordered, record_in, held_net}

abbrev pub HeldWords : Words → Type 0
HeldWords w = written.Words w.text.now w.starts.now w.lines.now w.count

abbrev pub LentPins : Sources → List ℕ → Type 0
LentPins s place = Pinned s.inputs s.pins.now place

abbrev pub LentGates : Sources → List ℕ → Type 0
LentGates s place = Placeable s.inputs s.pins.now s.counts.now place

-- gates in the order of the image; outputs that are numbers of definitions, no more of them than an image has
abbrev pub LentOrder : Model → Placement → Type 0
LentOrder m p = Ordered m.words.now.count m.heads.now p.order.now (length m.heads.now)

abbrev pub OutputsIn : Model → Type 0
OutputsIn m = ((i : ℕ) → get_or m.outs.now i 0 < m.sources.inputs + most_gates) × (length m.outs.now ≤ most_outputs)

-- gate j's record, and the netlist of as many gates as there are heads and as many outputs as there are outs
abbrev pub lent_record : Model → List ℕ → ℕ → List ℕ
lent_record m place j =
    record_in m.words.now.text.now m.words.now.starts.now m.words.now.lines.now m.words.now.count m.heads.now
    m.sources.pins.now m.sources.counts.now m.sources.inputs place j

abbrev pub lent_net : Model → Placement → Netlist
lent_net m p =
    held_net m.words.now.text.now m.words.now.starts.now m.words.now.lines.now m.words.now.count m.heads.now
    m.sources.pins.now m.sources.counts.now m.outs.now p.place.now p.order.now m.sources.inputs (length m.heads.now) (length m.outs.now)
