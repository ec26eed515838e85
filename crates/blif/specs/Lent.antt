-- What the tests before have shown of tables, lent as words of a text, its names and its model in numbers.
-- There are as many gates as `heads`, and as many outputs as `outs`.
use Rattle.std.specs.Prelude.{ℕ, List, ◌≡◌, length}
use Rattle.names.specs.declared.Words.{Words}
use Rattle.writing.specs.declared.Model.{Model}
use Rattle.writing.specs.declared.Placement.{Placement}
use Rattle.placing.specs.Placing.{lent_sources, Placed}
use Rattle.blif.specs.Reading.{no_place}
use Rattle.blif.specs.declared.Definitions.{Definitions}
use Rattle.blif.specs.Resolved.{Resolved, Numbered}
use Rattle.blif.specs.Stages.{Named, OutputsKnown}

-- the names that inputs and gates define are words of the same text, and each is told by its number
abbrev pub LentNamed : Definitions → Type 0
LentNamed d =
    (d.names.now.text.now ≡ d.words.now.text.now)
    × Named d.words.now.text.now d.words.now.starts.now d.words.now.lines.now d.words.now.count
    d.names.now.starts.now d.names.now.lines.now d.names.now.count d.heads.now d.inputs (length d.heads.now)

abbrev pub LentOutputs : Definitions → List ℕ → Type 0
LentOutputs d outs =
    OutputsKnown d.words.now.text.now d.words.now.starts.now d.words.now.lines.now d.words.now.count outs d.inputs (length outs)

abbrev pub LentResolved : Model → Type 0
LentResolved m =
    Resolved m.words.now.text.now m.words.now.starts.now m.words.now.lines.now m.words.now.count m.heads.now
    m.sources.pins.now m.sources.counts.now m.outs.now m.sources.inputs (length m.heads.now) (length m.outs.now)

abbrev pub LentNumbered : Words → Model → Type 0
LentNumbered names m =
    Numbered m.words.now.text.now m.words.now.starts.now m.words.now.lines.now m.words.now.count names.lines.now m.sources.inputs (length m.heads.now)

-- all gates are placed, from no place on
abbrev pub LentPlaced : Model → Placement → Type 0
LentPlaced m p =
    Placed (lent_sources m.sources) m.sources.inputs (length m.heads.now) no_place (length m.heads.now) p.place.now p.order.now
