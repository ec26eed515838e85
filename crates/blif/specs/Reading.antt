-- Reading BLIF: what a text is refused for, and the image that is written. Document 02, card 4.
use Rattle.std.specs.Prelude.{ℕ, ◌+◌, List, ◌++◌, map, length, get_or, drop, replicate, leb}
use Rattle.refusal.specs.Judgement.{Judgement}
use Rattle.refusal.specs.Judgement.{refuse_unless, otherwise, unless_refused}
use Rattle.netlist.specs.Netlist.{Netlist}
use Rattle.area.specs.Layout.{most_gates}
use Rattle.texts.specs.Words.{Word, words_of, line_feeds, most_bytes}
use Rattle.statements.specs.declared.Phase.TheVariants.{Before}
use Rattle.statements.specs.Lines.{Line, lines_of}
use Rattle.statements.specs.Fit.{fault}
use Rattle.placing.specs.Placing.{placing, placing_order, loop_fault}
use Rattle.model.specs.Model.{inputs_key, outputs_key, listed, gates_of, defined, number, no_gate}
use Rattle.model.specs.Counts.{line_at, count_fault}
use Rattle.covers.specs.Cover.{cover_table}
use Rattle.meaning.specs.Net.{placed_net}
use Rattle.resolve.specs.Names.{sources_in, source_numbers, names_fault}
use Rattle.image.specs.Image.{image_length}
use Rattle.records.specs.Bytes.{image_of}
use Rattle.refusal.specs.declared.Cause.TheVariants.{TextLine, ImageSlice}

-- the lines of a text that have words
abbrev pub text_lines : List ℕ → List Line
text_lines text = lines_of (words_of text)

-- the counts of the model
abbrev pub input_count : List Line → ℕ
input_count ls = length (listed inputs_key ls)

abbrev pub gate_count : List Line → ℕ
gate_count ls = length (gates_of ls)

abbrev pub output_count : List Line → ℕ
output_count ls = length (listed outputs_key ls)

-- gate j's table is its cover's
abbrev pub table_in : List Line → ℕ → ℕ
table_in ls j = cover_table (length (sources_in ls j)) (get_or (gates_of ls) j no_gate).cover

abbrev pub output_numbers : List Line → List ℕ
output_numbers ls = map (λ (w : Word). number (defined ls) w.bytes) (listed outputs_key ls)

-- no gate is placed at first
abbrev pub no_place : List ℕ
no_place = replicate most_gates 0

abbrev pub place_in : List Line → List ℕ
place_in ls = placing (source_numbers ls) (input_count ls) (gate_count ls) (gate_count ls) 0 no_place

abbrev pub order_in : List Line → List ℕ
order_in ls = placing_order (source_numbers ls) (input_count ls) (gate_count ls) (gate_count ls) 0 no_place

-- the netlist of the model, its gates in placing order
unfoldable pub model_net : List Line → Netlist
model_net ls = placed_net (source_numbers ls) (table_in ls) (input_count ls) (place_in ls) (order_in ls) (output_numbers ls)

-- refusal 19: counts, names, loops, in this order
abbrev pub loops_fault : List Line → Judgement
loops_fault ls = loop_fault (source_numbers ls) (input_count ls) (gate_count ls) (λ (j : ℕ). line_at (defined ls) (input_count ls + j))

abbrev pub model_fault : List Line → Judgement
model_fault ls = otherwise (count_fault ls) (otherwise (names_fault ls) (loops_fault ls))

-- refusal 20: a slice of `room` bytes is shorter than the image
abbrev pub model_length : List Line → ℕ
model_length ls = image_length (gate_count ls) (output_count ls)

abbrev pub room_fault : List Line → ℕ → Judgement
room_fault ls room = refuse_unless (leb (model_length ls) room) ImageSlice 0

-- 19 and 20 of lines where 18 finds nothing
abbrev pub lines_refusal : List Line → ℕ → Judgement
lines_refusal ls room = otherwise (model_fault ls) (room_fault ls room)

-- 18, 19, 20 of a text, in this order
unfoldable pub blif_refusal : List ℕ → ℕ → Judgement
blif_refusal text room =
    otherwise (refuse_unless (leb (length text) most_bytes) TextLine 0)
    (otherwise (fault Before (text_lines text) (1 + line_feeds text)) (lines_refusal (text_lines text) room))

-- the image over the first bytes of a slice
unfoldable pub image_over : List Line → List ℕ → List ℕ
image_over ls bytes = image_of (model_net ls) ++ drop (model_length ls) bytes

-- what the slice holds afterwards
abbrev pub blif_left : List ℕ → List ℕ → List ℕ
blif_left text bytes = unless_refused (blif_refusal text (length bytes)) (image_over (text_lines text) bytes) bytes
