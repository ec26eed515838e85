-- What is promised of the netlist that a text becomes, beside the equations of the call.
use Rattle.std.specs.Prelude.{ℕ, ◌/◌, ◌^◌, ◌<◌, ◌≡◌, Bool, false, List, map, length, get_or, take}
use Rattle.refusal.specs.Judgement.{Fine}
use Rattle.figure.specs.Figure.{is_odd, answer}
use Rattle.netlist.specs.Netlist.{right_values}
use Rattle.netlist.specs.WellFormed.{PinsBelow}
use Rattle.texts.specs.Words.{Word}
use Rattle.statements.specs.Lines.{Line}
use Rattle.model.specs.Model.{inputs_key, outputs_key, gates_key, listed, gates_of, no_word, no_gate}
use Rattle.image.specs.Refusals.{image_refusal}
use Rattle.image.specs.Netlist.{image_net}
use Rattle.records.specs.Bytes.{image_of}
use Rattle.covers.specs.Cover.{cover_value, cover_table}
use Rattle.placing.specs.Placing.{Earliest}
use Rattle.resolve.specs.Names.{sources_in, source_numbers}
use Rattle.blif.specs.Reading.{text_lines, input_count, gate_count, output_count, order_in, model_net, model_fault, model_length, blif_refusal, blif_left}

-- the table made of a cover answers as the cover does
abbrev pub TableIsCover : Type 0
TableIsCover = (cover : List Line) (vs : List Bool) → answer (cover_table (length vs) cover) vs ≡ cover_value cover vs

-- values of names: inputs have the pattern's bits, and a gate what its cover makes of its sources' values
pub record Consistent (ls : List Line) (q : ℕ) (v : List ℕ → Bool) : Type 0 where
  pub inputs : (i : ℕ) → i < input_count ls → v (get_or (listed inputs_key ls) i no_word).bytes ≡ is_odd (q / 2 ^ i)
  pub gates : (j : ℕ) → j < gate_count ls
      → v (get_or (listed gates_key ls) j no_word).bytes
      ≡ cover_value (get_or (gates_of ls) j no_gate).cover (map (λ (w : Word). v w.bytes) (sources_in ls j))

-- there are such values under every pattern
abbrev pub ValuesExist : Type 0
ValuesExist = (ls : List Line) → model_fault ls ≡ Fine → (q : ℕ) → (v : List ℕ → Bool) × Consistent ls q v

-- whatever the order of placing, such values are the netlist's right values, output by output
abbrev pub ValuesRight : Type 0
ValuesRight =
    (ls : List Line) → model_fault ls ≡ Fine
    → (q : ℕ) (v : List ℕ → Bool) → Consistent ls q v
    → (k : ℕ) → k < output_count ls
    → get_or (right_values (model_net ls) q) (get_or (model_net ls).outputs k 0) false ≡ v (get_or (listed outputs_key ls) k no_word).bytes

-- gate q of the image is, of the gates of the text that are not among the q before it and whose gate sources all are, the earliest; all gates come
abbrev pub EarliestNext : Type 0
EarliestNext =
    (ls : List Line) → model_fault ls ≡ Fine
    → (length (order_in ls) ≡ gate_count ls)
    × ((q : ℕ) → q < gate_count ls → Earliest (source_numbers ls) (input_count ls) (gate_count ls) (order_in ls) q)

-- so each gate reads inputs and gates that are placed before it
abbrev pub SourcesFirst : Type 0
SourcesFirst = (ls : List Line) → model_fault ls ≡ Fine → PinsBelow (model_net ls)

-- the image that an accepted text becomes passes refusals 1 to 8 and 22
abbrev pub ImagePasses : Type 0
ImagePasses = (text : List ℕ) (room : ℕ) → blif_refusal text room ≡ Fine → image_refusal (image_of (model_net (text_lines text))) ≡ Fine

-- and opening reads from it the netlist of the text's model: inputs, pins and tables of all gates, which never flip, and outputs
abbrev pub ImageHoldsModel : Type 0
ImageHoldsModel =
    (text : List ℕ) (room : ℕ) → blif_refusal text room ≡ Fine → image_net (image_of (model_net (text_lines text))) ≡ model_net (text_lines text)

-- the bytes that the call has written into a slice: as many as it answers, from the slice's first on
abbrev pub written : List ℕ → List ℕ → List ℕ
written text bytes = take (model_length (text_lines text)) (blif_left text bytes)

-- The whole promise. A text is accepted into a slice, and names have values: the inputs those of pattern q, each gate its cover's on those of its sources.
-- Then output k of the netlist that opening reads from the bytes written has, as its right value, the value of the name that the text lists as output k.
abbrev pub WrittenMeansText : Type 0
WrittenMeansText =
    (text bytes : List ℕ) → blif_refusal text (length bytes) ≡ Fine
    → (q : ℕ) (v : List ℕ → Bool) → Consistent (text_lines text) q v
    → (k : ℕ) → k < output_count (text_lines text)
    → get_or (right_values (image_net (written text bytes)) q) (get_or (image_net (written text bytes)).outputs k 0) false
    ≡ v (get_or (listed outputs_key (text_lines text)) k no_word).bytes
