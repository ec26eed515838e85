-- The netlist of an accepted text is one that an image can hold, and the bytes written hold it. Assumes nothing.
use Prim.Native.Nat.{ℕ, ◌+◌, ◌-◌, ◌^◌, ◌<◌, ◌≤◌}
use mathlib.Core.Path.{◌≡◌, refl, ap, ap₂, sym, subst, ◌∙◌}
use mathlib.Core.List.{List, [], ◌∷◌, map}
use native.Mathlib.Omega.{arith}
use lib.ListN.{length, get_or, take, drop, length-map, length-take}
use lib.Seq.{take_at}
use lib.Dec.{leb}
use Rattle.refusal.specs.Judgement.{Fine}
use Rattle.refusal.specs.Judgement.{otherwise, refuse_unless}
use Rattle.refusal.proofs.Laws.{otherwise-fine}
use Rattle.netlist.specs.Netlist.{Gate, Netlist, gate_at}
use Rattle.texts.specs.Words.{Word, line_feeds, most_bytes}
use Rattle.statements.specs.declared.Phase.TheVariants.{Before}
use Rattle.statements.specs.Lines.{Line}
use Rattle.statements.specs.Fit.{fault}
use Rattle.model.specs.Model.{outputs_key, listed, gates_of, defined, number, after, word_in, no_word, no_gate}
use Rattle.covers.specs.Cover.{cover_value, cover_table, table_of}
use Rattle.covers.proofs.Rows.{table_below}
use Rattle.netlist.specs.Netlist.{input_values}
use Rattle.meaning.specs.Net.{source_of, placed_gate}
use Rattle.meaning.proofs.Meaning.{net, gate-at, count, to-source, below}
use Rattle.resolve.specs.Names.{sources_in, source_numbers}
use Rattle.image.specs.Image.{image_length}
use Rattle.records.specs.Bytes.{net_contents, image_of}
use Rattle.records.specs.Passes.{Holdable}
use Rattle.records.proofs.Length.{image-bytes}
use Rattle.records.proofs.Passes.{written-passes}
use Rattle.records.proofs.Netlist.{written-read-back}
use Rattle.image.specs.Refusals.{image_refusal}
use Rattle.image.specs.Netlist.{image_net}
use Rattle.blif.specs.Reading.{text_lines, input_count, gate_count, output_count, output_numbers, table_in, place_in, model_net, model_length}
use Rattle.blif.specs.Reading.{model_fault, room_fault, lines_refusal, blif_refusal, image_over}
use Rattle.blif.specs.Stages.{Fitting}
use Rattle.blif.proofs.Counting.{within, some-there}
use Rattle.blif.proofs.Fits.{fitting}
use Rattle.blif.proofs.Sources.{all_known}
use Rattle.blif_meaning.specs.Statements.{ImagePasses, ImageHoldsModel, written, WrittenMeansText}
use Rattle.blif_meaning.proofs.Statements.{r, kept, known, counts-fine, names-fine, outputs-fine, all-defined}
use Rattle.blif_meaning.proofs.Statements.{placed_model, same-model, map_at, values-right}
use Rattle.refusal.specs.declared.Cause.TheVariants.{TextLine}

after-long : (ws : List (List ℕ)) → length ws - 1 ≡ length (after ws)
after-long [] = refl
after-long (w ∷ ws) = omega arith

table-low : (a : ℕ) (cover : List Line) → cover_table a cover < 2 ^ 2 ^ a
unfolding cover_table table_of
table-low a cover = table_below (λ i. cover_value cover (input_values a i)) 0 (2 ^ a)

module _ (ls : List Line) (fine : model_fault ls ≡ Fine) (fit : Fitting ls) where
  abbrev model : Netlist
  model = placed_model ls fine

  gates-count : length (placed_model ls fine).gates ≡ gate_count ls
  unfolding placed_model
  gates-count = count (source_numbers ls) (table_in ls) (input_count ls) (gate_count ls) (r ls fine).place (r ls fine).order (output_numbers ls)
      (kept ls fine) (known ls (names-fine ls fine))

  abbrev origin : ℕ → ℕ
  origin q = get_or (r ls fine).order q 0

  the-gate : (q : ℕ) → q < gate_count ls
      → gate_at (placed_model ls fine) q ≡ placed_gate (source_numbers ls) (table_in ls) (input_count ls) (r ls fine).place (get_or (r ls fine).order q 0)
  unfolding placed_model
  the-gate q h = gate-at (source_numbers ls) (table_in ls) (input_count ls) (gate_count ls) (r ls fine).place (r ls fine).order (output_numbers ls)
      (kept ls fine) (known ls (names-fine ls fine)) q h

  pins-count : (q : ℕ) → q < gate_count ls → length (gate_at (placed_model ls fine) q).pins ≡ length (sources_in ls (get_or (r ls fine).order q 0))
  pins-count q h =
      ap (λ (g : Gate). length g.pins) (the-gate q h)
      ∙ length-map (source_numbers ls (get_or (r ls fine).order q 0)) (source_of (input_count ls) (r ls fine).place)
      ∙ length-map (sources_in ls (get_or (r ls fine).order q 0)) (λ (w : Word). number (defined ls) w.bytes)

  few : (j : ℕ) → j < gate_count ls → length (sources_in ls j) ≤ 4
  few j h =
      let ws = (get_or (gates_of ls) j no_gate).head.words in
      let number_of_lem = (get_or (gates_of ls) j no_gate).head.number in
      omega (
        arith,
        length-map (take (length ws - 2) (after ws)) (word_in number_of_lem),
        length-take (length ws - 2) (after ws),
        after-long ws,
        fit.few j h,
      )

  holdable : Holdable (placed_model ls fine)
  unfolding placed_model net
  holdable =
      record {
        inputs_fit = (within ls (counts-fine ls fine)).few_inputs;
        gates_fit = rw gates-count (within ls (counts-fine ls fine)).few_gates;
        some_output = rw outputs-count (some-there ls (counts-fine ls fine));
        outputs_fit = rw outputs-count (within ls (counts-fine ls fine)).few_outputs;
        few_pins = λ q h. pins q (rw gates-count at h);
        table_fits = λ q h. table q (rw gates-count at h);
        never_flips = λ q h. never q (rw gates-count at h);
        pins_below = below (source_numbers ls) (table_in ls) (input_count ls) (gate_count ls) (r ls fine).place (r ls fine).order (output_numbers ls)
            (kept ls fine) (known ls (names-fine ls fine));
        outputs_below = λ k h. rw gates-count (output k (rw outputs-count at h));
      }
    where
      outputs-count : length (map (source_of (input_count ls) (r ls fine).place) (output_numbers ls)) ≡ output_count ls
      outputs-count =
          length-map (output_numbers ls) (source_of (input_count ls) (r ls fine).place)
          ∙ length-map (listed outputs_key ls) (λ (w : Word). number (defined ls) w.bytes)

      pins : (q : ℕ) → q < gate_count ls → length (gate_at (placed_model ls fine) q).pins ≤ 4
      pins q h = rw (pins-count q h) (few (get_or (r ls fine).order q 0) ((kept ls fine).forth q h).0)

      table : (q : ℕ) → q < gate_count ls → (gate_at (placed_model ls fine) q).table < 2 ^ 2 ^ length (gate_at (placed_model ls fine) q).pins
      table q h =
          subst (λ (a : ℕ). (gate_at (placed_model ls fine) q).table < 2 ^ 2 ^ a) (sym (pins-count q h))
          (subst (λ (x : ℕ). x < 2 ^ 2 ^ length (sources_in ls (get_or (r ls fine).order q 0))) (sym (ap (λ (g : Gate). g.table) (the-gate q h)))
          (table-low (length (sources_in ls (get_or (r ls fine).order q 0))) (get_or (gates_of ls) (get_or (r ls fine).order q 0) no_gate).cover))

      never : (q : ℕ) → q < gate_count ls → ((gate_at (placed_model ls fine) q).kind ≡ 0) × ((gate_at (placed_model ls fine) q).chance ≡ 0)
      never q h = (ap (λ (g : Gate). g.kind) (the-gate q h), ap (λ (g : Gate). g.chance) (the-gate q h))

      output : (k : ℕ) → k < output_count ls → get_or (map (source_of (input_count ls) (r ls fine).place) (output_numbers ls)) k 0 < input_count ls + gate_count ls
      output k h =
          let d = number (defined ls) (get_or (listed outputs_key ls) k no_word).bytes in
          let at : get_or (output_numbers ls) k 0 ≡ number (defined ls) (get_or (listed outputs_key ls) k no_word).bytes =
          map_at (λ (w : Word). number (defined ls) w.bytes) no_word 0 (listed outputs_key ls) k h in
          let low : number (defined ls) (get_or (listed outputs_key ls) k no_word).bytes < input_count ls + gate_count ls =
          rw (← all-defined ls) (all_known (defined ls) (listed outputs_key ls) (outputs-fine ls (names-fine ls fine)) k h) in
          subst (λ (x : ℕ). x < input_count ls + gate_count ls)
          (sym
          (map_at (source_of (input_count ls) (r ls fine).place) 0 0 (output_numbers ls) k
          (rw (length-map (listed outputs_key ls) (λ (w : Word). number (defined ls) w.bytes)) h)
          ∙ ap (source_of (input_count ls) (r ls fine).place) at))
          (to-source (source_numbers ls) (table_in ls) (input_count ls) (gate_count ls) (r ls fine).place (r ls fine).order (output_numbers ls)
          (kept ls fine) (known ls (names-fine ls fine))
          (number (defined ls) (get_or (listed outputs_key ls) k no_word).bytes) low).0

  pub passes : image_refusal (image_of (model_net ls)) ≡ Fine
  passes = rw (← same-model ls fine) (written-passes (placed_model ls fine) holdable)

  pub holds-model : image_net (image_of (model_net ls)) ≡ model_net ls
  holds-model = rw (← same-model ls fine) (written-read-back (placed_model ls fine) holdable)

  outputs-long : length (model_net ls).outputs ≡ output_count ls
  unfolding model_net
  outputs-long =
      length-map (output_numbers ls) (source_of (input_count ls) (place_in ls))
      ∙ length-map (listed outputs_key ls) (λ (w : Word). number (defined ls) w.bytes)

  pub model-long : length (image_of (model_net ls)) ≡ model_length ls
  model-long =
      image-bytes (net_contents (model_net ls))
      ∙ ap₂ image_length (ap (λ (m : Netlist). length m.gates) (sym (same-model ls fine)) ∙ gates-count) outputs-long

-- what an accepted text has passed
module _ (text : List ℕ) (room : ℕ) (e : blif_refusal text room ≡ Fine) where
  lines-fine : (fault Before (text_lines text) (1 + line_feeds text) ≡ Fine) × (lines_refusal (text_lines text) room ≡ Fine)
  unfolding blif_refusal
  lines-fine =
      otherwise-fine (fault Before (text_lines text) (1 + line_feeds text)) (lines_refusal (text_lines text) room)
      (otherwise-fine (refuse_unless (leb (length text) most_bytes) TextLine 0)
      (otherwise (fault Before (text_lines text) (1 + line_feeds text)) (lines_refusal (text_lines text) room)) e).1

  pub accepted-lines : Fitting (text_lines text)
  accepted-lines = fitting (text_lines text) (1 + line_feeds text) lines-fine.0

  pub accepted-model : model_fault (text_lines text) ≡ Fine
  accepted-model = (otherwise-fine (model_fault (text_lines text)) (room_fault (text_lines text) room) lines-fine.1).0

pub image-passes : ImagePasses
image-passes text room e = passes (text_lines text) (accepted-model text room e) (accepted-lines text room e)

pub image-holds-model : ImageHoldsModel
image-holds-model text room e = holds-model (text_lines text) (accepted-model text room e) (accepted-lines text room e)

-- the bytes written are the image
is-image : (text bytes : List ℕ) → blif_refusal text (length bytes) ≡ Fine → written text bytes ≡ image_of (model_net (text_lines text))
unfolding image_over
is-image text bytes e =
    let ls = text_lines text in
    rw e
    (take_at (image_of (model_net ls)) (drop (model_length ls) bytes) (model_length ls)
    (model-long ls (accepted-model text (length bytes) e) (accepted-lines text (length bytes) e)))

pub written-means-text : WrittenMeansText
written-means-text text bytes e q v c k h =
    rw (is-image text bytes e, image-holds-model text (length bytes) e)
    (values-right (text_lines text) (accepted-model text (length bytes) e) q v c k h)
