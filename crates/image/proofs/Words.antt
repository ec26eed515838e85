-- Where an image's words stand in an area, whatever follows them. Assumes nothing.
use Prim.Native.Nat.{ℕ, ◌+◌, ◌*◌, ◌<◌}
use mathlib.Core.List.{List, ◌++◌, append_assoc}
use mathlib.Core.Path.{◌≡◌, refl, sym, ap, ◌∙◌}
use native.Mathlib.Omega.{arith}
use lib.ListN.{get_or, drop, get_or-append}
use lib.Seq.{drop-append-add, drop_at, take_at, get_or-drop}
use Rattle.area.specs.Layout.{head_words, inputs, gates, outputs, pattern}
use Rattle.area.specs.Layout.{gate_words, gate_index, pin_count, table, pins_index, pins, flip_index, flip, figure_index, figure, output_words}
use Rattle.lists.proofs.Joined.{drop-joined}
use Rattle.image.specs.Image.{image_inputs, image_gates, image_outputs, middle, record_count, record_table, record_pins}
use Rattle.image.specs.Loading.{record_units, new_head, record_words, gate_list, output_list, middle_words, image_words}
use Rattle.image.proofs.Middle.{length-gates, length-outputs}

-- gate j's words are those of its record
pub record GateHeld (ws m : List ℕ) (j : ℕ) : Type 0 where
  pub same_count : pin_count ws j ≡ record_count m j
  pub same_table : table ws j ≡ record_table m j
  pub same_pins : pins ws j ≡ record_pins m j
  pub same_units : flip ws j ≡ record_units m j
  pub no_figure : figure ws j ≡ 0

module _ (bs rest : List ℕ) where
  -- the counts and the pattern stand in the head
  pub head-inputs : inputs (image_words bs ++ rest) ≡ image_inputs bs
  unfolding image_words middle_words
  head-inputs = refl

  pub head-gates : gates (image_words bs ++ rest) ≡ image_gates bs
  unfolding image_words middle_words
  head-gates = refl

  pub head-outputs : outputs (image_words bs ++ rest) ≡ image_outputs bs
  unfolding image_words middle_words
  head-outputs = refl

  pub head-pattern : pattern (image_words bs ++ rest) ≡ 0
  unfolding image_words middle_words
  head-pattern = refl

  after-head : (i : ℕ) → drop (head_words + i) (image_words bs ++ rest)
      ≡ drop i (gate_list (middle bs) (image_gates bs) ++ (output_list (middle bs) (image_gates bs) (image_outputs bs) ++ rest))
  unfolding image_words middle_words
  after-head i =
      let records = gate_list (middle bs) (image_gates bs) in
      let sources = output_list (middle bs) (image_gates bs) (image_outputs bs) in
      let head = new_head (image_inputs bs) (image_gates bs) (image_outputs bs) in
      ap (λ (l : List ℕ). drop (head_words + i) (head ++ l)) (append_assoc records sources rest) ∙ drop-append-add head (records ++ (sources ++ rest)) i

  pub outputs-held : output_words (image_words bs ++ rest) ≡ output_list (middle bs) (image_gates bs) (image_outputs bs)
  outputs-held =
      let g = image_gates bs in
      let records = gate_list (middle bs) g in
      let sources = output_list (middle bs) g (image_outputs bs) in
      rw (head-gates, head-outputs, after-head (gate_words * g), drop_at records (sources ++ rest) (gate_words * g) (length-gates (middle bs) g))
      (take_at sources rest (image_outputs bs) (length-outputs (middle bs) g (image_outputs bs)))

  word_at : (j : ℕ) → j < image_gates bs → (p i : ℕ) → i < gate_words → p ≡ gate_index j + i
      → get_or (image_words bs ++ rest) p 0 ≡ get_or (record_words (middle bs) j) i 0
  word_at j l p i h e =
      let ws = image_words bs ++ rest in
      let own = record_words (middle bs) j in
      let d = drop-joined (record_words (middle bs)) gate_words (λ k. refl) (image_gates bs) j l _ in
      ap (λ (q : ℕ). get_or ws q 0) e ∙ sym (get_or-drop (gate_index j) ws i 0) ∙ ap (λ (v : List ℕ). get_or v i 0) (after-head (gate_words * j) ∙ d.1)
      ∙ get_or-append own d.0 0 i h

  pub gate-held : (j : ℕ) → j < image_gates bs → GateHeld (image_words bs ++ rest) (middle bs) j
  gate-held j l =
      record {
        same_count = word_at j l (gate_index j) 0 (omega arith) (omega arith);
        same_table = word_at j l (gate_index j + 1) 1 (omega arith) refl;
        same_pins = rw (
          word_at j l (pins_index j) 2 (omega arith) refl,
          word_at j l (pins_index j + 1) 3 (omega arith) (omega arith),
          word_at j l (pins_index j + 2) 4 (omega arith) (omega arith),
          word_at j l (pins_index j + 3) 5 (omega arith) (omega arith),
        );
        same_units = word_at j l (flip_index j) 6 (omega arith) refl;
        no_figure = word_at j l (figure_index j) 7 (omega arith) refl;
      }
