-- The middle of an image: which part it is, and the words that are stored of it. Assumes nothing.
use Prim.Native.Nat.{ℕ, ◌+◌, ◌-◌, ◌*◌, ◌≤◌}
use mathlib.Core.Path.{◌≡◌, refl, sym, ap, ◌∙◌}
use mathlib.Core.List.{List, [], ◌∷◌, ◌++◌}
use native.Mathlib.Omega.{arith}
use lib.ListN.{length, get_or, take, drop, length-append, length-drop}
use lib.Seq.{sets, length-take-le}
use Rattle.chance.specs.Flip.{flip_units}
use Rattle.area.specs.Layout.{head_words, gate_words, gate_index, outputs_index, needed}
use Rattle.lists.proofs.Parts.{sets-append, sets_first}
use Rattle.lists.proofs.Joined.{length-joined, length-listed}
use Rattle.image.specs.Image.{middle_bytes, trailer_at, image_inputs, image_gates, image_outputs, image_back, middle}
use Rattle.image.specs.Image.{record_count, record_kind, record_table, record_pins, record_field, output_at}
use Rattle.image.specs.Refusals.{TrailerRight}
use Rattle.image.specs.Loading.{record_units, new_head, record_words, gate_list, output_list, middle_words, image_words, image_over}

-- the part that the code hands on is the middle, and it has every record and output word
pub part-middle : (bs : List ℕ) (b : ℕ) → TrailerRight bs → b ≡ image_back bs
    → take (trailer_at bs - (trailer_at bs - b)) (drop (trailer_at bs - b) bs) ≡ middle bs
unfolding middle
part-middle bs b t e =
    let inside : image_back bs ≤ trailer_at bs = t.inside in
    let back : trailer_at bs - (trailer_at bs - b) ≡ image_back bs = omega arith in
    ap (λ (i : ℕ). take i (drop (trailer_at bs - b) bs)) back ∙ ap (λ (i : ℕ). take (image_back bs) (drop (trailer_at bs - i) bs)) e

pub length-of-middle : (bs : List ℕ) → TrailerRight bs → length (middle bs) ≡ middle_bytes (image_gates bs) (image_outputs bs)
unfolding middle
length-of-middle bs t =
    let inside : image_back bs ≤ trailer_at bs = t.inside in
    let enough : image_back bs ≤ length (drop (trailer_at bs - image_back bs) bs) = omega (arith, length-drop (trailer_at bs - image_back bs) bs) in
    length-take-le (image_back bs) (drop (trailer_at bs - image_back bs) bs) enough ∙ t.back

module _ (m : List ℕ) where
  pub length-gates : (j : ℕ) → length (gate_list m j) ≡ gate_words * j
  length-gates j = length-joined (record_words m) gate_words (λ i. refl) j

  pub gate-place : (j : ℕ) → gate_index j ≡ head_words + length (gate_list m j)
  gate-place j = ap (λ (x : ℕ). head_words + x) (sym (length-gates j))

  pub length-outputs : (g k : ℕ) → length (output_list m g k) ≡ k
  length-outputs g k = length-listed (output_at m g) k

  pub output-place : (g k : ℕ) → outputs_index g + k ≡ outputs_index g + length (output_list m g k)
  output-place g k = ap (λ (x : ℕ). outputs_index g + x) (sym (length-outputs g k))

  pub length-middle : (n g k : ℕ) → length (middle_words m n g k) ≡ needed g k
  unfolding middle_words
  length-middle n g k =
      length-append (new_head n g k) (gate_list m g ++ output_list m g k)
      ∙ ap (λ (x : ℕ). head_words + x) (length-append (gate_list m g) (output_list m g k))
      ∙ omega (arith, length-gates g, length-outputs g k)

  -- the head, the gates and the outputs stored after each other
  pub middle-words : (n g k : ℕ) (l w₁ w₂ w₃ : List ℕ) → w₁ ≡ sets l 0 (new_head n g k) → w₂ ≡ sets w₁ head_words (gate_list m g)
      → w₃ ≡ sets w₂ (outputs_index g) (output_list m g k) → w₃ ≡ sets l 0 (middle_words m n g k)
  unfolding middle_words
  middle-words n g k l w₁ w₂ w₃ e₁ e₂ e₃ =
      let gs = gate_list m g in
      let os = output_list m g k in
      rw (sets-append (new_head n g k) (gs ++ os) l 0 head_words refl, sets-append gs os _ head_words (outputs_index g) (gate-place g), ← e₁, ← e₂) e₃

-- the words that the code stores of a record
pub record-stored : (m : List ℕ) (j count table units : ℕ) (ps : List ℕ) → count ≡ record_count m j → table ≡ record_table m j → ps ≡ record_pins m j
    → flip_units (record_kind m j) (record_field m j) ≡ units
    → ◌≡◌ {A = List ℕ} (count ∷ table ∷ get_or ps 0 0 ∷ get_or ps 1 0 ∷ get_or ps 2 0 ∷ get_or ps 3 0 ∷ units ∷ 0 ∷ []) (record_words m j)
unfolding record_units
record-stored m j count table units ps c t p u = rw (← u, p, c, t)

-- an image's words stored from the first on stand before what is left
pub length-words : (bs : List ℕ) → length (image_words bs) ≡ needed (image_gates bs) (image_outputs bs)
unfolding image_words
length-words bs = length-middle (middle bs) (image_inputs bs) (image_gates bs) (image_outputs bs)

pub stored-front : (bs l w : List ℕ) → needed (image_gates bs) (image_outputs bs) ≤ length l → w ≡ sets l 0 (image_words bs)
    → w ≡ image_over bs l
stored-front bs l w h e = e ∙ sets_first (image_words bs) l (needed (image_gates bs) (image_outputs bs)) (length-words bs) h
