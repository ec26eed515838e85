-- Records, output words and trailer after each other are the image. Assumes nothing.
use Prim.Native.Nat.{ℕ, ◌*◌}
use mathlib.Core.Path.{◌≡◌, ap, ap₂, sym, ◌∙◌}
use mathlib.Core.List.{List}
use native.Mathlib.Nat.{zero-add}
use lib.ListN.{length, get_or}
use lib.Seq.{sets}
use Rattle.lists.specs.Lists.{joined}
use Rattle.lists.proofs.Joined.{joined_same}
use Rattle.netlist.specs.Netlist.{Netlist, gate_at, no_gate}
use Rattle.placing.specs.Placing.{entries}
use Rattle.meaning.specs.Net.{source_of, placed_gate, placed_net}
use Rattle.meaning.proofs.Meaning.{map-entry}
use Rattle.image.specs.Image.{record_bytes, middle_bytes}
use Rattle.records.specs.Bytes.{two_bytes, gate_bytes, gates_bytes, outputs_bytes, trailer_of, net_contents, image_of}
use Rattle.records.proofs.Whole.{whole as parts-make}
use Rattle.writing.specs.Written.{output_in}
use Rattle.writing.proofs.Pins.{mapped-length, gates-length}

module _ (S : ℕ → List ℕ) (T : ℕ → ℕ) (n g k : ℕ) (place order outs : List ℕ) where
  abbrev pub net : Netlist
  net = placed_net S T n place (entries order 0 g) (entries outs 0 k)

  abbrev pub gate : ℕ → List ℕ
  gate q = gate_bytes (placed_gate S T n place (get_or order q 0))

  gates_are : joined gate g ≡ gates_bytes (net_contents net)
  gates_are =
      rw (gates-length (placed_gate S T n place) order 0 g)
      (joined_same gate (λ (q : ℕ). gate_bytes (gate_at net q)) g
      (λ q h. ap gate_bytes (sym (map-entry (placed_gate S T n place) no_gate order 0 g q h
      ∙ ap (λ (x : ℕ). placed_gate S T n place (get_or order x 0)) (zero-add q)))))

  outputs_are : joined (output_in n place outs) k ≡ outputs_bytes (net_contents net)
  outputs_are =
      rw (mapped-length (source_of n place) outs 0 k)
      (joined_same (output_in n place outs) (λ (i : ℕ). two_bytes (get_or net.outputs i 0)) k
      (λ i h. ap two_bytes (sym (map-entry (source_of n place) 0 outs 0 k i h ∙ ap (λ (x : ℕ). source_of n place (get_or outs x 0)) (zero-add i)))))

  pub whole : (l w₁ w₂ w₃ : List ℕ) → w₁ ≡ sets l 0 (joined gate g) → w₂ ≡ sets w₁ (record_bytes * g) (joined (output_in n place outs) k)
      → w₃ ≡ sets w₂ (middle_bytes g k) (trailer_of n g k) → w₃ ≡ sets l 0 (image_of net)
  whole l w₁ w₂ w₃ e₁ e₂ e₃ =
      let many : g ≡ length net.gates = sym (gates-length (placed_gate S T n place) order 0 g) in
      let outputs : k ≡ length net.outputs = sym (mapped-length (source_of n place) outs 0 k) in
      parts-make (net_contents net) l w₁ w₂ w₃
      (e₁ ∙ ap (sets l 0) gates_are)
      (e₂ ∙ ap₂ (λ (x : ℕ) (bs : List ℕ). sets w₁ (record_bytes * x) bs) many outputs_are)
      (e₃ ∙ ap₂ (λ (x y : ℕ). sets w₂ (middle_bytes x y) (trailer_of n x y)) many outputs)
