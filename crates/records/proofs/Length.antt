-- How long an image is. Assumes nothing.
use Prim.Native.Nat.{ℕ, ◌+◌, ◌*◌}
use mathlib.Core.Path.{◌≡◌, refl, ap, ◌∙◌}
use mathlib.Core.List.{◌++◌}
use native.Mathlib.Omega.{arith}
use lib.ListN.{length, length-append}
use Rattle.lists.proofs.Joined.{length-joined}
use Rattle.image.specs.Image.{image_length}
use Rattle.records.specs.Bytes.{Contents, two_bytes, contents_record, gates_bytes, outputs_bytes, image_with, trailer_for}

module _ (w : Contents) where
  pub gates-bytes : length (gates_bytes w) ≡ 20 * w.gates
  gates-bytes = length-joined (contents_record w) 20 (λ i. refl) w.gates

  pub outputs-bytes : length (outputs_bytes w) ≡ 2 * w.outputs
  outputs-bytes = length-joined (λ (k : ℕ). two_bytes (w.output k)) 2 (λ i. refl) w.outputs

  pub image-bytes : length (image_with w) ≡ image_length w.gates w.outputs
  unfolding image_with
  image-bytes =
      let last = trailer_for w in
      length-append (gates_bytes w) (outputs_bytes w ++ last)
      ∙ ap (λ (x : ℕ). length (gates_bytes w) + x) (length-append (outputs_bytes w) last)
      ∙ omega (arith, gates-bytes, outputs-bytes)
