-- Records, output words and trailer written after each other are the image. Assumes nothing.
use Prim.Native.Nat.{ℕ, ◌*◌}
use mathlib.Core.Path.{◌≡◌, ap, sym, ◌∙◌}
use mathlib.Core.List.{List, ◌++◌}
use native.Mathlib.Omega.{arith}
use lib.Seq.{sets}
use Rattle.lists.proofs.Parts.{sets-append}
use Rattle.image.specs.Image.{record_bytes, middle_bytes}
use Rattle.records.specs.Bytes.{Contents, gates_bytes, outputs_bytes, trailer_for, image_with}
use Rattle.records.proofs.Length.{gates-bytes, outputs-bytes}

pub whole : (w : Contents) (l l₁ l₂ l₃ : List ℕ) → l₁ ≡ sets l 0 (gates_bytes w) → l₂ ≡ sets l₁ (record_bytes * w.gates) (outputs_bytes w)
    → l₃ ≡ sets l₂ (middle_bytes w.gates w.outputs) (trailer_for w) → l₃ ≡ sets l 0 (image_with w)
unfolding image_with
whole w l l₁ l₂ l₃ e₁ e₂ e₃ =
    let back = middle_bytes w.gates w.outputs in
    e₃
    ∙ ap (λ (x : List ℕ). sets x back (trailer_for w)) (e₂ ∙ ap (λ (x : List ℕ). sets x (record_bytes * w.gates) (outputs_bytes w)) e₁)
    ∙ sym (sets-append (outputs_bytes w) (trailer_for w) (sets l 0 (gates_bytes w)) (record_bytes * w.gates) back (omega (arith, outputs-bytes w)))
    ∙ sym (sets-append (gates_bytes w) (outputs_bytes w ++ trailer_for w) l 0 (record_bytes * w.gates) (omega (arith, gates-bytes w)))
