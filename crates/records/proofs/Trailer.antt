-- A written image read again: its trailer, and its middle. Assumes nothing.
use Prim.Native.Nat.{ℕ, suc, ◌+◌, ◌-◌, ◌*◌, ◌/◌, ◌%◌, ◌<◌}
use mathlib.Core.Path.{◌≡◌, refl, ap, ap₂, sym, ◌∙◌}
use mathlib.Core.Bool.{true}
use mathlib.Core.List.{List, ◌++◌, append_assoc}
use native.Mathlib.Nat.{add-zero}
use native.Mathlib.Omega.{arith}
use lib.ListN.{length, get_or, take, drop, length-append}
use lib.Seq.{get_or-append-add, take_at}
use borrow.Author.Tests.{le-leb, eq-eqb}
use Rattle.rules.proofs.Facts.{join, counts-pass}
use Rattle.refusal.specs.Judgement.{Fine}
use Rattle.chance.specs.Flip.{four_bytes}
use Rattle.image.specs.Image.{u16_at, u32_at, middle_bytes, image_length, trailer_at}
use Rattle.image.specs.Image.{image_inputs, image_gates, image_outputs, image_format, image_back, image_total, middle}
use Rattle.image.specs.Refusals.{length_right, back_right, trailer_refusal}
use Rattle.area.specs.Rules.{counts_in_range}
use Rattle.records.specs.Bytes.{Contents, gates_bytes, outputs_bytes, image_with, middle_of, trailer_for}
use Rattle.records.specs.Passes.{Fits}
use Rattle.records.proofs.Length.{gates-bytes, outputs-bytes, image-bytes}

-- numbers read again
pub two-again : (x : ℕ) → x % 256 + 256 * (x / 256) ≡ x
two-again x = omega arith

four-again : (x : ℕ) → x < 65_536 → x % 256 + 256 * (x / 256 % 256) + 65_536 * (x / 65_536 % 256) + 16_777_216 * (x / 16_777_216) ≡ x
four-again x h =
    let a : x / 256 % 256 ≡ x / 256 = omega arith in
    let b : x / 65_536 ≡ 0 = omega arith in
    let c : x / 16_777_216 ≡ 0 = omega arith in
    rw (a, b, c) (omega (arith, two-again x))

module _ (w : Contents) (h : Fits w) where
  pub in_two : image_with w ≡ middle_of w ++ trailer_for w
  unfolding image_with
  in_two = sym (append_assoc (gates_bytes w) (outputs_bytes w) (trailer_for w))

  pub front_long : length (middle_of w) ≡ middle_bytes w.gates w.outputs
  front_long = length-append (gates_bytes w) (outputs_bytes w) ∙ omega (arith, gates-bytes w, outputs-bytes w)

  trailer-at : trailer_at (image_with w) ≡ length (middle_of w)
  trailer-at = omega (arith, image-bytes w, front_long)

  -- byte i of the trailer
  at : (x i : ℕ) → x ≡ trailer_at (image_with w) + i → get_or (image_with w) x 0 ≡ get_or (trailer_for w) i 0
  at x i e =
      ap₂ (λ (bs : List ℕ) (y : ℕ). get_or bs y 0) in_two (e ∙ ap (λ (y : ℕ). y + i) trailer-at)
      ∙ get_or-append-add (middle_of w) (trailer_for w) i 0

  small : image_length w.gates w.outputs < 65_536
  small = omega (arith, h.gates_fit, h.outputs_fit)

  two_at : (x i : ℕ) → x ≡ trailer_at (image_with w) + i → u16_at (image_with w) x ≡ get_or (trailer_for w) i 0 + 256 * get_or (trailer_for w) (suc i) 0
  two_at x i e = ap₂ (λ (a b : ℕ). a + 256 * b) (at x i e) (at (x + 1) (suc i) (omega arith))

  four-at : (x i : ℕ) → x ≡ trailer_at (image_with w) + i
      → u32_at (image_with w) x
      ≡ four_bytes (get_or (trailer_for w) i 0) (get_or (trailer_for w) (suc i) 0) (get_or (trailer_for w) (suc (suc i)) 0) (get_or (trailer_for w) (suc (suc (suc i))) 0)
  four-at x i e = rw (at x i e, at (x + 1) (suc i) (omega arith), at (x + 2) (suc (suc i)) (omega arith), at (x + 3) (suc (suc (suc i))) (omega arith))

  pub inputs-again : image_inputs (image_with w) ≡ w.inputs
  inputs-again = two_at (trailer_at (image_with w)) 0 (sym (add-zero (trailer_at (image_with w)))) ∙ two-again w.inputs

  pub gates-again : image_gates (image_with w) ≡ w.gates
  gates-again = two_at (trailer_at (image_with w) + 2) 2 refl ∙ two-again w.gates

  pub outputs-again : image_outputs (image_with w) ≡ w.outputs
  outputs-again = two_at (trailer_at (image_with w) + 4) 4 refl ∙ two-again w.outputs

  format-again : image_format (image_with w) ≡ 1
  format-again = two_at (trailer_at (image_with w) + 6) 6 refl

  back-again : image_back (image_with w) ≡ middle_bytes w.gates w.outputs
  back-again =
      four-at (trailer_at (image_with w) + 8) 8 refl ∙ four-again (middle_bytes w.gates w.outputs) (omega (arith, small))

  total-again : image_total (image_with w) ≡ length (image_with w)
  total-again =
      four-at (trailer_at (image_with w) + 12) 12 refl ∙ four-again (image_length w.gates w.outputs) small ∙ sym (image-bytes w)

  pub trailer-passes : trailer_refusal (image_with w) ≡ Fine
  unfolding trailer_refusal length_right back_right
  trailer-passes =
      let long = image-bytes w in
      rw (
        join _ _ (le-leb 16 (length (image_with w)) (omega (arith, long)))
            (join _ _ (le-leb (length (image_with w)) 32_768 (omega (arith, long, h.gates_fit, h.outputs_fit))) (eq-eqb _ _ total-again)),
        eq-eqb _ _ format-again,
        counts,
        join _ _ (eq-eqb _ _ (back-again ∙ ap₂ middle_bytes (sym gates-again) (sym outputs-again)))
            (le-leb (image_back (image_with w)) (trailer_at (image_with w)) (omega (arith, back-again, trailer-at, front_long))),
      )
    where
      counts : counts_in_range (image_inputs (image_with w)) (image_gates (image_with w)) (image_outputs (image_with w)) ≡ true
      counts = rw (inputs-again, gates-again, outputs-again)
          (counts-pass w.inputs w.gates w.outputs h.inputs_fit h.gates_fit h.some_output h.outputs_fit)

  pub middle-again : middle (image_with w) ≡ middle_of w
  unfolding middle
  middle-again =
      let none : trailer_at (image_with w) - image_back (image_with w) ≡ 0 = omega (arith, back-again, trailer-at, front_long) in
      ap₂ (λ (b x : ℕ). take b (drop x (image_with w))) back-again none
      ∙ ap (take (middle_bytes w.gates w.outputs)) in_two
      ∙ take_at (middle_of w) (trailer_for w) (middle_bytes w.gates w.outputs) front_long
