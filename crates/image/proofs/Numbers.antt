-- The refusals of an image give 1 to 8 and 22. Assumes nothing.
use Prim.Native.Nat.{ℕ, ◌+◌}
use mathlib.Core.Bool.{Bool}
use mathlib.Core.List.{List}
use native.Mathlib.Omega.{arith}
use lib.Dec.{ltb, eqb}
use Rattle.refusal.specs.Judgement.{refuse_unless, number_of}
use Rattle.refusal.proofs.Laws.{Only, NotRule, only-unless, only-otherwise, only-lowest}
use Rattle.area.specs.Rules.{gate_shape, used_below, counts_in_range}
use Rattle.image.specs.Image.{known_format, image_inputs, image_gates, image_outputs, image_format, middle}
use Rattle.image.specs.Image.{record_count, record_kind, record_table, record_pins, record_field, output_at}
use Rattle.image.specs.Refusals.{length_right, back_right, trailer_refusal, gate_refusal, output_refusal, middle_refusal, image_refusal}
use Rattle.image.proofs.Flips.{only-flip}
use Rattle.refusal.specs.declared.Cause.{Cause}
use Rattle.refusal.specs.declared.Cause.TheVariants.{WrongLength, WrongFormat, WrongCounts, WrongBack, GateShape, GatePin, GateFlip, OutputSource}

-- a condition that gives one of these numbers
given : (c : Bool) (a : Cause) (p : ℕ) → NotRule (number_of a) → Only NotRule (refuse_unless c a p)
given c a p = only-unless NotRule c a p

only-gate : (m : List ℕ) (n j : ℕ) → Only NotRule (gate_refusal m n j)
unfolding gate_refusal
only-gate m n j =
    only-otherwise NotRule _ _ (given (gate_shape (record_count m j) (record_table m j) (record_pins m j)) GateShape j (omega arith, omega arith))
    (only-otherwise NotRule _ _ (given (used_below (n + j) (record_count m j) (record_pins m j)) GatePin j (omega arith, omega arith))
    (only-flip GateFlip j (record_kind m j) (record_field m j) (omega arith, omega arith)))

only-output : (m : List ℕ) (n g k : ℕ) → Only NotRule (output_refusal m n g k)
unfolding output_refusal
only-output m n g k = given (ltb (output_at m g k) (n + g)) OutputSource k (omega arith, omega arith)

only-trailer : (bs : List ℕ) → Only NotRule (trailer_refusal bs)
unfolding trailer_refusal
only-trailer bs =
    only-otherwise NotRule _ _ (given (length_right bs) WrongLength 0 (omega arith, omega arith))
    (only-otherwise NotRule _ _ (given (eqb (image_format bs) known_format) WrongFormat 0 (omega arith, omega arith))
    (only-otherwise NotRule _ _ (given (counts_in_range (image_inputs bs) (image_gates bs) (image_outputs bs)) WrongCounts 0 (omega arith, omega arith))
    (given (back_right bs) WrongBack 0 (omega arith, omega arith))))

pub only-image : (bs : List ℕ) → Only NotRule (image_refusal bs)
unfolding image_refusal middle_refusal
only-image bs =
    let m = middle bs in
    let n = image_inputs bs in
    let g = image_gates bs in
    only-otherwise NotRule _ _ (only-trailer bs)
    (only-otherwise NotRule _ _ (only-lowest NotRule (gate_refusal m n) g (only-gate m n))
    (only-lowest NotRule (output_refusal m n g) (image_outputs bs) (only-output m n g)))
