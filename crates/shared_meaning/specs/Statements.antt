-- What is promised of the shared reliability of an image; proofs/ has a proof of each. bs is the image, q the pattern.
use Rattle.std.specs.Prelude.{ℕ, ◌-◌, ◌*◌, ◌^◌, List, [], ◌∷◌, ◌≡◌, length}
use Rattle.refusal.specs.Judgement.{Judgement}
use Rattle.refusal.specs.Judgement.{Fine, refused}
use Rattle.rounding.specs.Rounding.{units_in_one, Near}
use Rattle.chance.specs.Number.{chance_scale}
use Rattle.netlist.specs.Netlist.{Netlist}
use Rattle.netlist.specs.Exact.{exact_sum}
use Rattle.netlist.specs.Live.{live_gates}
use Rattle.suppose.specs.Suppose.{shared_gates}
use Rattle.bound.specs.Statements.{denominator}
use Rattle.area.specs.Layout.{reliability_word}
use Rattle.live.specs.Shared.{shared_judgement}
use Rattle.image.specs.Image.{image_inputs}
use Rattle.image.specs.Netlist.{image_net}
use Rattle.calls.specs.Judgements.{open_judgement}
use Rattle.calls.specs.Calls.{open_words}
use Rattle.written_opened.specs.Statements.{toggled_all, ListsOnes}
use Rattle.shared.specs.Shared.{shared_image_judgement, image_shared}
use Rattle.refusal.specs.declared.Cause.TheVariants.{SharedGate}

-- shared means as in refusal 9: opening is refused with it at the first of the shared gates, and is not where there is none
abbrev pub nine_at_first : ℕ → List ℕ → Judgement
nine_at_first n [] = Fine
nine_at_first n (s ∷ ss) = refused SharedGate (s - n)

abbrev pub SharedAsInNine : Type 0
SharedAsInNine = (net : Netlist) → shared_judgement net ≡ nine_at_first net.inputs (shared_gates net)

-- its distance from the exact sum is at most 1.5 units for each live gate and each set of suppositions: in half units, with the denominator multiplied out
abbrev pub SharedWithin : Type 0
SharedWithin =
    (bs : List ℕ) (q : ℕ) → shared_image_judgement bs ≡ Fine
    → Near
    (3 * live_gates (image_net bs) * 2 ^ length (shared_gates (image_net bs)) * denominator chance_scale (image_net bs))
    (2 * (image_shared bs q * denominator chance_scale (image_net bs)))
    (2 * (units_in_one * exact_sum chance_scale (image_net bs) q))

-- an image that can be opened has no shared gate: it is judged alike, and the call gives word 4 of any area in which it has been opened and those inputs
-- toggled that are 1 in the pattern, in any order
abbrev pub OpensAlike : Type 0
OpensAlike =
    (bs us is : List ℕ) (q : ℕ) → open_judgement bs (length us) ≡ Fine → ListsOnes (image_inputs bs) q is
    → (shared_image_judgement bs ≡ Fine) × (image_shared bs q ≡ reliability_word (toggled_all (open_words bs us) is))
