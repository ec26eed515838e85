-- `image::judge_trailer` meets its contract: the first test that fails decides. Assumes nothing.
use mathlib.Core.Path.{◌≡◌, sym, ◌∙◌}
use borrow.Author.Tests.{lt-leb, eq-eqb, ne_eqb}
use Rattle.area.specs.Rules.{counts_in_range}
use Rattle.refusal.specs.Judgement.{refuse_unless, otherwise}
use Rattle.image.specs.Image.{known_format, image_inputs, image_gates, image_outputs, image_format}
use Rattle.image.specs.Refusals.{length_right, back_right, trailer_refusal}
use Rattle.image.proofs.judge_trailer.Goals.{After-counts_in_range}
use Rattle.image.proofs.judge_trailer.Goals as goal
use Rattle.refusal.specs.declared.Cause.TheVariants.{WrongCounts, WrongBack}

pub returns-then-image-lt-TRAILER_BYTES : goal.returns-then-image-lt-TRAILER_BYTES
unfolding trailer_refusal length_right
returns-then-image-lt-TRAILER_BYTES c = simp (lt-leb _ _ c.if-image-lt-TRAILER_BYTES.true)

pub returns-then-not-length_right : goal.returns-then-not-length_right
unfolding trailer_refusal
returns-then-not-length_right c = simp (← c.length_right.ensures, c.if-not-length_right.true)

pub returns-then-two_bytes-ne-KNOWN_FORMAT : goal.returns-then-two_bytes-ne-KNOWN_FORMAT
unfolding trailer_refusal
returns-then-two_bytes-ne-KNOWN_FORMAT c =
    let bs = c.args.image.now in
    let right = c.length_right in
    let other = ne_eqb (image_format bs) known_format (λ e. c.if-two_bytes-ne-KNOWN_FORMAT.true (c.two_bytes.ensures.0 ∙ e)) in
    simp (← right.ensures, c.if-not-length_right.false, other)

-- what is left once 1 and 2 are passed
left_over : (c : After-counts_in_range) →
    let bs = c.args.image.now in
    trailer_refusal bs ≡ otherwise (refuse_unless c.counts_in_range.result WrongCounts 0) (refuse_unless (back_right bs) WrongBack 0)
unfolding trailer_refusal
left_over c =
    let bs = c.args.image.now in
    let right = c.length_right in
    let same = sym c.two_bytes.ensures.0 ∙ c.if-two_bytes-ne-KNOWN_FORMAT.false in
    let counts : counts_in_range (image_inputs bs) (image_gates bs) (image_outputs bs) ≡ c.counts_in_range.result = cc in
    let passed = c.if-not-length_right.false in
    simp (← right.ensures, passed, eq-eqb (image_format bs) known_format same, counts)

pub returns-then-not-counts_in_range : goal.returns-then-not-counts_in_range
returns-then-not-counts_in_range c = rw (left_over (goal.at.returns-then-not-counts_in_range c).After-counts_in_range, c.if-not-counts_in_range.true)

pub returns-then-not-back_right : goal.returns-then-not-back_right
returns-then-not-back_right c =
    let back = c.back_right in
    let counts = c.if-not-counts_in_range.false in
    rw (left_over (goal.at.returns-then-not-back_right c).After-counts_in_range, counts, ← back.ensures) (rw (c.if-not-back_right.true))

pub returns : goal.returns
returns c =
    let back = c.back_right in
    let counts = c.if-not-counts_in_range.false in
    rw (left_over (goal.at.returns c).After-counts_in_range, counts, ← back.ensures) (rw (c.if-not-back_right.false))
