-- `image::back_right` meets its contract: the first test that fails decides. Assumes nothing.
use Prim.Native.Nat.{ℕ}
use mathlib.Core.Path.{◌≡◌, ◌∙◌, ap}
use native.Mathlib.Omega.{arith}
use lib.Dec.{leb}
use borrow.Author.Tests.{eq-eqb, ne_eqb}
use Rattle.image.specs.Image.{middle_bytes, image_gates, image_outputs, image_back, trailer_at}
use Rattle.image.specs.Refusals.{back_right}
use Rattle.image.proofs.back_right.Goals as goal

pub returns-then-back-gates : goal.returns-then-back-gates
unfolding back_right
returns-then-back-gates c =
    let bs = c.args.image.now in
    let other : image_back bs ≡ middle_bytes (image_gates bs) (image_outputs bs) → ⊥ = λ e. c.if-back-gates.true (omega arith) in
    simp (ne_eqb _ _ other)

pub returns : goal.returns
unfolding back_right
returns c =
    let bs = c.args.image.now in
    let same : image_back bs ≡ middle_bytes (image_gates bs) (image_outputs bs) = omega arith in
    let read = c.index-back.ensures ∙ c.four_bytes.ensures in
    simp (eq-eqb _ _ same) (ap (λ (back : ℕ). leb back (trailer_at bs)) read)
