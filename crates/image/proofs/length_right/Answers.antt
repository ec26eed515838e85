-- `image::length_right` meets its contract: the first test that fails decides. Assumes nothing.
use Prim.Native.Nat.{ℕ}
use mathlib.Core.Path.{ap, ◌∙◌}
use lib.Dec.{eqb}
use lib.ListN.{length}
use borrow.Author.Tests.{lt-leb, le-leb}
use Rattle.image.specs.Refusals.{length_right}
use Rattle.image.proofs.length_right.Goals as goal

pub returns-then-length-gt-LONGEST_IMAGE : goal.returns-then-length-gt-LONGEST_IMAGE
unfolding length_right
returns-then-length-gt-LONGEST_IMAGE c = simp (le-leb _ _ c.requires, lt-leb _ _ c.if-length-gt-LONGEST_IMAGE.true)

pub returns : goal.returns
unfolding length_right
returns c =
    simp (le-leb _ _ c.requires, le-leb _ _ c.if-length-gt-LONGEST_IMAGE.false)
    (ap (λ (total : ℕ). eqb total (length c.args.image.now)) (c.index.ensures ∙ c.four_bytes.ensures))
