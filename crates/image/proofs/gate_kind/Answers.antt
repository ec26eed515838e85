-- `image::gate_kind` meets its contract: the byte of the image is that of its middle. Assumes nothing.
use Prim.Native.Nat.{ℕ, ◌+◌, ◌-◌, ◌<◌}
use mathlib.Core.Path.{◌≡◌, sym, ap, ◌∙◌}
use native.Mathlib.Omega.{arith}
use lib.ListN.{get_or}
use Rattle.lists.proofs.Parts.{part_at}
use Rattle.image.specs.Image.{trailer_at, image_back, middle, record_at}
use Rattle.image.proofs.gate_kind.Goals as goal

pub returns : goal.returns
unfolding middle
returns c =
    let bs = c.args.image.now in
    let t = c.requires.0 in
    let back : c.index.result ≡ image_back bs = c.index.ensures ∙ c.four_bytes.ensures in
    let inside : record_at c.args.gate + 1 < image_back bs = omega (arith, t.back, c.requires.1) in
    let place : trailer_at bs - c.index.result + record_at c.args.gate + 1 ≡ trailer_at bs - image_back bs + (record_at c.args.gate + 1)
    = omega (arith, back) in
    ap (λ (i : ℕ). get_or bs i 0) place ∙ sym (part_at bs (trailer_at bs - image_back bs) (image_back bs) (record_at c.args.gate + 1) inside)
