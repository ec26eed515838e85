-- The distance of an image's shared reliability from the exact sum: the bound for every size, at the image's netlist. Assumes nothing.
use Prim.Native.Nat.{ℕ}
use mathlib.Core.List.{List, [], ◌++◌}
use mathlib.Core.Path.{◌≡◌, subst}
use native.Mathlib.Omega.{arith}
use Rattle.refusal.specs.Judgement.{Fine}
use Rattle.refusal.proofs.Laws.{otherwise-fine}
use Rattle.rounding.specs.Rounding.{units_in_one}
use Rattle.chance.specs.Number.{chance_scale}
use Rattle.netlist.specs.WellFormed.{WellFormed}
use Rattle.bound.proofs.Shared.{shared-bound}
use Rattle.area.proofs.Net.{sound-net}
use Rattle.image.specs.Refusals.{image_refusal}
use Rattle.image.specs.Loading.{image_words, image_kinds, image_chances}
use Rattle.image.specs.Netlist.{image_net}
use Rattle.image.proofs.Words.{head-gates}
use Rattle.image.proofs.Sound.{loaded-workable, chances_fit}
use Rattle.image.proofs.Netlist.{image-net}
use Rattle.chance.proofs.Exact.{scale-pos}
use Rattle.shared.specs.Shared.{many_shared, shared_image_judgement, image_shared}
use Rattle.shared_meaning.specs.Statements.{SharedWithin}

pub image-well : (bs : List ℕ) → image_refusal bs ≡ Fine → WellFormed chance_scale (image_net bs)
image-well bs fine =
    let ws = image_words bs ++ [] in
    subst (WellFormed chance_scale) (image-net bs [])
    (sound-net chance_scale ws (image_kinds bs) (image_chances bs) (loaded-workable bs [] fine).net
    (λ j l. chances_fit bs fine j (omega (arith, head-gates bs []))))

pub judged-image : (bs : List ℕ) → shared_image_judgement bs ≡ Fine → image_refusal bs ≡ Fine
unfolding shared_image_judgement
judged-image bs fine = (otherwise-fine (image_refusal bs) (many_shared (image_net bs)) fine).0

pub shared-within : SharedWithin
unfolding image_shared
shared-within bs q fine =
    shared-bound units_in_one chance_scale (omega arith) scale-pos (image_net bs) (image-well bs (judged-image bs fine)) q
