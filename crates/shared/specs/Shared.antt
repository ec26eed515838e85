-- The call of document 02, card 9: of an image under a pattern, whose bits past the inputs do not matter; no area is lent.
use Rattle.std.specs.Prelude.{ℕ, List, leb, length}
use Rattle.refusal.specs.Judgement.{Judgement}
use Rattle.refusal.specs.Judgement.{refuse_unless, otherwise}
use Rattle.rounding.specs.Rounding.{units_in_one}
use Rattle.chance.specs.Number.{chance_scale}
use Rattle.netlist.specs.Netlist.{Netlist}
use Rattle.suppose.specs.Suppose.{shared_gates, shared_reliability}
use Rattle.sets.specs.Sets.{most_shared}
use Rattle.image.specs.Refusals.{image_refusal}
use Rattle.image.specs.Netlist.{image_net}
use Rattle.refusal.specs.declared.Cause.TheVariants.{ManyShared}

-- 23: more than eight shared live gates
abbrev pub many_shared : Netlist → Judgement
many_shared net = refuse_unless (leb (length (shared_gates net)) most_shared) ManyShared 0

-- an image is judged as before refusal 9, which is not given here; then 23
unfoldable pub shared_image_judgement : List ℕ → Judgement
shared_image_judgement bs = otherwise (image_refusal bs) (many_shared (image_net bs))

-- the shared reliability of an image
unfoldable pub image_shared : List ℕ → ℕ → ℕ
image_shared bs q = shared_reliability units_in_one chance_scale (image_net bs) q
