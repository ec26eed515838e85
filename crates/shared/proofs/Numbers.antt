-- The numbers that the call gives: those of an image before refusal 9, and 23. Assumes nothing.
use Prim.Native.Nat.{ℕ}
use mathlib.Core.List.{List}
use native.Mathlib.Omega.{arith}
use lib.Dec.{leb}
use lib.ListN.{length}
use Rattle.refusal.proofs.Laws.{Only, NotRule, only-unless, only-otherwise}
use Rattle.suppose.specs.Suppose.{shared_gates}
use Rattle.image.specs.Netlist.{image_net}
use Rattle.image.proofs.Numbers.{only-image}
use Rattle.sets.specs.Sets.{most_shared}
use Rattle.shared.specs.Shared.{shared_image_judgement}
use Rattle.refusal.specs.declared.Cause.TheVariants.{ManyShared}

pub only-shared-image : (bs : List ℕ) → Only NotRule (shared_image_judgement bs)
unfolding shared_image_judgement
only-shared-image bs =
    only-otherwise NotRule _ _ (only-image bs)
    (only-unless NotRule (leb (length (shared_gates (image_net bs))) most_shared) ManyShared 0 (omega arith, omega arith))
