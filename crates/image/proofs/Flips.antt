-- A flip's refusal in an image and in a call: what one that passes is, and what it is by the answer of reading the field. Assumes nothing.
use Prim.Native.Nat.{ℕ, ◌≤◌}
use mathlib.Core.Bool.{true}
use mathlib.Core.List.{List}
use mathlib.Core.Path.{◌≡◌, refl}
use native.Mathlib.Omega.{arith}
use Rattle.std.specs.Prelude.{Ok, Err}
use Rattle.chance.specs.declared.FlipFault.TheVariants.{Unreadable, AboveHalf}
use Rattle.refusal.specs.declared.Cause.{Cause}
use Rattle.chance.specs.Number.{at_most_half}
use Rattle.chance.specs.Flip.{flip_accepted, flip_chance, flip_units, read_units}
use Rattle.chance.proofs.Laws.{units-accepted, units-above, units-refused, low-units}
use Rattle.area.specs.Layout.{largest_flip}
use Rattle.refusal.specs.Judgement.{Fine, refused, number_of}
use Rattle.refusal.proofs.Laws.{unless-fine, otherwise-fine, Only, NotRule, only-unless, only-otherwise}
use Rattle.image.specs.Refusals.{flip_refusal}
use Rattle.refusal.specs.declared.Cause.TheVariants.{ChanceAboveHalf}

module _ (bad : Cause) (j kind : ℕ) (field : List ℕ) where
  -- a flip that passes
  pub flip-fine : flip_refusal bad j kind field ≡ Fine → (flip_accepted kind field ≡ true) × (at_most_half (flip_chance kind field) ≡ true)
  unfolding flip_refusal
  flip-fine e =
      let both = otherwise-fine _ _ e in
      (unless-fine (flip_accepted kind field) bad j both.0, unless-fine (at_most_half (flip_chance kind field)) ChanceAboveHalf j both.1)

  pub flip-passes : flip_accepted kind field ≡ true → at_most_half (flip_chance kind field) ≡ true → flip_refusal bad j kind field ≡ Fine
  unfolding flip_refusal
  flip-passes accepted low = rw (accepted, low) refl

  -- by what reading answers
  pub flip-read : (units : ℕ) → read_units kind field ≡ Ok units
      → (flip_refusal bad j kind field ≡ Fine) × (flip_units kind field ≡ units) × (units ≤ largest_flip)
  flip-read units e =
      let said = units-accepted kind field units e in
      (flip-passes said.0 said.1, said.2, omega (arith, said.2, low-units kind field said.1))

  -- the units of one that passes
  pub flip-low : flip_refusal bad j kind field ≡ Fine → flip_units kind field ≤ largest_flip
  flip-low e = low-units kind field (flip-fine e).1

  pub flip-above : read_units kind field ≡ Err AboveHalf → flip_refusal bad j kind field ≡ refused ChanceAboveHalf j
  unfolding flip_refusal
  flip-above e = let said = units-above kind field e in rw (said.0, said.1) refl

  pub flip-bad : read_units kind field ≡ Err Unreadable → flip_refusal bad j kind field ≡ refused bad j
  unfolding flip_refusal
  flip-bad e = rw (units-refused kind field e) refl

  -- the numbers: its own, and 22
  pub only-flip : NotRule (number_of bad) → Only NotRule (flip_refusal bad j kind field)
  unfolding flip_refusal
  only-flip own =
      only-otherwise NotRule _ _ (only-unless NotRule (flip_accepted kind field) bad j own)
      (only-unless NotRule (at_most_half (flip_chance kind field)) ChanceAboveHalf j (omega arith, omega arith))
