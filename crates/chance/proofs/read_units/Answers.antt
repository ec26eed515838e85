-- `chance::read_units` meets its contract: what `read_flip` answers says whether the field is accepted, and its flip is then in range; the float that
-- is held to 0.5 and converted is its chance (`exact_chance`). Assumes nothing.
use Prim.Native.Nat.{ℕ}
use mathlib.Core.Path.{◌≡◌, refl, sym, ap, ◌∙◌}
use mathlib.Core.Bool.{Bool, true, not}
use mathlib.Core.List.{List}
use borrow.Author.Tests.{not-true, not-false}
use lib.Ieee.Positive.{num, den}
use Rattle.rounding.specs.Rounding.{units_in_one, to_units}
use Rattle.std.specs.Prelude.{Some, Err, Ok}
use Rattle.std.proofs.lemmas.Result.{err_from_is_err_and}
use Rattle.chance.specs.declared.FlipFault.TheVariants.{Unreadable}
use Rattle.chance.specs.Number.{chance_scale, whole_chance, at_most_half}
use Rattle.chance.specs.Flip.{flip_accepted, flip_chance, flip_units, read_flip, units_if, read_units}
use Rattle.chance.proofs.Laws.{was_some, was_none, read-accepted, read-in-range, read-chance, read-refused}
use Rattle.chance.proofs.read_units.Goals.{After-above_half, After-exact_chance-chance}
use Rattle.chance.proofs.read_units.Goals as goal

pub exact_chance-chance-requires : goal.exact_chance-chance-requires
exact_chance-chance-requires c =
    let a = c.args in
    read-in-range a.kind a.field c.in_ok-flip.flip (sym c.read_flip.ensures ∙ was_some c.read_flip.result Unreadable c.ok_or.result c.in_ok-flip.flip c.ok_or.ensures.value c.in_ok-flip.was)

-- what is read, in the arm that has a flip
module _ (c : After-exact_chance-chance) where
  abbrev kind : ℕ
  kind = c.args.kind

  abbrev field : List ℕ
  field = c.args.field

  read : read_flip kind field ≡ Some c.in_ok-flip.flip
  read = sym c.read_flip.ensures ∙ was_some c.read_flip.result Unreadable c.ok_or.result c.in_ok-flip.flip c.ok_or.ensures.value c.in_ok-flip.was

  accepted : flip_accepted kind field ≡ true
  accepted = (read-accepted kind field c.in_ok-flip.flip read).0

  chance-is : whole_chance (num c.exact_chance-chance.result) (den c.exact_chance-chance.result) ≡ flip_chance kind field
  chance-is = c.exact_chance-chance.ensures.1 ∙ read-chance kind field c.in_ok-flip.flip read

-- whether its chance is above 0.5, as the code asked it
module _ (c : After-above_half) where
  abbrev low : Bool
  low = at_most_half (flip_chance (kind c.before) (field c.before))

  high : not low ≡ c.above_half.result
  high = ap (λ (n : ℕ). not (at_most_half n)) (sym (chance-is c.before)) ∙ sym c.above_half.ensures

pub returns-then-above_half : goal.returns-then-above_half
unfolding read_units
returns-then-above_half c = sym (rw (accepted (goal.at.returns-then-above_half c).After-exact_chance-chance, not-true (low (goal.at.returns-then-above_half c).After-above_half) (high (goal.at.returns-then-above_half c).After-above_half ∙ c.if-above_half.true)) refl)

pub returns-else-above_half : goal.returns-else-above_half
unfolding read_units flip_units
returns-else-above_half c =
    ap Ok (c.nearest_units.ensures ∙ ap (to_units units_in_one chance_scale) (chance-is (goal.at.returns-else-above_half c).After-exact_chance-chance))
    ∙ sym (rw (accepted (goal.at.returns-else-above_half c).After-exact_chance-chance, not-false (low (goal.at.returns-else-above_half c).After-above_half) (high (goal.at.returns-else-above_half c).After-above_half ∙ c.if-above_half.false)) refl)

pub returns-in_err-flip : goal.returns-in_err-flip
unfolding read_units
returns-in_err-flip c =
    let a = c.args in
    let none = was_none c.read_flip.result Unreadable c.ok_or.result c.in_err-flip.field-0.0 c.ok_or.ensures.value c.in_err-flip.was in
    let passed = err_from_is_err_and c.from_residual.result c.from_residual.ensures.1 in
    passed.1 ∙ ap Err (passed.2 ∙ none.1)
    ∙ sym (ap (λ (b : Bool). units_if b (at_most_half (flip_chance a.kind a.field)) (flip_units a.kind a.field))
    (read-refused a.kind a.field (sym c.read_flip.ensures ∙ none.0)))
