-- `chance::read_flip` meets its contract: each kind's field is read by its own function, and a kind above 2 is refused. Assumes nothing.
use Prim.Native.Nat.{ℕ, zero, suc}
use native.Mathlib.Omega.{arith}
use mathlib.Core.Path.{◌≡◌, refl, sym, ap, ◌∙◌}
use mathlib.Core.List.{List}
use lib.Dec.{eqb}
use Rattle.chance.specs.declared.Flip.TheVariants.{Never}
use Rattle.std.specs.Prelude.{None}
use Rattle.chance.specs.Flip.{second_half, plain_of, strike_of, in_range, flip_of, flip_accepted, read_if, read_flip}
use Rattle.chance.proofs.read_flip.Goals as goal

no_kind : (kind : ℕ) (field : List ℕ) → (kind ≡ 0 → ⊥) → (kind ≡ 1 → ⊥) → (kind ≡ 2 → ⊥) → None ≡ read_flip kind field
unfolding read_flip flip_accepted
no_kind zero field a b c = absurd (a refl)
no_kind (suc zero) field a b c = absurd (b refl)
no_kind (suc (suc zero)) field a b c = absurd (c refl)
no_kind (suc (suc (suc k))) field a b c = refl

pub returns-in-0 : goal.returns-in-0
unfolding read_flip flip_accepted flip_of
returns-in-0 c =
    c.read_never.ensures
    ∙ ap (λ (bits : ℕ). read_if (eqb bits 0) Never) c.whole_field.ensures
    ∙ ap (λ (kind : ℕ). read_flip kind c.args.field) (sym c.in-0.is)

pub returns-in-1 : goal.returns-in-1
unfolding read_flip flip_accepted flip_of
returns-in-1 c =
    c.read_plain.ensures
    ∙ ap (λ (bits : ℕ). read_if (in_range (plain_of bits)) (plain_of bits)) c.whole_field-in-1.ensures
    ∙ ap (λ (kind : ℕ). read_flip kind c.args.field) (sym c.in-1.is)

pub returns-in-2 : goal.returns-in-2
unfolding read_flip flip_accepted flip_of
returns-in-2 c =
    let field = c.args.field in
    c.read_strike.ensures
    ∙ ap (λ (w : ℕ). read_if (in_range (strike_of c.first_half.result w)) (strike_of c.first_half.result w))
    c.second_half.ensures
    ∙ ap (λ (s : ℕ). read_if (in_range (strike_of s (second_half field))) (strike_of s (second_half field))) c.first_half.ensures
    ∙ ap (λ (kind : ℕ). read_flip kind field) (sym c.in-2.is)

pub returns-in_default : goal.returns-in_default
returns-in_default c = no_kind c.args.kind c.args.field (λ e. omega arith) (λ e. omega arith) (λ e. omega arith)
