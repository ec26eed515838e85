-- What a gate and the outputs of a netlist do with errors: the shares of being right and wrong that the error argument is used at. Assumes nothing.
use Prim.Native.Nat.{ℕ, ◌+◌, ◌-◌, ◌*◌, ◌≤◌}
use mathlib.Core.Bool.{Bool, true, false, cond, beq}
use mathlib.Core.List.{List, [], ◌∷◌}
use mathlib.Core.Path.{◌≡◌, refl, sym, ap}
use native.Mathlib.Nat.{le_refl}
use native.Mathlib.Omega.{arith}
use Rattle.figure.specs.Figure.{answer, inverted}
use Rattle.netlist.specs.Netlist.{Gate, pin_values}

-- s if no source is wrong, else 0
abbrev pub if_right : ℕ → List Bool → ℕ
if_right s [] = s
if_right s (b ∷ bs) = cond b 0 (if_right s bs)

-- what leaves 0 alone may be done first
pub right-map : (φ : ℕ → ℕ) → φ 0 ≡ 0 → (s : ℕ) (bs : List Bool) → if_right (φ s) bs ≡ φ (if_right s bs)
right-map φ none s [] = refl
right-map φ none s (true ∷ bs) = sym none
right-map φ none s (false ∷ bs) = right-map φ none s bs

pub right-at-most : (bs : List Bool) → if_right 1 bs ≤ 1
right-at-most [] = le_refl 1
right-at-most (true ∷ bs) = omega arith
right-at-most (false ∷ bs) = right-at-most bs

-- whether errors bs of its pins leave a gate's answer as it is; vs are the right values
abbrev pub unmoved : List Bool → Gate → List Bool → Bool
unmoved vs g bs = beq (answer g.table (inverted (pin_values vs g.pins) bs)) (answer g.table (pin_values vs g.pins))

-- the share of a flip of this chance, of u * d, also where the chance passes 1; and the share that is left
abbrev pub flip_share : ℕ → ℕ → ℕ → ℕ
flip_share u d chance = u * (d - (d - chance))

abbrev pub keep_share : ℕ → ℕ → ℕ → ℕ
keep_share u d chance = u * (d - chance)

-- a gate is right if its answer is unmoved and it does not flip, or moved and it flips; else wrong
abbrev pub right_given : ℕ → ℕ → List Bool → Gate → List Bool → ℕ
right_given u d vs g bs = cond (unmoved vs g bs) (keep_share u d g.chance) (flip_share u d g.chance)

abbrev pub wrong_given : ℕ → ℕ → List Bool → Gate → List Bool → ℕ
wrong_given u d vs g bs = cond (unmoved vs g bs) (flip_share u d g.chance) (keep_share u d g.chance)

pub given-sum : (u d : ℕ) (vs : List Bool) (g : Gate) (bs : List Bool) → right_given u d vs g bs + wrong_given u d vs g bs ≡ u * d
given-sum u d vs g bs = go (unmoved vs g bs)
  where
    keep : ℕ
    keep = keep_share u d g.chance

    flip : ℕ
    flip = flip_share u d g.chance

    both : (d - g.chance) + (d - (d - g.chance)) ≡ d
    both = omega arith

    go : (c : Bool) → cond c keep flip + cond c flip keep ≡ u * d
    go true = omega (arith, ap (λ (z : ℕ). u * z) both)
    go false = omega (arith, ap (λ (z : ℕ). u * z) both)
