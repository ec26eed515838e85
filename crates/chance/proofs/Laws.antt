-- The laws of flip fields that later crates cite. Assumes nothing.
use Prim.Native.Nat.{ℕ, zero, suc, ◌+◌, ◌*◌, ◌^◌, ◌≤◌, ◌<◌}
use mathlib.Core.Path.{◌≡◌, refl, sym, ap, subst, ◌∙◌}
use mathlib.Core.Bool.{Bool, true, false, cond, ◌&&◌, false≢true}
use mathlib.Core.List.{List}
use native.Mathlib.Nat.{le_trans, add-le-add, eq_of_mul-eq-mul_right, mul_assoc, mul_left_comm, mul-pos, mul_comm, mul-le-mul, mul-le-mul_right}
use native.Mathlib.Nat.{mul_right_comm, div-le_of_le-mul}
use native.Mathlib.Omega.{arith}
use borrow.Author.Tests.{leb-true, le-leb}
use lib.Dec.{T, lit≤}
use lib.Ieee.{Float, nan, inf, fin, binary32, binary64, up, down, fits, of_bits}
use lib.Ieee.Fits.{down_pos}
use lib.Ieee.Digits.{Equals}
use lib.Ieee.Bits.{of_bits-fits}
use lib.Ieee.Positive.{num, den, den_pos}
use lib.Pow.{pow-add}
use Rattle.std.specs.Prelude.{Option, Some, None, Result, Ok, Err}
use Rattle.std.specs.Option.{ok_or}
use Rattle.rounding.specs.Rounding.{units_in_one, units_in_half, to_units}
use Rattle.rounding.proofs.Laws.{at_most}
use Rattle.chance.specs.declared.Flip.{Flip}
use Rattle.chance.specs.declared.FlipFault.TheVariants.{Unreadable, AboveHalf}
use Rattle.chance.specs.declared.Flip.TheVariants.{Never, Plain, Strike as Struck}
use Rattle.chance.specs.Number.{chance_scale, whole_chance, at_most_half, from_zero_to_one, chance_bits}
use Rattle.chance.specs.Flip.{first_half, second_half, whole_field, in_range, flip_of, flip_accepted, chance_of, flip_chance}
use Rattle.chance.specs.Flip.{flip_units, read_flip, units_if, read_units}
use Rattle.chance.specs.Statements.{PlainExact, StrikeExact, ChanceAtMost, PlainHalf, StrikeHalf, LowUnits}
use Rattle.chance.proofs.Range.{range-of-bits}
use Rattle.chance.proofs.Exact.{den-power, scale-pos, whole-exact}
use Rattle.chance.proofs.Product.{range-says}
use Rattle.chance.proofs.Half.{half-of-fraction}

-- ---- reading

-- an accepted field's floats are in range
pub accepted-in-range : (kind : ℕ) (field : List ℕ) → flip_accepted kind field ≡ true → in_range (flip_of kind field) ≡ true
unfolding flip_accepted flip_of
accepted-in-range zero field h = unfold in_range in refl
accepted-in-range (suc zero) field h = h
accepted-in-range (suc (suc zero)) field h = h
accepted-in-range (suc (suc (suc k))) field h = absurd (false≢true h)

-- a choice that came out as z, which one of the two is not, was made for the other
cond-first : {A : Type 0} (b : Bool) (x y z : A) → (y ≡ z → ⊥) → cond b x y ≡ z → (b ≡ true) × (x ≡ z)
cond-first true x y z other e = (refl, e)
cond-first false x y z other e = absurd (other e)

cond-second : {A : Type 0} (b : Bool) (x y z : A) → (x ≡ z → ⊥) → cond b x y ≡ z → b ≡ false
cond-second true x y z other e = absurd (other e)
cond-second false x y z other e = refl

-- an option as a result, with a fault for none: what it was
pub was_some : {A E : Type 0} (o : Option A) (e : E) (r : Result A E) (x : A) → r ≡ ok_or o e → r ≡ Ok x → o ≡ Some x
was_some None e r x p q = let z : ◌≡◌ {A = ℕ} 0 1 = cc in absurd (omega arith)
was_some (Some y) e r x p q = cc

pub was_none : {A E : Type 0} (o : Option A) (e : E) (r : Result A E) (y : E) → r ≡ ok_or o e → r ≡ Err y → (o ≡ None) × (y ≡ e)
was_none None e r y p q = (refl, cc)
was_none (Some x) e r y p q = let z : ◌≡◌ {A = ℕ} 0 1 = cc in absurd (omega arith)

-- what an answer says of the field, before conversion
pub read-accepted : (kind : ℕ) (field : List ℕ) (flip : Flip) → read_flip kind field ≡ Some flip
    → (flip_accepted kind field ≡ true) × (flip_of kind field ≡ flip)
unfolding read_flip
read-accepted kind field flip e =
    let r = cond-first (flip_accepted kind field) (Some (flip_of kind field)) None (Some flip) (λ p. let z : ◌≡◌ {A = ℕ} 0 1 = cc in omega arith) e in
    let f : Some (flip_of kind field) ≡ Some flip = r.1 in
    (r.0, cc)

pub read-refused : (kind : ℕ) (field : List ℕ) → read_flip kind field ≡ None → flip_accepted kind field ≡ false
unfolding read_flip
read-refused kind field e =
    cond-second (flip_accepted kind field) (Some (flip_of kind field)) None None (λ p. let z : ◌≡◌ {A = ℕ} 0 1 = cc in omega arith) e

-- a flip that was read is in range
pub read-in-range : (kind : ℕ) (field : List ℕ) (flip : Flip) → read_flip kind field ≡ Some flip → in_range flip ≡ true
read-in-range kind field flip e =
    let said = read-accepted kind field flip e in
    subst (λ (f : Flip). in_range f ≡ true) said.1 (accepted-in-range kind field said.0)

-- the chance of the flip that was read is that of the field
pub read-chance : (kind : ℕ) (field : List ℕ) (flip : Flip) → read_flip kind field ≡ Some flip → chance_of flip ≡ flip_chance kind field
unfolding flip_chance
read-chance kind field flip e = ap chance_of (sym (read-accepted kind field flip e).1)

-- and in units: what each answer says of the field
pub units-accepted : (kind : ℕ) (field : List ℕ) (units : ℕ) → read_units kind field ≡ Ok units
    → (flip_accepted kind field ≡ true) × (at_most_half (flip_chance kind field) ≡ true) × (flip_units kind field ≡ units)
unfolding read_units
units-accepted kind field units e = go (flip_accepted kind field) (at_most_half (flip_chance kind field)) (flip_units kind field) e
  where
    go : (a low : Bool) (n : ℕ) → units_if a low n ≡ Ok units → (a ≡ true) × (low ≡ true) × (n ≡ units)
    go true true n e = (refl, refl, cc)
    go true false n e = let z : ◌≡◌ {A = ℕ} 0 1 = cc in absurd (omega arith)
    go false low n e = let z : ◌≡◌ {A = ℕ} 0 1 = cc in absurd (omega arith)

pub units-above : (kind : ℕ) (field : List ℕ) → read_units kind field ≡ Err AboveHalf
    → (flip_accepted kind field ≡ true) × (at_most_half (flip_chance kind field) ≡ false)
unfolding read_units
units-above kind field e = go (flip_accepted kind field) (at_most_half (flip_chance kind field)) (flip_units kind field) e
  where
    go : (a low : Bool) (n : ℕ) → units_if a low n ≡ Err AboveHalf → (a ≡ true) × (low ≡ false)
    go true true n e = let z : ◌≡◌ {A = ℕ} 0 1 = cc in absurd (omega arith)
    go true false n e = (refl, refl)
    go false low n e = let z : ◌≡◌ {A = ℕ} 0 1 = cc in absurd (omega arith)

pub units-refused : (kind : ℕ) (field : List ℕ) → read_units kind field ≡ Err Unreadable → flip_accepted kind field ≡ false
unfolding read_units
units-refused kind field e = go (flip_accepted kind field) (at_most_half (flip_chance kind field)) (flip_units kind field) e
  where
    go : (a low : Bool) (n : ℕ) → units_if a low n ≡ Err Unreadable → a ≡ false
    go true true n e = let z : ◌≡◌ {A = ℕ} 0 1 = cc in absurd (omega arith)
    go true false n e = let z : ◌≡◌ {A = ℕ} 0 1 = cc in absurd (omega arith)
    go false low n e = refl

-- ---- acceptance on the bits

-- a plain chance is accepted up to the pattern of 1, and as minus zero
pub plain-bits : (field : List ℕ) → whole_field field < 2 ^ 64
    → flip_accepted 1 field ≡ chance_bits 0x3ff0_0000_0000_0000 0x8000_0000_0000_0000 (whole_field field)
unfolding flip_accepted in_range
plain-bits field h = range-of-bits binary64 (whole_field field) h

-- and so is each number of a strike
pub strike-bits : (field : List ℕ) → first_half field < 2 ^ 32 → second_half field < 2 ^ 32
    → flip_accepted 2 field ≡ (chance_bits 0x3f80_0000 0x8000_0000 (first_half field) && chance_bits 0x3f80_0000 0x8000_0000 (second_half field))
unfolding flip_accepted in_range
strike-bits field h k =
    ap (λ (b : Bool). b && from_zero_to_one (of_bits binary32 (second_half field))) (range-of-bits binary32 (first_half field) h)
    ∙ ap (λ (b : Bool). chance_bits 0x3f80_0000 0x8000_0000 (first_half field) && b) (range-of-bits binary32 (second_half field) k)

-- ---- bounds

-- a fraction of at most 1 is at most all of the 2^-1074 in 1
whole-at-most : (n d : ℕ) → n ≤ d → whole_chance n d ≤ chance_scale
unfolding whole_chance
whole-at-most n d h = div-le_of_le-mul d (mul-le-mul_right chance_scale h)

range-at-most : (x : Float) → from_zero_to_one x ≡ true → num x ≤ den x
range-at-most nan h = omega arith
range-at-most (inf s) h = omega arith
range-at-most (fin s m e) h = (range-says s m e h).0

pub and-true : (a b : Bool) → (a && b) ≡ true → (a ≡ true) × (b ≡ true)
and-true true b h = (refl, h)
and-true false b h = absurd (false≢true h)

-- a chance is at most 1
pub chance-at-most : (flip : Flip) → in_range flip ≡ true → chance_of flip ≤ chance_scale
unfolding in_range chance_of
chance-at-most Never h = omega arith
chance-at-most (Plain x) h = whole-at-most (num x) (den x) (range-at-most x h)
chance-at-most (Struck s) h =
    let r = and-true (from_zero_to_one s.chance) (from_zero_to_one s.window) h in
    whole-at-most (num s.chance * num s.window) (den s.chance * den s.window)
    (mul-le-mul (range-at-most s.chance r.0) (range-at-most s.window r.1))

pub flip-chance-at-most : ChanceAtMost
unfolding flip_chance
flip-chance-at-most kind field h = chance-at-most (flip_of kind field) (accepted-in-range kind field h)

-- chance 0 is at most 0.5
pub no-chance-low : at_most_half 0 ≡ true
unfolding at_most_half
no-chance-low = le-leb (2 * 0) chance_scale (omega arith)

-- a chance that is at most 0.5 is at most U / 2 units
pub low-units : LowUnits
unfolding at_most_half flip_units to_units
low-units kind field h =
    let chance = flip_chance kind field in
    let low : 2 * chance ≤ chance_scale = leb-true (2 * chance) chance_scale h in
    at_most (chance * units_in_one) chance_scale scale-pos units_in_half (omega arith)

-- ---- the chance is the IEEE value

-- of a plain chance: the float is finite and equals flip_chance / 2^1074
pub plain-exact : PlainExact
unfolding flip_accepted flip_chance flip_of chance_of in_range
plain-exact field h = go (of_bits binary64 (whole_field field)) (of_bits-fits binary64 (whole_field field)) h
  where
    go : (x : Float) → T (fits binary64 x) → from_zero_to_one x ≡ true → Equals x (whole_chance (num x) (den x)) chance_scale
    go nan t r = absurd (false≢true (unfold from_zero_to_one in r))
    go (inf s) t r = absurd (false≢true (unfold from_zero_to_one in r))
    go (fin s m e) t r = let p = den-power binary64 (fin s m e) t in whole-exact (num (fin s m e)) (den (fin s m e)) p.0 p.1 p.2

-- of a strike, by the library's own fractions
strike-own : (field : List ℕ) →
    let x = of_bits binary32 (first_half field) in
    let y = of_bits binary32 (second_half field) in
    num x * num y * chance_scale ≡ flip_chance 2 field * (den x * den y)
unfolding flip_chance flip_of chance_of
strike-own field =
    let x = of_bits binary32 (first_half field) in
    let y = of_bits binary32 (second_half field) in
    let p = den-power binary32 x (of_bits-fits binary32 (first_half field)) in
    let q = den-power binary32 y (of_bits-fits binary32 (second_half field)) in
    whole-exact (num x * num y) (den x * den y) (p.0 + q.0)
    (ap (λ (z : ℕ). z * den y) p.1 ∙ ap (λ (z : ℕ). 2 ^ p.0 * z) q.1 ∙ sym (pow-add 2 p.0 q.0))
    (le_trans (add-le-add p.2 q.2) (lit≤ tt))

-- of a strike: whatever fractions the two floats equal, their product equals flip_chance / 2^1074
pub strike-exact : StrikeExact
strike-exact field a c b d e f =
    let x = of_bits binary32 (first_half field) in
    let y = of_bits binary32 (second_half field) in
    other-fractions (num x) (den x) a c (num y) (den y) b d chance_scale (flip_chance 2 field) (den_pos x) (den_pos y) (cross x a c e) (cross y b d f)
    (strike-own field)
  where
    cross : (x : Float) (a c : ℕ) → Equals x a c → num x * c ≡ a * den x
    cross nan a c v = absurd v
    cross (inf t) a c v = absurd v
    cross (fin t m e) a c v = v

    other-fractions : (n p a c m q b d s k : ℕ) → 0 < p → 0 < q → n * c ≡ a * p → m * d ≡ b * q → n * m * s ≡ k * (p * q) → a * b * s ≡ k * (c * d)
    other-fractions n p a c m q b d s k P Q e f g =
        eq_of_mul-eq-mul_right (p * q) (mul-pos P Q) (a * b * s) (k * (c * d))
        (let u : a * b * s * (p * q) ≡ a * p * (b * q) * s = simp (mul_assoc, mul_comm, mul_left_comm) in
        let v : n * c * (m * d) * s ≡ n * m * s * (c * d) = simp (mul_assoc, mul_comm, mul_left_comm) in
        let w : k * (p * q) * (c * d) ≡ k * (c * d) * (p * q) = simp (mul_assoc, mul_comm, mul_left_comm) in
        u ∙ ap (λ (z : ℕ). z * (b * q) * s) (sym e) ∙ ap (λ (z : ℕ). n * c * z * s) (sym f) ∙ v ∙ ap (λ (z : ℕ). z * (c * d)) g ∙ w)

-- ---- the chance held to 0.5 is the IEEE value

pub plain-half : PlainHalf
plain-half field a c accepted C e =
    half-of-fraction a c (flip_chance 1 field) C (same (of_bits binary64 (whole_field field)) e (plain-exact field accepted))
  where
    both : (p q w : ℕ) → 0 < q → p * c ≡ a * q → p * chance_scale ≡ w * q → a * chance_scale ≡ w * c
    both p q w Q v u =
        eq_of_mul-eq-mul_right q Q (a * chance_scale) (w * c)
        (mul_right_comm a chance_scale q ∙ ap (λ (z : ℕ). z * chance_scale) (sym v) ∙ mul_right_comm p c chance_scale ∙ ap (λ (z : ℕ). z * c) u
        ∙ mul_right_comm w q c)

    same : (x : Float) → Equals x a c → Equals x (flip_chance 1 field) chance_scale → a * chance_scale ≡ flip_chance 1 field * c
    same nan v u = absurd v
    same (inf t) v u = absurd v
    same (fin t m g) v u = both (m * up g) (down g) (flip_chance 1 field) (down_pos g) v u

pub strike-half : StrikeHalf
strike-half field a c b d C D e f = half-of-fraction (a * b) (c * d) (flip_chance 2 field) (mul-pos C D) (strike-exact field a c b d e f)

-- kind 0 has no chance of flipping
pub never-chance : (kind : ℕ) (field : List ℕ) → kind ≡ 0 → flip_chance kind field ≡ 0
unfolding flip_chance flip_of chance_of
never-chance kind field e = ap (λ (k : ℕ). chance_of (flip_of k field)) e
