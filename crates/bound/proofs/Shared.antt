-- Netlists with shared gates: the sets of suppositions added up. Assumes nothing.
use Prim.Native.Nat.{ℕ, zero, suc, ◌*◌, ◌^◌, ◌≤◌}
use mathlib.Core.Bool.{Bool, true, false, cond}
use mathlib.Core.List.{List, [], ◌∷◌}
use mathlib.Core.Path.{◌≡◌, refl, sym, ap, ◌∙◌}
use native.Mathlib.Nat.{pow-zero, pow-succ', one-le-pow, mul-le-mul_left, mul-le-mul_right}
use native.Mathlib.Omega.{arith}
use lib.ListN.{length}
use lib.Dec.{leb}
use borrow.Author.Tests.{leb-false}
use Rattle.rounding.specs.Rounding.{Near}
use Rattle.netlist.specs.Netlist.{right_values}
use Rattle.netlist.specs.Exact.{sum_over_flips, exact_sum}
use Rattle.netlist.specs.Live.{live_gates}
use Rattle.suppose.specs.Suppose.{shared_gates, supposed_figure, shared_reliability}
use Rattle.bound.specs.Statements.{SharedBound, NoneShared}
use Rattle.suppose.proofs.Supposed as laws
use Rattle.bound.proofs.Near.{near-at, near_add, near-cancel}
use Rattle.bound.proofs.Replace.{sum-at-most}
use Rattle.bound.proofs.Shares.{right-at-most, if_right, right_given, wrong_given, given-sum}
use Rattle.bound.proofs.Bound.{mul-pow, error_sum, exact-is}
use Rattle.bound.proofs.Suppose.{partition}
use Rattle.bound.proofs.Fixed.{set_sum, set-bound}

near-sum : (k e : ℕ) (A B : List Bool → ℕ) → ((bs : List Bool) → Near e (A bs) (B bs)) → Near (2 ^ k * e) (sum_over_flips k A) (sum_over_flips k B)
near-sum zero e A B h = near-at (omega (arith, ap (λ (z : ℕ). z * e) (pow-zero 2))) refl refl (h [])
near-sum (suc k) e A B h =
    near-at
    (omega (arith, ap (λ (z : ℕ). z * e) (pow-succ' 2 k)))
    refl
    refl
    (near_add
    (near-sum k e (λ bs. A (false ∷ bs)) (λ bs. B (false ∷ bs)) (λ bs. h (false ∷ bs)))
    (near-sum k e (λ bs. A (true ∷ bs)) (λ bs. B (true ∷ bs)) (λ bs. h (true ∷ bs))))

-- a factor on the right
scale-right : (k c : ℕ) (F : List Bool → ℕ) → sum_over_flips k (λ bs. 2 * (F bs * c)) ≡ 2 * (sum_over_flips k F * c)
scale-right zero c F = refl
scale-right (suc k) c F = omega (arith, scale-right k c (λ bs. F (false ∷ bs)), scale-right k c (λ bs. F (true ∷ bs)))

scale-left : (k c : ℕ) (F : List Bool → ℕ) → sum_over_flips k (λ bs. 2 * (c * F bs)) ≡ 2 * (c * sum_over_flips k F)
scale-left zero c F = refl
scale-left (suc k) c F = omega (arith, scale-left k c (λ bs. F (false ∷ bs)), scale-left k c (λ bs. F (true ∷ bs)))

-- what is cut at u comes no further from what is at most u
cut-near : (u x e m y : ℕ) → y ≤ m → Near e (2 * (x * m)) (2 * (u * y)) → Near e (2 * (cond (leb x u) x u * m)) (2 * (u * y))
cut-near u x e m y small near = go (leb x u) refl
  where
    go : (c : Bool) → leb x u ≡ c → Near e (2 * (cond c x u * m)) (2 * (u * y))
    go true h = near
    go false h =
        let less : u * m ≤ x * m = mul-le-mul_right m (omega (arith, leb-false x u h)) in
        record { up = omega (arith, near.up); down = omega (arith, mul-le-mul_left u small) }

pub shared-bound : SharedBound
unfolding shared_reliability
shared-bound u d posu posd net well q =
    let k = length (shared_gates net) in
    let G = length net.gates in
    let vs = right_values net q in
    let D : ℕ = (u * d) ^ G in
    let L = live_gates net in
    let X = sum_over_flips k (supposed_figure u d net q) in
    let E = error_sum u d posu posd net well q (λ t. false) in
    let sets = near-sum k (3 * L * D) _ _ (set-bound u d posu posd net well q) in
    let parts : sum_over_flips k (set_sum u d posu posd net well q) ≡ E
    = partition (λ t. right_given u d vs) (λ t. wrong_given u d vs) (shared_gates net) net.outputs (if_right 1) net.inputs net.gates (λ t. false) in
    let added : Near (2 ^ k * (3 * L * D)) (2 * (X * D)) (2 * (u * E))
    = near-at
    refl
    (scale-right k D (supposed_figure u d net q))
    (scale-left k u (set_sum u d posu posd net well q) ∙ ap (λ (z : ℕ). 2 * (u * z)) parts)
    sets in
    let most : E ≤ D
    = sum-at-most
    net.outputs
    (if_right 1)
    (λ t. right_given u d vs)
    (λ t. wrong_given u d vs)
    (u * d)
    (λ t. given-sum u d vs)
    right-at-most
    net.inputs
    net.gates
    (λ t. false) in
    let Y = cond (leb X u) X u in
    let scale : D ≡ u ^ G * d ^ G = mul-pow u d G in
    let e : 2 ^ k * (3 * L * D) ≡ u ^ G * (3 * L * 2 ^ k * d ^ G) = ap (λ (z : ℕ). 2 ^ k * (3 * L * z)) scale ∙ omega arith in
    let a : 2 * (Y * D) ≡ u ^ G * (2 * (Y * d ^ G)) = ap (λ (z : ℕ). 2 * (Y * z)) scale ∙ omega arith in
    let b : 2 * (u * E) ≡ u ^ G * (2 * (u * exact_sum d net q))
    = ap (λ (z : ℕ). 2 * (u * z)) (sym (exact-is u d posu posd net well q)) ∙ omega arith in
    near-cancel
    (u ^ G)
    (3 * L * 2 ^ k * d ^ G)
    (2 * (Y * d ^ G))
    (2 * (u * exact_sum d net q))
    (one-le-pow G u posu)
    (near-at e a b (cut-near u X (2 ^ k * (3 * L * D)) D E most added))

pub none-shared : NoneShared
none-shared = laws.none-shared
