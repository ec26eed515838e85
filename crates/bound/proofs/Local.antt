-- A netlist's gates and outputs by themselves: with independent pins a gate is wrong with nearly its rounded failure, and all outputs are right with
-- nearly the rounded reliability. Assumes nothing.
use Prim.Native.Nat.{ℕ, ◌+◌, ◌-◌, ◌*◌, ◌^◌, ◌≤◌, ◌<◌, zero-le}
use mathlib.Core.Bool.{Bool, true, false, cond, not}
use mathlib.Core.List.{List, [], ◌∷◌, map}
use mathlib.Core.Path.{◌≡◌, refl, sym, ap, subst, fun_ext, ◌∙◌}
use native.Mathlib.Nat.{mul-one, mul-zero, mul_comm, mul_left_comm, zero-add, sub-zero, le_refl}
use native.Mathlib.Omega.{arith}
use lib.ListN.{length, get_or}
use lib.Arith.{sub-sub_self, le-zero}
use lib.Dec.{eqb}
use borrow.Author.Tests.{eqb-true}
use Rattle.rounding.specs.Rounding.{blend, to_units, Near}
use Rattle.rounding.proofs.Laws.{no-units, blend-none, blend-at-most}
use Rattle.figure.specs.Figure.{bit_of, difference, gate_step}
use Rattle.figure.proofs.Fold.{fold_over}
use Rattle.lists.proofs.Every.{map-all}
use Rattle.netlist.specs.Netlist.{Gate, pin_values}
use Rattle.netlist.specs.Figures.{reliability_from}
use Rattle.suppose.specs.Suppose.{output_steps}
use Rattle.netlist.proofs.Failures.{units-at-most, fold-at-most, start-at-most}
use Rattle.suppose.proofs.Supposed.{none-outputs}
use Rattle.bound.specs.Sharp.{how_many}
use Rattle.bound.proofs.Near.{near-at, near-scale}
use Rattle.bound.proofs.Bits.{fold_bits, bits-linear, bits-add, bits-const}
use Rattle.bound.proofs.Rounded.{blend-near, units-near, right-share, wrong-share, shares_sum, whole-near, gate-mean}
use Rattle.bound.proofs.Shares.{if_right, right-map, unmoved, keep_share, flip_share, wrong_given}

-- nothing wrong and nothing right is nothing
pub blend-zero : (u f : ℕ) → 0 < u → f ≤ u → blend u 0 0 f ≡ 0
blend-zero u f pos h = le-zero (blend-at-most u 0 0 f 0 pos h (le_refl 0) (le_refl 0))

-- the product over outputs is a fold too, whatever failures they see
pub outputs-fold : (u : ℕ) → 0 < u → (f : ℕ → ℕ) → ((s : ℕ) → f s ≤ u) → (os : List ℕ) (s : ℕ) → output_steps u f s os ≡ fold_over u (map f os) (if_right s)
outputs-fold u pos f small [] s = refl
outputs-fold u pos f small (o ∷ os) s =
    outputs-fold u pos f small os (blend u s 0 (f o))
    ∙ ap (fold_over u (map f os)) (fun_ext (right-map (λ x. blend u x 0 (f o)) (blend-zero u (f o) pos (small o)) s))

pub right-times : (u : ℕ) (bs : List Bool) → if_right u bs ≡ u * if_right 1 bs
right-times u bs = ap (λ (z : ℕ). if_right z bs) (sym (mul-one u)) ∙ right-map (λ x. u * x) (mul-zero u) 1 bs

module _ (u d : ℕ) (posu : 0 < u) (posd : 0 < d) (fs : List ℕ) (small : (s : ℕ) → get_or fs s 0 ≤ u)
    (may_fail : ℕ → Bool) (never : (s : ℕ) → may_fail s ≡ false → get_or fs s 0 ≡ 0) where
  abbrev f : ℕ → ℕ
  f s = get_or fs s 0

  abbrev r : ℕ → ℕ
  r = right-share u d f

  abbrev w : ℕ → ℕ
  w = wrong-share u d f

  -- one half unit for each output that may fail, less one
  pub outputs-near : (os : List ℕ)
      → Near
      ((how_many may_fail os - 1) * (u * d) ^ length os)
      (2 * (reliability_from u fs u os * (u * d) ^ length os))
      (2 * (u * fold_bits r w os (if_right 1)))
  outputs-near os =
      near-at
      refl
      (ap (λ (z : ℕ). 2 * (z * (u * d) ^ length os)) (sym (outputs-fold u posu f small os u) ∙ none-outputs u fs u os))
      refl
      (whole-near u d posu f small may_fail never os (if_right u) (if_right 1) (right-times u))

  -- ps are a gate's pins, `still` the errors of theirs that leave its answer right
  module _ (ps : List ℕ) (still : List Bool → Bool) where
    abbrev x : ℕ
    x = (u * d) ^ length ps

    abbrev W : List Bool → ℕ
    W bs = cond (still bs) 0 u

    abbrev m : ℕ
    m = fold_over u (map f ps) W

    abbrev moves : List Bool → ℕ
    moves bs = bit_of (not (still bs))

    abbrev stays : List Bool → ℕ
    stays bs = bit_of (still bs)

    -- the shares in which the gate is wrong, its flip having chance c
    parts : (c : ℕ) → c ≤ d → fold_bits r w ps (λ bs. cond (still bs) (flip_share u d c) (keep_share u d c))
        ≡ u * (d - c) * fold_bits r w ps moves + u * c * fold_bits r w ps stays
    parts c hc = ap (fold_bits r w ps) (fun_ext (λ bs. split (still bs))) ∙ bits-linear r w ps (u * (d - c)) (u * c) moves stays
      where
        split : (b : Bool) → cond b (flip_share u d c) (keep_share u d c) ≡ u * (d - c) * bit_of (not b) + u * c * bit_of b
        split true = omega (arith, ap (λ (z : ℕ). u * z) (sub-sub_self hc))
        split false = omega arith

    -- the pins' fold: one half unit for each that may fail, less one
    pins-near : Near ((how_many may_fail ps - 1) * x) (2 * (m * x)) (2 * (u * fold_bits r w ps moves))
    pins-near = whole-near u d posu f small may_fail never ps W moves (λ bs. exact (still bs))
      where
        exact : (c : Bool) → cond c 0 u ≡ u * bit_of (not c)
        exact true = sym (mul-zero u)
        exact false = sym (mul-one u)

    -- a gate that may flip: two half units more, for the conversion and the gate step
    pub step-near : (c : ℕ) → c ≤ d
        → Near
        ((2 + (how_many may_fail ps - 1)) * (x * (u * d)))
        (2 * (u * (x * (d * gate_step u m (to_units u d c)))))
        (2 * (u * fold_bits r w ps (λ bs. cond (still bs) (flip_share u d c) (keep_share u d c))))
    unfolding gate_step
    step-near c hc =
        let p = to_units u d c in
        let pins-most : (i : ℕ) → get_or (map f ps) i 0 ≤ u = map-all 0 (λ x. x ≤ u) (omega arith) f ps (λ i l. small (get_or ps i 0)) in
        let m-most : m ≤ u = fold-at-most u u posu (map f ps) pins-most W (λ bs. start-at-most u (still bs)) in
        let p-most : p ≤ u = units-at-most u d c posd hc in
        let whole : fold_bits r w ps moves + fold_bits r w ps stays ≡ x
        = sym (bits-add r w ps moves stays)
        ∙ ap (fold_bits r w ps) (fun_ext (λ bs. one (still bs)))
        ∙ bits-const r w (u * d) (shares_sum u d f small) ps 1
        ∙ mul-one x in
        near-at
        refl
        refl
        (ap (λ (z : ℕ). 2 * (u * z)) (sym (parts c hc)))
        (gate-mean
        u
        d
        x
        (how_many may_fail ps - 1)
        m
        (u - m)
        p
        (u - p)
        c
        (d - c)
        (fold_bits r w ps moves)
        (fold_bits r w ps stays)
        (blend u m (u - m) p)
        (omega arith)
        (omega arith)
        (omega arith)
        whole
        (blend-near u m (u - m) p posu)
        (units-near u d c posd)
        pins-near)
      where
        one : (c : Bool) → bit_of (not c) + bit_of c ≡ 1
        one true = refl
        one false = refl

    -- a gate that never flips: its step changes nothing
    pub still-near : Near
        ((how_many may_fail ps - 1) * (x * (u * d)))
        (2 * (u * (x * (d * gate_step u m (to_units u d 0)))))
        (2 * (u * fold_bits r w ps (λ bs. cond (still bs) (flip_share u d 0) (keep_share u d 0))))
    unfolding gate_step
    still-near =
        let kept : m ≡ blend u m (u - m) (to_units u d 0) = sym (ap (blend u m (u - m)) (no-units u d posd) ∙ blend-none u m (u - m) posu) in
        let wrong = parts 0 zero-le in
        let full : d - 0 ≡ d = sub-zero d in
        near-at
        (mul_left_comm (u * d) (how_many may_fail ps - 1) x ∙ ap (λ (z : ℕ). (how_many may_fail ps - 1) * z) (mul_comm (u * d) x))
        (omega arith ∙ ap (λ (z : ℕ). 2 * (u * (x * (d * z)))) kept)
        (omega (arith, ap (λ (z : ℕ). u * z) wrong, ap (λ (z : ℕ). u * (u * z * fold_bits r w ps moves)) full))
        (near-scale (u * d) pins-near)

  -- a gate's figure, by the errors of its pins
  abbrev pub figure : List Bool → Gate → ℕ
  figure vs g = gate_step u (fold_over u (map f g.pins) (difference u g.table (pin_values vs g.pins))) (to_units u d g.chance)

  abbrev pub Within : ℕ → List Bool → Gate → Type 0
  Within halves vs g =
      Near
      (halves * ((u * d) ^ length g.pins * (u * d)))
      (2 * (u * ((u * d) ^ length g.pins * (d * figure vs g))))
      (2 * (u * fold_bits r w g.pins (wrong_given u d vs g)))

  pub gate-near : (vs : List Bool) (g : Gate) → g.chance ≤ d → Within (2 + (how_many may_fail g.pins - 1)) vs g
  unfolding difference
  gate-near vs g hc = step-near g.pins (unmoved vs g) g.chance hc

  -- without those two half units where its kind is 0
  pub gate-sharp : (vs : List Bool) (g : Gate) → g.chance ≤ d → (g.kind ≡ 0 → g.chance ≡ 0)
      → Within (cond (eqb g.kind 0) 0 2 + (how_many may_fail g.pins - 1)) vs g
  unfolding difference
  gate-sharp vs g hc honest = go (eqb g.kind 0) refl
    where
      k : ℕ
      k = how_many may_fail g.pins - 1

      go : (b : Bool) → eqb g.kind 0 ≡ b → Within (cond b 0 2 + k) vs g
      go false e = step-near g.pins (unmoved vs g) g.chance hc
      go true e =
          subst (λ (c : ℕ). Near
          ((0 + k) * ((u * d) ^ length g.pins * (u * d)))
          (2
          * (u
          * ((u * d) ^ length g.pins
          * (d * gate_step u (fold_over u (map f g.pins) (λ bs. cond (unmoved vs g bs) 0 u)) (to_units u d c)))))
          (2 * (u * fold_bits r w g.pins (λ bs. cond (unmoved vs g bs) (flip_share u d c) (keep_share u d c)))))
          (sym (honest (eqb-true g.kind 0 e)))
          (near-at (ap (λ (z : ℕ). z * ((u * d) ^ length g.pins * (u * d))) (sym (zero-add k))) refl refl (still-near g.pins (unmoved vs g)))
