-- A shared gate supposed right and wrong: how the walk stands behind it, that both sums make the sum before it, and the figure of a set at the end.
-- Assumes nothing.
use Prim.Native.Nat.{ℕ, suc, ◌+◌, ◌-◌, ◌*◌, ◌/◌, ◌%◌, ◌^◌, ◌≤◌, ◌<◌}
use mathlib.Core.Bool.{Bool, true, false, cond}
use mathlib.Core.List.{List, []}
use mathlib.Core.Logic.{by_cases}
use mathlib.Core.Path.{◌≡◌, refl, sym, ap, ap₂, subst, ◌∙◌}
use native.Mathlib.Decide.{dec_lt}
use native.Mathlib.Nat.{le_refl, zero-add, mod-eq_of_lt, pow-zero, pow-succ'}
use native.Mathlib.Omega.{arith}
use lib.Dec.{eqb}
use lib.ListN.{length, get_or, set}
use lib.Pow.{field, mod-mod-pow, high, low, pow_mono}
use lib.Seq.{get_or-set_same}
use Rattle.lists.specs.Lists.{sum_below}
use Rattle.lists.proofs.Sums.{sum_same, sum-bounded}
use Rattle.rounding.specs.Rounding.{units_in_one, blend}
use Rattle.figure.specs.Figure.{bit_of, output_step, failure_of}
use Rattle.netlist.specs.Netlist.{right_values}
use Rattle.netlist.specs.Live.{readers}
use Rattle.suppose.proofs.Sharing.{sum-pairs}
use Rattle.area.specs.Layout.{largest_figure, inputs, gates, pattern, figure_index, figure, output_words, source_word}
use Rattle.area.specs.Rules.{Workable}
use Rattle.area.specs.Figures.{product_from}
use Rattle.area.specs.Net.{net_of}
use Rattle.area.proofs.Words.{gate-inside, output-below}
use Rattle.plan.proofs.Laws.{live-output}
use Rattle.work.specs.Work.{gate_figure}
use Rattle.fresh.proofs.Bridge.{failure-of-word}
use Rattle.sets.specs.Sets.{most_shared, units_net, shared_of, shared_to, is_wrong, own_failure, seen_failure, product_to, set_figure}
use Rattle.sets.specs.Branches.{SeenAs, Begins, Marks, Stands, sum_begun, SameBefore, WorkedTo, SharedAt}
use Rattle.sets.proofs.Laws.{step-either, shared-are, number-inside, number_more, seen-shared, product-more, figure-by}
use Rattle.sets.proofs.Laws.{own-at-most, product-at-most, figure-at-most}
use Rattle.sets.proofs.Same as same
use Rattle.sets.proofs.Worked.{own-word, source-seen, stands-there}

-- ---- sets by how they begin

double : (k : ℕ) → 2 ^ (k + 1) ≡ 2 * 2 ^ k
double k =
    let next : k + 1 ≡ suc k = omega arith in
    ap (λ (x : ℕ). 2 ^ x) next ∙ pow-succ' 2 k

-- one shared gate more: its bit
begins-more : (m begun k : ℕ) (w : Bool) → begun < 2 ^ k → m % 2 ^ (k + 1) ≡ begun + bit_of w * 2 ^ k → Begins begun k m × (is_wrong m k ≡ w)
begins-more m begun k w small e =
    let turned : 1 + k ≡ k + 1 = omega arith in
    let sum : m % 2 ^ (1 + k) ≡ bit_of w * 2 ^ k + begun = ap (λ (x : ℕ). m % 2 ^ x) turned ∙ e ∙ omega arith in (
      sym (mod-mod-pow m 1 k) ∙ ap (λ (x : ℕ). x % 2 ^ k) sum ∙ low (bit_of w) k small,
      ap (λ (x : ℕ). eqb x 1) (sym (field m 1 k) ∙ ap (λ (x : ℕ). x / 2 ^ k) sum ∙ high (bit_of w) k small) ∙ bit w,
    )
  where
    bit : (w : Bool) → eqb (bit_of w) 1 ≡ w
    bit true = refl
    bit false = refl

module _ (ws : List ℕ) (begun met : ℕ) where
  abbrev F : ℕ → ℕ
  F i = set_figure ws (begun + 2 ^ met * i)

  -- the sets that suppose the next gate right, and those that suppose it wrong
  pub sum_both : met < length (shared_of ws) → sum_begun ws begun met ≡ sum_begun ws begun (met + 1) + sum_begun ws (begun + 2 ^ met) (met + 1)
  unfolding sum_begun
  sum_both more =
      let n = 2 ^ (length (shared_of ws) - (met + 1)) in
      let left : length (shared_of ws) - met ≡ length (shared_of ws) - (met + 1) + 1 = omega arith in
      ap (λ (k : ℕ). sum_below k F) (ap (λ (k : ℕ). 2 ^ k) left ∙ double (length (shared_of ws) - (met + 1)))
      ∙ sum-pairs n F
      ∙ ap₂ ◌+◌
      (sum_same _ _ n (λ i l. ap (set_figure ws) (omega (arith, ap (λ (z : ℕ). z * i) (double met)))))
      (sum_same _ _ n (λ i l. ap (set_figure ws) (omega (arith, ap (λ (z : ℕ). z * i) (double met)))))

  -- one set is left
  pub sum_one : met ≡ length (shared_of ws) → sum_begun ws begun met ≡ set_figure ws begun
  unfolding sum_begun
  sum_one all =
      let none : length (shared_of ws) - met ≡ 0 = omega arith in
      let alone : begun + 2 ^ met * 0 ≡ begun = omega arith in
      ap (λ (k : ℕ). sum_below (2 ^ k) F) none ∙ ap (λ (k : ℕ). sum_below k F) (pow-zero 2) ∙ zero-add (F 0) ∙ ap (set_figure ws) alone

  pub sum-most : Workable ws → length (shared_of ws) ≤ most_shared → sum_begun ws begun met ≤ 256 * units_in_one
  unfolding sum_begun
  sum-most workable few =
      let sets : 2 ^ (length (shared_of ws) - met) ≤ 2 ^ most_shared = pow_mono {i = length (shared_of ws) - met} {j = most_shared} (omega arith) in
      let most = sum-bounded F units_in_one (2 ^ (length (shared_of ws) - met)) (λ m l. figure-at-most ws workable (begun + 2 ^ met * m)) in
      omega (arith, sets, most)

-- all sets
pub sum-all : (ws : List ℕ) → sum_begun ws 0 0 ≡ sum_below (2 ^ length (shared_of ws)) (set_figure ws)
unfolding sum_begun
sum-all ws =
    let all : length (shared_of ws) - 0 ≡ length (shared_of ws) = omega arith in
    ap (λ (k : ℕ). sum_below (2 ^ k) (λ i. set_figure ws (0 + 2 ^ 0 * i))) all
    ∙ sum_same _ _ (2 ^ length (shared_of ws)) (λ i l. ap (set_figure ws) (omega arith))

-- ---- behind a shared gate

bit-small : (v : Bool) → bit_of v ≤ 1
bit-small true = omega arith
bit-small false = omega arith

module _ (vs marks : List ℕ) (g begun met product : ℕ) (workable : Workable vs) (inside : g < gates vs) (known : Marks vs marks)
    (shared : 2 ≤ get_or marks (inputs vs + g) 0) (stands : Stands vs begun met g product) (worked : figure vs g ≡ gate_figure vs g) where
  abbrev s : ℕ
  s = inputs vs + g

  two : 2 ≤ readers (net_of vs [] []) s
  two = known.shared g inside shared

  abbrev right : Bool
  right = get_or (right_values (units_net vs) (pattern vs)) s false

  own : (m : ℕ) → Begins begun met m → figure vs g ≡ 2 * own_failure vs m s + bit_of right
  own m begins = worked ∙ own-word vs workable m g inside (omega (arith, two)) (stands.words m begins)

  -- shared gates are left
  pub met-inside : met < length (shared_of vs)
  met-inside = omega (arith, stands.number, number-inside vs g inside two)

  module _ (w : Bool) (word p : ℕ) (stored : word ≡ 2 * cond w units_in_one 0 + figure vs g % 2)
      (step : p ≡ output_step units_in_one product (cond w (units_in_one - figure vs g / 2) (figure vs g / 2))) where
    abbrev us : List ℕ
    us = set vs (figure_index g) word

    fits : word ≤ largest_figure
    fits = omega (arith, stored, either w)
      where
        either : (w : Bool) → cond w units_in_one 0 ≤ units_in_one
        either true = omega arith
        either false = omega arith

    pub stored_same : SameBefore vs marks us g
    stored_same = same.same-stored vs marks g g word workable (le_refl g) inside (omega (arith, shared)) fits

    small : begun + bit_of w * 2 ^ met < 2 ^ (met + 1)
    small = go w
      where
        go : (w : Bool) → begun + bit_of w * 2 ^ met < 2 ^ (met + 1)
        go true = omega (arith, double met, stands.small)
        go false = omega (arith, double met, stands.small)

    here : (m : ℕ) → Begins begun met m → is_wrong m met ≡ w → SeenAs us m g
    here m begins is =
        same.seen_as vs marks us g stored_same m g
        (get_or-set_same vs (figure_index g) word 0 (gate-inside vs workable.net g inside)
        ∙ stored
        ∙ ap₂ (λ (f r : ℕ). 2 * f + r)
        (ap (λ (c : Bool). cond c units_in_one 0) (sym is ∙ ap (is_wrong m) stands.number) ∙ sym (seen-shared vs g inside two m))
        (omega (arith, own m begins, bit-small right)))

    product-step : (m : ℕ) → Begins begun met m → is_wrong m met ≡ w → p ≡ product_to vs m (g + 1)
    product-step m begins is =
        let half : figure vs g / 2 ≡ own_failure vs m s = ap failure_of (own m begins) ∙ failure-of-word (own_failure vs m s) right in
        step
        ∙ ap₂ (λ (x f : ℕ). output_step units_in_one x (cond w (units_in_one - f) f)) (stands.products m begins) half
        ∙ step-either w (product_to vs m g) (own_failure vs m s) (own-at-most vs workable m s)
        ∙ ap
        (λ (c : Bool). cond c (blend units_in_one 0 (product_to vs m g) (own_failure vs m s)) (blend units_in_one (product_to vs m g) 0 (own_failure vs m s)))
        (sym is ∙ ap (is_wrong m) stands.number)
        ∙ sym (product-more vs g inside two m)

    pub stands-more : Stands us (begun + bit_of w * 2 ^ met) (met + 1) (g + 1) p
    stands-more =
        record {
          number =
              omega (arith, stands.number, number_more vs g inside two, ap length (same.to_same vs marks us g stored_same (g + 1)));
          small = small;
          products =
              λ m begins.
              let bits = begins-more m begun met w stands.small begins in
              product-step m bits.0 bits.1 ∙ sym (same.product-same vs marks us g stored_same m (g + 1));
          words =
              λ m begins j less live.
              let bits = begins-more m begun met w stands.small begins in
              by_cases (dec_lt j g)
              (λ earlier. same.words_same vs marks us g stored_same begun met stands.words m bits.0 j earlier live)
              (λ last.
              let at : g ≡ j = omega arith in
              subst (SeenAs us m) at (here m bits.0 bits.1));
        }

-- ---- from a shared gate on, for both suppositions

module _ (ws marks vs : List ℕ) (b g begun met product : ℕ) (known : Marks ws marks) (stands : Stands ws begun met b product)
    (to : WorkedTo ws marks vs b g) (from : b ≤ g) (inside : g < gates ws) (shared : SharedAt ws marks vs g) where
  abbrev workable : Workable vs
  workable = to.same.workable

  pub gate-there : g < gates vs
  gate-there = omega (arith, same.gates-same ws marks vs b to.same)

  pub walk-there : Stands vs begun met g product
  walk-there = stands-there ws marks vs b g begun met product (omega arith) known stands to from

  marks-there : Marks vs marks
  marks-there = same.marks-same ws marks vs b to.same known

  twice : 2 ≤ get_or marks (inputs vs + g) 0
  twice = rw (ap (λ (n : ℕ). n + g) (same.inputs-same ws marks vs b to.same)) shared.twice

  pub met-there : met < length (shared_of vs)
  met-there = met-inside vs marks g begun met product workable gate-there marks-there twice walk-there shared.worked

  module _ (word p : ℕ) (stored : word ≡ figure vs g % 2) (step : p ≡ output_step units_in_one product (figure vs g / 2)) where
    abbrev rs : List ℕ
    rs = set vs (figure_index g) word

    as-false : word ≡ 2 * cond false units_in_one 0 + figure vs g % 2
    as-false = omega (arith, stored)

    pub right-same : SameBefore vs marks rs g
    right-same = stored_same vs marks g begun met product workable gate-there marks-there twice walk-there shared.worked false word p as-false step

    pub right-marks : Marks rs marks
    right-marks = same.marks-same vs marks rs g right-same marks-there

    pub right-stands : Stands rs begun (met + 1) (g + 1) p
    right-stands =
        let none : begun + bit_of false * 2 ^ met ≡ begun = omega arith in
        subst (λ (x : ℕ). Stands rs x (met + 1) (g + 1) p) none
        (stands-more vs marks g begun met product workable gate-there marks-there twice walk-there shared.worked false word p as-false step)

    module _ (xs : List ℕ) (after : SameBefore rs marks xs (g + 1)) (other q : ℕ) (restored : other ≡ 2 * units_in_one + figure vs g % 2)
        (taken : q ≡ output_step units_in_one product (units_in_one - figure vs g / 2)) where
      abbrev ys : List ℕ
      ys = set xs (figure_index g) other

      abbrev zs : List ℕ
      zs = set vs (figure_index g) other

      there : SameBefore vs marks zs g
      there = stored_same vs marks g begun met product workable gate-there marks-there twice walk-there shared.worked true other q restored taken

      between : SameBefore zs marks ys (g + 1)
      between = same.same-restored vs marks xs g word other gate-there (omega (arith, restored)) after

      pub wrong-same : SameBefore vs marks ys g
      wrong-same = same.same_then vs marks zs ys g (g + 1) (omega arith) there between

      pub wrong-marks : Marks ys marks
      wrong-marks = same.marks-same vs marks ys g wrong-same marks-there

      pub wrong-stands : Stands ys (begun + 2 ^ met) (met + 1) (g + 1) q
      wrong-stands =
          let one : begun + bit_of true * 2 ^ met ≡ begun + 2 ^ met = omega arith in
          same.stands_same zs marks ys (g + 1) between (begun + 2 ^ met) (met + 1) q
          (subst (λ (x : ℕ). Stands zs x (met + 1) (g + 1) q) one
          (stands-more vs marks g begun met product workable gate-there marks-there twice walk-there shared.worked true other q restored taken))

      -- both sums make the sum before the gate
      pub sums-there : sum_begun rs begun (met + 1) + sum_begun ys (begun + 2 ^ met) (met + 1) ≡ sum_begun ws begun met
      sums-there =
          ap₂ ◌+◌ (same.sum-same-begun vs marks rs g right-same begun (met + 1)) (same.sum-same-begun vs marks ys g wrong-same (begun + 2 ^ met) (met + 1))
          ∙ sym (sum_both vs begun met met-there)
          ∙ same.sum-same-begun ws marks vs b to.same begun met

      pub walk_same : (left : List ℕ) → SameBefore ys marks left (g + 1) → SameBefore ws marks left b
      walk_same left last =
          same.same_then ws marks vs left b g from to.same (same.same_then vs marks ys left g (g + 1) (omega arith) wrong-same last)

-- ---- at the end

module _ (vs : List ℕ) (workable : Workable vs) (begun met b product : ℕ) (stands : Stands vs begun met b product) where
  itself : Begins begun met begun
  itself = mod-eq_of_lt stands.small

  pub product-fits : product ≤ units_in_one
  product-fits = rw (stands.products begun itself) (product-at-most vs workable begun b)

  pub figure-there : b ≡ gates vs → product_from (source_word vs) product (output_words vs) ≡ sum_begun vs begun met
  figure-there end =
      let words = rw end at (stands.words begun itself) in
      figure-by vs begun (source_word vs) product
      (λ k inside.
      let o = get_or (output_words vs) k 0 in
      ap failure_of (source-seen vs workable begun (gates vs) words o (output-below vs workable.net k inside) (live-output vs workable.net k inside))
      ∙ failure-of-word (seen_failure vs begun o) (get_or (right_values (units_net vs) (pattern vs)) o false))
      (stands.products begun itself ∙ ap (product_to vs begun) end)
      ∙ sym (sum_one vs begun met (stands.number ∙ ap (λ (j : ℕ). length (shared_to vs j)) end ∙ ap length (sym (shared-are vs))))

-- nothing is walked yet
pub stands-none : (ws : List ℕ) → Stands ws 0 0 0 units_in_one
unfolding product_to shared_to
stands-none ws =
    record {
      number = refl;
      small = omega (arith, pow-zero 2);
      products = λ m begins. refl;
      words = λ m begins j less. absurd (omega arith);
    }
