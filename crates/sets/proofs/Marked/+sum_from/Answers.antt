-- `sets::sum_from` meets its contract: the sets that suppose the next shared gate right, and those that suppose it wrong, each from the words behind it. The
-- measure is the gates that are left. Assumes nothing.
use Prim.Native.Nat.{ℕ, ◌+◌, ◌-◌, ◌*◌, ◌/◌, ◌%◌, ◌^◌, ◌≤◌, ◌<◌}
use mathlib.Core.List.{List}
use mathlib.Core.Path.{◌≡◌, sym, ap, ap₂, ◌∙◌}
use native.Mathlib.Omega.{arith}
use lib.Arith.{lt_of_le-ne}
use lib.ListN.{length, set}
use lib.Pow.{shl_exact, pow_mono}
use Rattle.rounding.specs.Rounding.{units_in_one}
use Rattle.figure.specs.Figure.{output_step}
use Rattle.area.specs.Layout.{inputs, gates, figure_index, figure, output_words, source_word}
use Rattle.area.specs.Rules.{Workable}
use Rattle.area.specs.Figures.{product_from}
use Rattle.area.proofs.Words.{gate-inside}
use Rattle.sets.specs.Sets.{most_shared, shared_of}
use Rattle.sets.specs.Branches.{Marks, NextMarked, Stands, sum_begun, SameBefore, WorkedTo, SharedAt}
use Rattle.sets.proofs.Same as same
use Rattle.sets.proofs.Supposed as both
use Rattle.sets.proofs.Worked.{stands-there}
use Rattle.sets.proofs.Marked.+sum_from.Goals.{After-figure-own}
use Rattle.sets.proofs.Marked.+sum_from.Goals as goal

-- the gates are worked out up to gate g
record Walk (ws marks vs : List ℕ) (b g begun met product : ℕ) : Type 0 where
  known : Marks ws marks
  few : length (shared_of ws) ≤ most_shared
  stands : Stands ws begun met b product
  to : WorkedTo ws marks vs b g
  later : b ≤ g
  within : g ≤ gates ws

-- what a call asks whose measure is below t
abbrev Asked : ℕ → List ℕ → List ℕ → List ℕ → ℕ → ℕ → ℕ → ℕ → Type 0
Asked t us marks next b product met begun =
    (gates us - b < t)
    × ((Workable us × Marks us marks × (length (shared_of us) ≤ most_shared)) × (NextMarked marks next (inputs us) (gates us) 0 × ((b ≤ gates us) × Stands us begun met b product)))

module _ (ws marks vs : List ℕ) (b g begun met product : ℕ) (walk : Walk ws marks vs b g begun met product) where
  there : Stands vs begun met g product
  there = stands-there ws marks vs b g begun met product walk.within walk.known walk.stands walk.to walk.later

  fits : product ≤ units_in_one
  fits = both.product-fits vs walk.to.same.workable begun met g product there

  held : gates vs ≡ gates ws
  held = same.gates-same ws marks vs b walk.to.same

  -- none is left
  none-left : g ≡ gates vs → product_from (source_word vs) product (output_words vs) ≡ sum_begun ws begun met
  none-left end =
      both.figure-there vs walk.to.same.workable begun met g product there end ∙ same.sum-same-begun ws marks vs b walk.to.same begun met

  -- one is: its own figure
  module _ (inside : g < gates ws) (shared : SharedAt ws marks vs g) where
    gate : g < gates vs
    gate = omega (arith, inside, held)

    room : figure_index g < length vs
    room = gate-inside vs walk.to.same.workable.net g gate

    met_small : met < most_shared
    met_small =
        omega (
          arith,
          both.met-there ws marks vs b g begun met product walk.known walk.stands walk.to walk.later inside shared,
          ap length (same.shared_same ws marks vs b walk.to.same),
          walk.few,
        )

    small : g + 1 ≤ 1_024
    small = omega (arith, gate, walk.to.same.workable.net.gates_fit)

    figure_fits : figure vs g / 2 ≤ units_in_one
    figure_fits = omega (arith, walk.to.same.workable.figures.figure_fits g gate)

    shift : 1 * 2 ^ met % 2 ^ 64 ≡ 2 ^ met
    shift = shl_exact {a = 1} 1 met 64 (omega arith) (omega (arith, met_small)) ∙ omega arith

    begun_small : begun + 2 ^ met ≤ 512
    begun_small = omega (arith, walk.stands.small, pow_mono {i = met} {j = most_shared} (omega (arith, met_small)))

    -- the walk behind it, where it is supposed right
    module _ (own p : ℕ) (own_is : own ≡ figure vs g) (step_is : p ≡ output_step units_in_one product (own / 2)) where
      abbrev us : List ℕ
      us = set vs (figure_index g) (own % 2)

      stored : own % 2 ≡ figure vs g % 2
      stored = ap (λ (x : ℕ). x % 2) own_is

      step : p ≡ output_step units_in_one product (figure vs g / 2)
      step = step_is ∙ ap (λ (x : ℕ). output_step units_in_one product (x / 2)) own_is

      as_right : SameBefore vs marks us g
      as_right = both.right-same ws marks vs b g begun met product walk.known walk.stands walk.to walk.later inside shared (own % 2) p stored step

      right_marks : Marks us marks
      right_marks = both.right-marks ws marks vs b g begun met product walk.known walk.stands walk.to walk.later inside shared (own % 2) p stored step

      right_stands : Stands us begun (met + 1) (g + 1) p
      right_stands = both.right-stands ws marks vs b g begun met product walk.known walk.stands walk.to walk.later inside shared (own % 2) p stored step

      right_all : SameBefore ws marks us b
      right_all = same.same_then ws marks vs us b g walk.later walk.to.same as_right

      right_asked : (t : ℕ) (next : List ℕ) → gates ws - b ≡ t → NextMarked marks next (inputs ws) (gates ws) 0 → Asked t us marks next (g + 1) p (met + 1) begun
      right_asked t next measure found =
          let same_gates = same.gates-same ws marks us b right_all in (
            omega (arith, same_gates, inside, walk.later, measure),
            (
              (right_all.workable, right_marks, omega (arith, ap length (same.shared_same ws marks us b right_all), walk.few)),
              (same.next-same ws marks us b right_all next found, (omega (arith, same_gates, inside), right_stands)),
            ),
          )

      -- where it is supposed wrong
      module _ (xs : List ℕ) (after : SameBefore us marks xs (g + 1)) (q : ℕ) (taken_is : q ≡ output_step units_in_one product (units_in_one - own / 2)) where
        abbrev word : ℕ
        word = 2 * units_in_one + own % 2

        abbrev ys : List ℕ
        ys = set xs (figure_index g) word

        restored : word ≡ 2 * units_in_one + figure vs g % 2
        restored = ap (λ (x : ℕ). 2 * units_in_one + x) stored

        taken : q ≡ output_step units_in_one product (units_in_one - figure vs g / 2)
        taken = taken_is ∙ ap (λ (x : ℕ). output_step units_in_one product (units_in_one - x / 2)) own_is

        as_wrong : SameBefore vs marks ys g
        as_wrong =
            both.wrong-same ws marks vs b g begun met product walk.known walk.stands walk.to walk.later inside shared (own % 2) p stored step xs after word q
            restored taken

        wrong_marks : Marks ys marks
        wrong_marks =
            both.wrong-marks ws marks vs b g begun met product walk.known walk.stands walk.to walk.later inside shared (own % 2) p stored step xs after word q
            restored taken

        wrong_stands : Stands ys (begun + 2 ^ met) (met + 1) (g + 1) q
        wrong_stands =
            both.wrong-stands ws marks vs b g begun met product walk.known walk.stands walk.to walk.later inside shared (own % 2) p stored step xs after word q
            restored taken

        sums : sum_begun us begun (met + 1) + sum_begun ys (begun + 2 ^ met) (met + 1) ≡ sum_begun ws begun met
        sums =
            both.sums-there ws marks vs b g begun met product walk.known walk.stands walk.to walk.later inside shared (own % 2) p stored step xs after word q
            restored taken

        wrong_all : SameBefore ws marks ys b
        wrong_all = same.same_then ws marks vs ys b g walk.later walk.to.same as_wrong

        wrong_asked : (t : ℕ) (next : List ℕ) → gates ws - b ≡ t → NextMarked marks next (inputs ws) (gates ws) 0
            → Asked t ys marks next (g + 1) q (met + 1) (begun + 2 ^ met)
        wrong_asked t next measure found =
            let same_gates = same.gates-same ws marks ys b wrong_all in (
              omega (arith, same_gates, inside, walk.later, measure),
              (
                (wrong_all.workable, wrong_marks, omega (arith, ap length (same.shared_same ws marks ys b wrong_all), walk.few)),
                (same.next-same ws marks ys b wrong_all next found, (omega (arith, same_gates, inside), wrong_stands)),
              ),
            )

        added : (x y : ℕ) → x ≡ sum_begun us begun (met + 1) → y ≡ sum_begun ys (begun + 2 ^ met) (met + 1) → x + y ≡ sum_begun ws begun met
        added x y right wrong = ap₂ ◌+◌ right wrong ∙ sums

        left_same : (left : List ℕ) → SameBefore ys marks left (g + 1) → SameBefore ws marks left b
        left_same left last = same.same_then ws marks ys left b (g + 1) (omega (arith, walk.later)) wrong_all last

-- ---- the places

walk-there : {ws marks vs : List ℕ} {b g begun met product : ℕ} → Workable ws × Marks ws marks × (length (shared_of ws) ≤ most_shared)
    → (b ≤ gates ws) × Stands ws begun met b product → WorkedTo ws marks vs b g × (b ≤ g) × (g ≤ gates ws) → Walk ws marks vs b g begun met product
walk-there workable stands to = record { known = workable.1; few = workable.2; stands = stands.1; to = to.0; later = to.1; within = to.2 }

-- none is left
pub output_product-requires : goal.output_product-requires
output_product-requires t c =
    let walk = walk-there c.requires.workable c.requires.from_bound c.work_to_shared-gate.ensures.worked_to in
    (walk.to.same.workable, fits _ _ _ _ _ _ _ _ walk)

pub returns-then-gate-gates-clause-value : goal.returns-then-gate-gates-clause-value
returns-then-gate-gates-clause-value t c =
    let walk = walk-there c.requires.workable c.requires.from_bound c.work_to_shared-gate.ensures.worked_to in
    c.from.ensures ∙ c.output_product.ensures ∙ none-left _ _ _ _ _ _ _ _ walk (c.if-gate-gates.true ∙ c.gates.ensures)

-- one is
module _ (t : ℕ) (c : After-figure-own t) where
  abbrev ws : List ℕ
  ws = c.args.area.now

  abbrev vs : List ℕ
  vs = c.work_to_shared-gate.new.area

  abbrev g : ℕ
  g = c.work_to_shared-gate.result

  walk-here : Walk ws c.args.self.now.marks.now vs c.args.branch.from g c.args.branch.begun c.args.branch.met c.args.branch.product
  walk-here = walk-there c.requires.workable c.requires.from_bound c.work_to_shared-gate.ensures.worked_to

  within-net : g < gates ws
  within-net =
      let other : g ≡ gates vs → ⊥ = λ e. c.if-gate-gates.false (e ∙ sym c.gates.ensures) in
      lt_of_le-ne walk-here.within (λ e. other (e ∙ sym (held _ _ _ _ _ _ _ _ walk-here)))

  at-shared : SharedAt ws c.args.self.now.marks.now vs g
  at-shared = c.work_to_shared-gate.ensures.shared_at within-net

  few-met : c.args.branch.met < most_shared
  few-met = met_small _ _ _ _ _ _ _ _ walk-here within-net at-shared

  half : c.figure-own.result / 2 ≤ units_in_one
  half = rw c.figure-own.ensures (figure_fits _ _ _ _ _ _ _ _ walk-here within-net at-shared)

  shifted : 1 * 2 ^ c.args.branch.met % 2 ^ 64 ≡ 2 ^ c.args.branch.met
  shifted = shift _ _ _ _ _ _ _ _ walk-here within-net at-shared

-- it is supposed right
pub output_step-requires : goal.output_step-requires
output_step-requires t c =
    let e = (goal.at.output_step-requires t c).After-figure-own in
    (fits _ _ _ _ _ _ _ _ (walk-here t e), half t e)

pub overflow_add-as_right-2 : goal.overflow_add-as_right-2
overflow_add-as_right-2 t c = omega (arith, few-met t (goal.at.overflow_add-as_right-2 t c).After-figure-own)

pub sum_from-right-requires : goal.sum_from-right-requires
sum_from-right-requires t c =
    let e = (goal.at.sum_from-right-requires t c).After-figure-own in
    rw c.store_figure.ensures
    (right_asked _ _ _ _ _ _ _ _ (walk-here t e) (within-net t e) (at-shared t e) c.figure-own.result c.output_step.result c.figure-own.ensures
    c.output_step.ensures t c.args.self.now.next.now c.decreases c.requires.next_marked)

-- it is supposed wrong
pub output_step-requires-2 : goal.output_step-requires-2
output_step-requires-2 t c =
    let e = (goal.at.output_step-requires-2 t c).After-figure-own in
    (fits _ _ _ _ _ _ _ _ (walk-here t e), omega arith)

pub overflow_add-as_wrong-2 : goal.overflow_add-as_wrong-2
overflow_add-as_wrong-2 t c = omega (arith, few-met t (goal.at.overflow_add-as_wrong-2 t c).After-figure-own)

pub overflow_shl-as_wrong : goal.overflow_shl-as_wrong
overflow_shl-as_wrong t c = omega (arith, few-met t (goal.at.overflow_shl-as_wrong t c).After-figure-own)

pub overflow_add-as_wrong-3 : goal.overflow_add-as_wrong-3
overflow_add-as_wrong-3 t c =
    let e = (goal.at.overflow_add-as_wrong-3 t c).After-figure-own in
    omega (arith, shifted t e, begun_small _ _ _ _ _ _ _ _ (walk-here t e) (within-net t e) (at-shared t e))

pub sum_from-requires : goal.sum_from-requires
sum_from-requires t c =
    let e = (goal.at.sum_from-requires t c).After-figure-own in
    let after = rw c.store_figure.ensures at c.sum_from-right.ensures.same_before in
    rw (c.store_figure-2.ensures, shifted t e)
    (wrong_asked _ _ _ _ _ _ _ _ (walk-here t e) (within-net t e) (at-shared t e) c.figure-own.result c.output_step.result c.figure-own.ensures
    c.output_step.ensures c.sum_from-right.new.area after c.output_step-2.result c.output_step-2.ensures t c.args.self.now.next.now c.decreases
    c.requires.next_marked)

-- both together
pub overflow_add-result : goal.overflow_add-result
overflow_add-result t c =
    let e = (goal.at.overflow_add-result t c).After-figure-own in
    let right = rw c.store_figure.ensures at c.sum_from-right.ensures in
    let wrong = rw (c.store_figure-2.ensures, shifted t e) at c.sum_from.ensures in
    let all : c.sum_from-right.result + c.sum_from.result ≡ sum_begun c.args.area.now c.args.branch.begun c.args.branch.met =
    added _ _ _ _ _ _ _ _ (walk-here t e) (within-net t e) (at-shared t e) c.figure-own.result c.output_step.result c.figure-own.ensures
    c.output_step.ensures c.sum_from-right.new.area right.same_before c.output_step-2.result c.output_step-2.ensures _ _ right.value
    wrong.value
    in
    omega (arith, all, both.sum-most c.args.area.now c.args.branch.begun c.args.branch.met c.requires.workable.0 c.requires.workable.2)

pub returns-clause-value : goal.returns-clause-value
returns-clause-value t c =
    let e = (goal.at.returns-clause-value t c).After-figure-own in
    let right = rw c.store_figure.ensures at c.sum_from-right.ensures in
    let wrong = rw (c.store_figure-2.ensures, shifted t e) at c.sum_from.ensures in
    added _ _ _ _ _ _ _ _ (walk-here t e) (within-net t e) (at-shared t e) c.figure-own.result c.output_step.result c.figure-own.ensures
    c.output_step.ensures c.sum_from-right.new.area right.same_before c.output_step-2.result c.output_step-2.ensures _ _ right.value
    wrong.value

pub returns-clause-same_before : goal.returns-clause-same_before
returns-clause-same_before t c =
    let e = (goal.at.returns-clause-same_before t c).After-figure-own in
    let after = rw c.store_figure.ensures at c.sum_from-right.ensures.same_before in
    left_same _ _ _ _ _ _ _ _ (walk-here t e) (within-net t e) (at-shared t e) c.figure-own.result c.output_step.result c.figure-own.ensures
    c.output_step.ensures c.sum_from-right.new.area after c.output_step-2.result c.output_step-2.ensures _
    (rw c.store_figure-2.ensures at c.sum_from.ensures.same_before)
