-- The weighted sum: its bounds, the average that comes of it, and what a block of patterns adds to it. Assumes nothing.
use Prim.Native.Nat.{ℕ, zero, suc, ◌+◌, ◌-◌, ◌*◌, ◌^◌, ◌≤◌, ◌<◌}
use mathlib.Core.Bool.{true}
use mathlib.Core.List.{List}
use mathlib.Core.Logic.{by_cases}
use mathlib.Core.Path.{◌≡◌, sym, ap, ◌∙◌}
use native.Mathlib.Decide.{dec_le, dec_lt}
use native.Mathlib.Nat.{add-zero, zero-mul, mul-le-mul_right, mul_comm}
use native.Mathlib.Omega.{arith}
use lib.ListN.{length, get_or, set, take, drop, get_or-eq_default}
use lib.Pow.{pow_mono}
use Rattle.lists.specs.Lists.{sum_below, all_zero}
use Rattle.lists.proofs.Parts.{part_at}
use Rattle.lists.proofs.Every.{zero-holds}
use Rattle.lists.proofs.Sums.{sum_same, sum_zeros, sum-bounded, sum-scaled}
use Rattle.rounding.specs.Rounding.{units_in_one, round_div}
use Rattle.rounding.proofs.Laws.{at_most}
use Rattle.area.specs.Layout.{most_inputs, most_patterns, largest_weight, inputs, pattern_index}
use Rattle.area.specs.Rules.{Workable}
use Rattle.work.proofs.Sound.{workable-store-pattern, workable-work-all}
use Rattle.calls.specs.Judgements.{WeightsFit}
use Rattle.calls.specs.Calls.{reliability_for, average_of}
use Rattle.average.specs.WeightedSum.{weighted_to, BlockAdds}

-- no reliability passes U
pub reliability_fits : (ws : List ℕ) (q : ℕ) → Workable ws → q < 2 ^ inputs ws → reliability_for ws q ≤ units_in_one
unfolding reliability_for
reliability_fits ws q workable l = (workable-work-all (set ws pattern_index q) (workable-store-pattern ws q workable l)).figures.reliability_fits

-- ---- what blocks add

-- a sum in two parts
sum-parts : (F : ℕ → ℕ) (a b : ℕ) → sum_below (a + b) F ≡ sum_below a F + sum_below b (λ i. F (a + i))
sum-parts F a zero = ap (λ (n : ℕ). sum_below n F) (add-zero a) ∙ sym (add-zero (sum_below a F))
sum-parts F a (suc b) =
    let next : a + suc b ≡ suc (a + b) = omega arith in
    omega (arith, ap (λ (n : ℕ). sum_below n F) next, sum-parts F a b)

module _ (ws weights : List ℕ) where
  -- weights that are zero from j on add nothing
  weighted-zeros : (j k : ℕ) → ((q : ℕ) → j ≤ q → q < j + k → get_or weights q 0 ≡ 0) → weighted_to ws weights (j + k) ≡ weighted_to ws weights j
  unfolding weighted_to
  weighted-zeros j k h =
      sum_zeros (λ q. get_or weights q 0 * reliability_for ws q) j k
      (λ q from to. ap (λ (w : ℕ). w * reliability_for ws q) (h q from to) ∙ zero-mul (reliability_for ws q))

  -- past the last weight the sum stays
  pub weighted-past : (k : ℕ) → length weights ≤ k → weighted_to ws weights k ≡ weighted_to ws weights (length weights)
  weighted-past k l =
      let n = length weights in
      let all : k ≡ n + (k - n) = omega arith in
      ap (weighted_to ws weights) all ∙ weighted-zeros n (k - n) (λ q from to. get_or-eq_default weights 0 from)

  -- patterns past the last add nothing
  pub past-adds : (first size : ℕ) → length weights ≤ first → BlockAdds ws weights first size 0
  past-adds first size past = omega (arith, weighted-past first past, weighted-past (first + size) (omega arith))

  -- reliabilities times weights add what their patterns add; past the last weight they may be any
  pub row-adds : (first size : ℕ) (row : ℕ → ℕ) → ((l : ℕ) → l < size → first + l < length weights → row l ≡ reliability_for ws (first + l))
      → BlockAdds ws weights first size (sum_below size (λ l. get_or weights (first + l) 0 * row l))
  unfolding weighted_to
  row-adds first size row h =
      let F : ℕ → ℕ = λ q. get_or weights q 0 * reliability_for ws q in
      let same : sum_below size (λ l. get_or weights (first + l) 0 * row l) ≡ sum_below size (λ l. F (first + l)) =
      sum_same (λ l. get_or weights (first + l) 0 * row l) (λ l. F (first + l)) size (λ l less.
      by_cases (dec_lt (first + l) (length weights)) (λ inside. ap (λ (r : ℕ). get_or weights (first + l) 0 * r) (h l less inside))
      (λ past.
      let none : get_or weights (first + l) 0 ≡ 0 = get_or-eq_default weights 0 {n = first + l} (omega arith) in
      let zero : (x : ℕ) → get_or weights (first + l) 0 * x ≡ 0 = λ x. ap (λ (w : ℕ). w * x) none ∙ zero-mul x in
      zero (row l) ∙ sym (zero (reliability_for ws (first + l))))) in
      omega (arith, same, sum-parts F first size)

  -- two blocks after each other
  pub both-add : (first a b x y : ℕ) → BlockAdds ws weights first a x → BlockAdds ws weights (first + a) b y → BlockAdds ws weights first (a + b) (x + y)
  both-add first a b x y h g =
      let whole : first + a + b ≡ first + (a + b) = omega arith in
      omega (arith, h, g, ap (weighted_to ws weights) whole)

  -- a block whose weights are all zero; the last one may be shorter
  zero-weight : (first end size : ℕ) → first ≤ end → (end < length weights → end ≡ first + size)
      → all_zero (take (end - first) (drop first weights)) ≡ true → (q : ℕ) → first ≤ q → q < first + size → get_or weights q 0 ≡ 0
  zero-weight first end size from whole e q low high =
      let place : first + (q - first) ≡ q = omega arith in
      by_cases (dec_lt q end)
      (λ inside.
      ap (λ (i : ℕ). get_or weights i 0) (sym place)
      ∙ sym (part_at weights first (end - first) (q - first) (omega arith))
      ∙ zero-holds (take (end - first) (drop first weights)) e (q - first))
      (λ past.
      by_cases (dec_lt end (length weights)) (λ short. absurd (omega (arith, whole short))) (λ all. get_or-eq_default weights 0 (omega arith)))

  pub block-empty : (first end size : ℕ) → first ≤ end → (end < length weights → end ≡ first + size)
      → all_zero (take (end - first) (drop first weights)) ≡ true → BlockAdds ws weights first size 0
  block-empty first end size from whole e = omega (arith, weighted-zeros first size (zero-weight first end size from whole e))

-- ---- what fits

module _ (ws weights : List ℕ) (workable : Workable ws) (fit : WeightsFit (inputs ws) weights) where
  pub few-weights : length weights ≤ most_patterns
  few-weights = omega (arith, fit.one_each, pow_mono {i = inputs ws} {j = most_inputs} workable.net.inputs_fit)

  -- each term is at most weight × U
  pub weighted-fits : (k : ℕ) → k ≤ length weights → weighted_to ws weights k ≤ units_in_one * sum_below k (λ q. get_or weights q 0)
  unfolding weighted_to
  weighted-fits k l =
      sum-scaled (λ q. get_or weights q 0 * reliability_for ws q) (λ q. get_or weights q 0) units_in_one k
      (λ q less.
      let below : q < 2 ^ inputs ws = omega (arith, fit.one_each) in
      omega (
        arith,
        mul-le-mul_right {m = reliability_for ws q} {n = units_in_one} (get_or weights q 0) (reliability_fits ws q workable below),
        mul_comm (reliability_for ws q) (get_or weights q 0),
      ))

  pub total-fits : (k : ℕ) → k ≤ length weights → sum_below k (λ q. get_or weights q 0) ≤ most_patterns * largest_weight
  total-fits k l =
      let most : k ≤ most_patterns = omega (arith, few-weights) in
      omega (
        arith,
        sum-bounded (λ q. get_or weights q 0) largest_weight k (λ q less. fit.small q (omega arith)),
        mul-le-mul_right {m = k} {n = most_patterns} largest_weight most,
      )

  -- over any number of patterns
  pub weighted-limit : (k : ℕ) → weighted_to ws weights k ≤ units_in_one * (most_patterns * largest_weight)
  weighted-limit k =
      let inside : (j : ℕ) → j ≤ length weights → weighted_to ws weights j ≤ units_in_one * (most_patterns * largest_weight)
      = λ j l. omega (arith, weighted-fits j l, total-fits j l) in
      by_cases (dec_le k (length weights)) (inside k)
      (λ no. rw (weighted-past ws weights k (omega arith)) (inside (length weights) (omega arith)))

  -- the average as the code has it fits a figure
  pub average-is : average_of ws weights ≡ round_div (weighted_to ws weights (length weights)) (sum_below (length weights) (λ q. get_or weights q 0))
  unfolding average_of weighted_to
  average-is =
      ap
      (λ (k : ℕ). round_div (sum_below k (λ q. get_or weights q 0 * reliability_for ws q)) (sum_below k (λ q. get_or weights q 0)))
      (sym fit.one_each)

  pub average-fits : 0 < sum_below (length weights) (λ q. get_or weights q 0)
      → round_div (weighted_to ws weights (length weights)) (sum_below (length weights) (λ q. get_or weights q 0)) ≤ units_in_one
  average-fits some = at_most (weighted_to ws weights (length weights)) _ some units_in_one (weighted-fits (length weights) (omega arith))
