-- The verdict case by case, counts of verdicts one pattern after another, and the mean of all patterns. Assumes nothing.
use Prim.Native.Nat.{ℕ, zero, suc, ◌+◌, ◌*◌, ◌^◌, ◌≤◌, ◌<◌}
use mathlib.Core.Bool.{Bool, true, false, cond}
use mathlib.Core.List.{List}
use mathlib.Core.Path.{◌≡◌, refl, sym, ap, ap₂, subst, ◌∙◌}
use native.Mathlib.Nat.{one-mul}
use native.Mathlib.Omega.{arith}
use borrow.Author.Tests.{eqb-true}
use lib.Dec.{eqb}
use lib.ListN.{get_or, replicate, get_or-replicate}
use Rattle.lists.specs.Lists.{sum_below}
use Rattle.lists.proofs.Sums.{sum_same}
use Rattle.rounding.specs.Rounding.{round_div}
use Rattle.figure.specs.Figure.{bit_of}
use Rattle.area.specs.Layout.{inputs}
use Rattle.calls.specs.Calls.{reliability_for, average_of}
use Rattle.comparison.specs.declared.Verdict.{Verdict}
use Rattle.comparison.specs.declared.Verdict.TheVariants.{First, Second, Undecided}
use Rattle.comparison.specs.declared.Module.{Module}
use Rattle.comparison.specs.declared.Counts.{Counts}
use Rattle.comparison.specs.Standing.{Patterns}
use Rattle.std.specs.Prelude.{Some, None}
use Rattle.comparison.specs.Standing.{done}
use Rattle.comparison.specs.Standing.{beyond, verdict, same_verdict, both_errors, how_often, counts_by, pattern_verdict, patterns_between, averages_verdict}
use Rattle.comparison.specs.Standing.{answered}

-- ---- the verdict

module _ (slack a b : ℕ) where
  pub first-higher : beyond slack a b ≡ true → verdict slack a b ≡ First
  unfolding verdict
  first-higher e = rw e refl

  pub second-higher : beyond slack a b ≡ false → beyond slack b a ≡ true → verdict slack a b ≡ Second
  unfolding verdict
  second-higher e f = rw (e, f) refl

  pub none-higher : beyond slack a b ≡ false → beyond slack b a ≡ false → verdict slack a b ≡ Undecided
  unfolding verdict
  none-higher e f = rw (e, f) refl

-- ---- counts of verdicts

pub counts-are : (c : Counts) (f : ℕ → Verdict) (k : ℕ) → c.first ≡ how_often First f k → c.second ≡ how_often Second f k
    → c.neither ≡ how_often Undecided f k
    → c ≡ counts_by f k
counts-are c f k e g h =
    ap (λ (x : ℕ). record { first = x; second = c.second; neither = c.neither }) e
    ∙ ap₂ (λ (y z : ℕ). record { first = how_often First f k; second = y; neither = z }) g h

-- one pattern more
pub one-counted : (v : Verdict) (f : ℕ → Verdict) (q n : ℕ) (w : Verdict) → w ≡ f q → n ≡ how_often v f q
    → n + bit_of (same_verdict v w) ≡ how_often v f (q + 1)
one-counted v f q n w e before =
    let next : q + 1 ≡ suc q = omega arith in
    ap₂ ◌+◌ before (ap (λ (x : Verdict). bit_of (same_verdict v x)) e) ∙ sym (ap (how_often v f) next)

-- a verdict counts at most one
pub at_most_one : (b : Bool) → bit_of b ≤ 1
at_most_one true = omega arith
at_most_one false = omega arith

-- only the patterns' figures matter
pub counts_same : (f g : ℕ → Verdict) (k : ℕ) → ((q : ℕ) → q < k → f q ≡ g q) → counts_by f k ≡ counts_by g k
counts_same f g k h =
    let each : (v : Verdict) → how_often v f k ≡ how_often v g k
    = λ v. sum_same (λ q. bit_of (same_verdict v (f q))) (λ q. bit_of (same_verdict v (g q))) k
    (λ q less. ap (λ (x : Verdict). bit_of (same_verdict v x)) (h q less)) in
    counts-are (counts_by f k) g k (each First) (each Second) (each Undecided)

counted_same : (b : Bool) (x y z : Patterns) → (b ≡ true → x ≡ y) → cond b x z ≡ cond b y z
counted_same true x y z h = h refl
counted_same false x y z h = refl

patterns-same : (m k : Module) (r s t u : ℕ → ℕ) → ((q : ℕ) → q < 2 ^ m.inputs → r q ≡ t q) → ((q : ℕ) → q < 2 ^ k.inputs → s q ≡ u q)
    → patterns_between m r k s ≡ patterns_between m t k u
unfolding patterns_between
patterns-same m k r s t u e g =
    counted_same (eqb m.inputs k.inputs) _ _ None
    (λ same.
    let alike : m.inputs ≡ k.inputs = eqb-true m.inputs k.inputs same in
    ap Some
    (counts_same (pattern_verdict m r k s) (pattern_verdict m t k u) (2 ^ m.inputs)
    (λ q less. ap₂ (verdict (both_errors m k)) (e q less) (g q (subst (λ (n : ℕ). q < 2 ^ n) alike less)))))

-- ---- the mean

ones-sum : (k : ℕ) → sum_below k (λ q. 1) ≡ k
ones-sum zero = refl
ones-sum (suc k) = omega (arith, ones-sum k)

-- with weight 1 for every pattern the average is the mean
mean-is : (ws : List ℕ) (n : ℕ) → inputs ws ≡ n
    → average_of ws (replicate (2 ^ n) 1) ≡ round_div (sum_below (2 ^ n) (reliability_for ws)) (2 ^ n)
unfolding average_of
mean-is ws n e =
    let weights : List ℕ = replicate (2 ^ n) 1 in
    let one : (q : ℕ) → q < 2 ^ n → get_or weights q 0 ≡ 1 = λ q less. get_or-replicate (2 ^ n) q 1 0 less in
    rw e
    (ap₂ round_div
    (sum_same (λ q. get_or weights q 0 * reliability_for ws q) (reliability_for ws) (2 ^ n)
    (λ q less. ap (λ (w : ℕ). w * reliability_for ws q) (one q less) ∙ one-mul (reliability_for ws q)))
    (sum_same (λ q. get_or weights q 0) (λ q. 1) (2 ^ n) one ∙ ones-sum (2 ^ n)))

-- the figures of all patterns have the average as their mean
pub mean-average : (ws figures : List ℕ) (n count : ℕ) → inputs ws ≡ n → count ≡ 2 ^ n
    → ((q : ℕ) → q < 2 ^ n → get_or figures q 0 ≡ reliability_for ws q)
    → round_div (sum_below count (λ q. get_or figures q 0)) count ≡ average_of ws (replicate (2 ^ n) 1)
mean-average ws figures n count e all each =
    rw all
    (ap (λ (sum : ℕ). round_div sum (2 ^ n)) (sum_same (λ q. get_or figures q 0) (reliability_for ws) (2 ^ n) each) ∙ sym (mean-is ws n e))

-- ---- modules

pub module-is : (m k : Module) → (m.inputs ≡ k.inputs) × (m.gates ≡ k.gates) × (m.outputs ≡ k.outputs) × (m.live ≡ k.live)
    × (m.average ≡ k.average) × (m.error ≡ k.error)
    → m ≡ k
module-is m k e =
    ap₂ (λ (a b : ℕ). record { inputs = a; gates = b; outputs = m.outputs; live = m.live; average = m.average; error = m.error }) e.0 e.1
    ∙ ap₂ (λ (a b : ℕ). record { inputs = k.inputs; gates = k.gates; outputs = a; live = b; average = m.average; error = m.error }) e.2 e.3
    ∙ ap₂ (λ (a b : ℕ). record { inputs = k.inputs; gates = k.gates; outputs = k.outputs; live = k.live; average = a; error = b }) e.4 e.5

-- only the figures of patterns that there are matter
pub answered-same : (m k : Module) (r s t u : ℕ → ℕ) → ((q : ℕ) → q < 2 ^ m.inputs → r q ≡ t q) → ((q : ℕ) → q < 2 ^ k.inputs → s q ≡ u q)
    → answered m r k s ≡ answered m t k u
answered-same m k r s t u e g = ap (done (averages_verdict m k) m k) (patterns-same m k r s t u e g)
