-- What stands higher is exactly higher: averages, and the patterns counted. Assumes nothing.
use Prim.Native.Nat.{ℕ, zero, suc, ◌+◌, ◌*◌, ◌^◌, ◌≤◌, ◌<◌}
use mathlib.Core.Bool.{Bool, true, false, cond}
use mathlib.Core.List.{List}
use mathlib.Core.Path.{◌≡◌, refl, subst}
use native.Mathlib.Nat.{mul-pos}
use native.Mathlib.Omega.{arith}
use borrow.Author.Tests.{lt-ltb, eqb-true}
use lib.Dec.{eqb}
use Rattle.lists.specs.Lists.{sum_below}
use Rattle.lists.proofs.Sums.{sum-scaled}
use Rattle.refusal.specs.Judgement.{Fine}
use Rattle.rounding.specs.Rounding.{units_in_one}
use Rattle.chance.specs.Number.{chance_scale}
use Rattle.figure.specs.Figure.{bit_of}
use Rattle.netlist.specs.Exact.{exact_sum}
use Rattle.bound.specs.Sharp.{error_halves}
use Rattle.image.specs.Image.{image_inputs}
use Rattle.image.specs.Netlist.{image_net}
use Rattle.calls.specs.Judgements.{image_judgement}
use Rattle.comparison.specs.declared.Verdict.{Verdict}
use Rattle.comparison.specs.declared.Verdict.TheVariants.{First, Second, Undecided}
use Rattle.comparison.specs.declared.Counts.{Counts}
use Rattle.std.specs.Prelude.{Some, None}
use Rattle.comparison.specs.Standing.{same_verdict, both_errors, how_often, counts_by, patterns_between}
use Rattle.comparison.specs.Images.{figures_of, equal_average, module_of}
use Rattle.comparison_meaning.specs.Statements.{exact_total, exact_parts, exact_weight, ExactlyHigher, higher_for, higher_count}
use Rattle.comparison_meaning.specs.Statements.{HigherMeansHigher, verdict_for, CountsMean, PatternsMeanHigher, AveragesDecide}
use Rattle.comparison_meaning.proofs.Order.{separate}
use Rattle.comparison_meaning.proofs.Errors.{errors-hold, average-near, some-parts, some-weight}
use Rattle.comparison_meaning.proofs.Verdicts.{decided-beyond}
use Rattle.comparison_meaning.proofs.Answers.{told}

-- averages further apart than both errors and half a unit each
average-higher : (bs cs : List ℕ) → image_judgement bs ≡ Fine → image_judgement cs ≡ Fine
    → 2 * equal_average cs + (error_halves (image_net bs) + error_halves (image_net cs) + 2) < 2 * equal_average bs
    → ExactlyHigher bs cs
average-higher bs cs fine also apart =
    let e = error_halves (image_net bs) in
    let f = error_halves (image_net cs) in
    separate units_in_one (equal_average bs) (equal_average cs) (e + 1) (f + 1) (exact_weight bs * exact_parts bs) (exact_weight cs * exact_parts cs) (exact_total bs)
    (exact_total cs)
    (mul-pos (some-weight bs) (some-parts bs))
    (mul-pos (some-weight cs) (some-parts cs))
    (omega arith)
    (average-near bs fine)
    (average-near cs also)

pub higher-means-higher : HigherMeansHigher
higher-means-higher bs cs m k p =
    let slack = both_errors (module_of bs) (module_of cs) + 2 in
    let means = decided-beyond slack (equal_average bs) (equal_average cs) in (
      λ e.
          let t = told bs cs First m k p e in
          average-higher bs cs t.first_fine t.second_fine (means.first t.verdict_is),
      λ e.
          let t = told bs cs Second m k p e in
          average-higher cs bs t.second_fine t.first_fine (omega (arith, means.second t.verdict_is)),
    )

pub averages-decide : AveragesDecide
averages-decide bs cs v m k p e =
    let t = told bs cs v m k p e in
    rw (← t.verdict_is, ← t.first_is, ← t.second_is)
    (decided-beyond (both_errors (module_of bs) (module_of cs) + 2) (equal_average bs) (equal_average cs))

-- figures of one pattern further apart than both errors
pattern-higher : (bs cs : List ℕ) → image_judgement bs ≡ Fine → image_judgement cs ≡ Fine → (q : ℕ) → q < 2 ^ image_inputs bs → q < 2 ^ image_inputs cs
    → 2 * figures_of cs q + (error_halves (image_net bs) + error_halves (image_net cs)) < 2 * figures_of bs q
    → higher_for bs cs q ≡ true
pattern-higher bs cs fine also q one other apart =
    lt-ltb _ _
    (separate units_in_one (figures_of bs q) (figures_of cs q) (error_halves (image_net bs)) (error_halves (image_net cs)) (exact_parts bs) (exact_parts cs)
    (exact_sum chance_scale (image_net bs) q)
    (exact_sum chance_scale (image_net cs) q)
    (some-parts bs)
    (some-parts cs)
    apart
    ((errors-hold bs fine).figures q one)
    ((errors-hold cs also).figures q other))

-- ---- the counts

-- where every pattern with this verdict passes a test, there are no more of them than pass it
few-with : (v : Verdict) (f : ℕ → Verdict) (test : ℕ → Bool) (k : ℕ) → ((q : ℕ) → q < k → bit_of (same_verdict v (f q)) ≤ bit_of (test q))
    → how_often v f k ≤ sum_below k (λ q. bit_of (test q))
few-with v f test k each =
    omega (
      arith,
      sum-scaled (λ q. bit_of (same_verdict v (f q))) (λ q. bit_of (test q)) 1 k (λ q less. omega (arith, each q less)),
    )

first_bit : (w : Verdict) (b : Bool) → (w ≡ First → b ≡ true) → bit_of (same_verdict First w) ≤ bit_of b
first_bit First b h = rw (h refl) (omega arith)
first_bit Second b h = omega arith
first_bit Undecided b h = omega arith

second-bit : (w : Verdict) (b : Bool) → (w ≡ Second → b ≡ true) → bit_of (same_verdict Second w) ≤ bit_of b
second-bit First b h = omega arith
second-bit Second b h = rw (h refl) (omega arith)
second-bit Undecided b h = omega arith

-- each pattern has one verdict
one-verdict : (w : Verdict) → bit_of (same_verdict First w) + bit_of (same_verdict Second w) + bit_of (same_verdict Undecided w) ≡ 1
one-verdict First = refl
one-verdict Second = refl
one-verdict Undecided = refl

all-verdicts : (f : ℕ → Verdict) (k : ℕ) → how_often First f k + how_often Second f k + how_often Undecided f k ≡ k
all-verdicts f zero = refl
all-verdicts f (suc k) = omega (arith, all-verdicts f k, one-verdict (f k))

module _ (bs cs : List ℕ) (fine : image_judgement bs ≡ Fine) (also : image_judgement cs ≡ Fine) (alike : image_inputs bs ≡ image_inputs cs) where
  abbrev count : ℕ
  count = 2 ^ image_inputs bs

  in_both : (q : ℕ) → q < count → q < 2 ^ image_inputs cs
  in_both q less = subst (λ (n : ℕ). q < 2 ^ n) alike less

  first-there : (q : ℕ) → q < count → verdict_for bs cs q ≡ First → higher_for bs cs q ≡ true
  first-there q less e =
      pattern-higher bs cs fine also q less (in_both q less)
      ((decided-beyond (both_errors (module_of bs) (module_of cs)) (figures_of bs q) (figures_of cs q)).first e)

  second-there : (q : ℕ) → q < count → verdict_for bs cs q ≡ Second → higher_for cs bs q ≡ true
  second-there q less e =
      pattern-higher cs bs also fine q (in_both q less) less
      (omega (arith, (decided-beyond (both_errors (module_of bs) (module_of cs)) (figures_of bs q) (figures_of cs q)).second e))

  first-few : how_often First (verdict_for bs cs) count ≤ higher_count bs cs
  first-few =
      few-with First (verdict_for bs cs) (higher_for bs cs) count
      (λ q less. first_bit (verdict_for bs cs q) (higher_for bs cs q) (first-there q less))

  second-few : how_often Second (verdict_for bs cs) count ≤ higher_count cs bs
  second-few =
      subst (λ (n : ℕ). how_often Second (verdict_for bs cs) count ≤ sum_below (2 ^ n) (λ q. bit_of (higher_for cs bs q))) alike
      (few-with Second (verdict_for bs cs) (higher_for cs bs) count
      (λ q less. second-bit (verdict_for bs cs q) (higher_for cs bs q) (second-there q less)))

  pub counts-mean : CountsMean bs cs (counts_by (verdict_for bs cs) count)
  counts-mean =
      record {
        alike = alike;
        counted = refl;
        first = first-there;
        second = second-there;
        first_many = first-few;
        second_many = second-few;
        all = all-verdicts (verdict_for bs cs) count;
      }

-- the patterns are counted only where the inputs are alike
counted-told : (b : Bool) (made n : Counts) → cond b (Some made) None ≡ Some n → (b ≡ true) × (made ≡ n)
counted-told true made n e = (refl, cc)
counted-told false made n e = (cc, cc)

pub patterns-mean-higher : PatternsMeanHigher
unfolding patterns_between
patterns-mean-higher bs cs v m k n e =
    let t = told bs cs v m k (Some n) e in
    let c = counted-told (eqb (image_inputs bs) (image_inputs cs)) _ n t.patterns_are in
    let alike : image_inputs bs ≡ image_inputs cs = eqb-true (image_inputs bs) (image_inputs cs) c.0 in
    subst (CountsMean bs cs) c.1 (counts-mean bs cs t.first_fine t.second_fine alike)
