-- The errors of an image that is opened: each figure, and the average with weight 1 for every pattern, in units and as it is printed. Assumes nothing.
use Prim.Native.Nat.{ℕ, zero, suc, ◌+◌, ◌*◌, ◌^◌, ◌<◌}
use mathlib.Core.Bool.{false}
use mathlib.Core.List.{List}
use mathlib.Core.Path.{◌≡◌, refl, sym, ap, subst, ◌∙◌}
use native.Mathlib.Nat.{one-le-pow}
use native.Mathlib.Omega.{arith}
use lib.ListN.{length, replicate, length-replicate, get_or-replicate}
use lib.Pow.{pow_pos}
use Rattle.lists.specs.Lists.{all_zero}
use Rattle.refusal.specs.Judgement.{Fine}
use Rattle.rounding.specs.Rounding.{units_in_one, Near}
use Rattle.chance.specs.Number.{chance_scale}
use Rattle.decimals.specs.Decimals.{parts_in_one}
use Rattle.decimals.specs.Statements.{WithinHalves}
use Rattle.decimals.proofs.Shown.{shown-holds}
use Rattle.bound.specs.Sharp.{error_halves}
use Rattle.bound.proofs.Average.{sharp-bound}
use Rattle.area.specs.Layout.{inputs}
use Rattle.image.specs.Image.{image_inputs}
use Rattle.image.specs.Netlist.{image_net}
use Rattle.calls.specs.Judgements.{WeightsFit, image_judgement}
use Rattle.book.specs.Book.{image_book}
use Rattle.book.specs.Statement.{WithinSharp}
use Rattle.chance.proofs.Exact.{scale-pos}
use Rattle.book.proofs.Agree.{well-formed, kinds-honest}
use Rattle.book.proofs.Average.{reliability-for, average-sharp, total-positive}
use Rattle.comparison.specs.Images.{new_area, opened_words, ones, equal_average}
use Rattle.comparison.proofs.Opened.{opened-inputs, agree}
use Rattle.comparison_meaning.specs.Statements.{exact_total, exact_parts, exact_weight, ErrorsHold, PrintedHolds}

not-all-zero : (k : ℕ) → 0 < k → all_zero (replicate k 1) ≡ false
not-all-zero zero l = absurd (omega arith)
not-all-zero (suc k) l = refl

-- weights of 1 pass refusal 12
ones-fit : (bs : List ℕ) (n : ℕ) → n ≡ image_inputs bs → WeightsFit n (ones bs)
ones-fit bs n e =
    let k = 2 ^ image_inputs bs in
    let long : length (ones bs) ≡ k = length-replicate {A = ℕ} k 1 in
    record {
      one_each = long ∙ ap (λ (i : ℕ). 2 ^ i) (sym e);
      small = λ q less. omega (arith, get_or-replicate {A = ℕ} k q 1 0 (omega (arith, long)));
      some = not-all-zero k (pow_pos (image_inputs bs));
    }

pub errors-hold : ErrorsHold
unfolding equal_average
errors-hold bs fine =
    let held = agree bs fine in
    let size = length new_area in
    let ws = opened_words bs in
    let book = image_book bs in
    record {
      figures =
          λ q less.
          subst (λ (units : ℕ). WithinSharp units (record { net = image_net bs; pattern = q }))
          (sym (reliability-for size ws book held q (subst (λ (n : ℕ). q < 2 ^ n) (sym (opened-inputs bs)) less)))
          (sharp-bound units_in_one chance_scale (omega arith) scale-pos (image_net bs) (well-formed size ws book held) held.single
          (kinds-honest size ws book held)
          q);
      average = average-sharp size ws book held (ones bs) (ones-fit bs (inputs ws) (opened-inputs bs));
    }

-- a bound with the weights and the parts as one factor
near_parts : (s a w d x : ℕ) → Near (s * w * d) (2 * (a * w * d)) x → Near (s * (w * d)) (2 * (a * (w * d))) x
near_parts s a w d x near = record { up = omega (arith, near.up); down = omega (arith, near.down) }

-- the average's, with both as one divisor
pub average-near : (bs : List ℕ) → image_judgement bs ≡ Fine
    → WithinHalves units_in_one (equal_average bs) (error_halves (image_net bs) + 1) (exact_total bs) (exact_weight bs * exact_parts bs)
average-near bs fine =
    near_parts (error_halves (image_net bs) + 1) (equal_average bs) (exact_weight bs) (exact_parts bs) (2 * (units_in_one * exact_total bs))
    (errors-hold bs fine).average

-- and so it is for what is printed of it
pub printed-holds : PrintedHolds
printed-holds bs fine =
    shown-holds units_in_one parts_in_one (equal_average bs) (error_halves (image_net bs) + 1) (exact_total bs) (exact_weight bs * exact_parts bs) (omega arith)
    (average-near bs fine)

-- the divisors are above 0
pub some-parts : (bs : List ℕ) → 0 < exact_parts bs
some-parts bs = one-le-pow (length (image_net bs).gates) chance_scale scale-pos

pub some-weight : (bs : List ℕ) → 0 < exact_weight bs
unfolding image_net
some-weight bs = total-positive (image_net bs) (ones bs) (ones-fit bs (image_net bs).inputs refl)
