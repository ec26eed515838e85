-- What is known of the figures after a further row. Assumes nothing.
use Prim.Native.Nat.{ℕ, ◌+◌, ◌-◌, ◌^◌, ◌≤◌, ◌<◌}
use mathlib.Core.List.{List}
use mathlib.Core.Logic.{by_cases}
use mathlib.Core.Path.{◌≡◌, subst, ◌∙◌}
use native.Mathlib.Decide.{dec_lt}
use native.Mathlib.Omega.{arith}
use borrow.Rule.Slice.PartMut.{put_mid}
use lib.ListN.{length, get_or}
use Rattle.std.proofs.Common.{rules}
use Rattle.std.proofs.lemmas.List.{places}
use Rattle.area.specs.Layout.{inputs}
use Rattle.rows.specs.Rows.{row_length}
use Rattle.average.specs.Walked.{RowRight}
use Rattle.calls.specs.Calls.{reliability_for}
use Rattle.patterns.specs.Known.{Known}

-- once all patterns are passed, more are known than there are
pub past-known : (ws figures : List ℕ) (k m : ℕ) → 2 ^ inputs ws ≤ k → Known ws figures k → Known ws figures m
past-known ws figures k m past known = record { long = known.long; each = λ q less inside. known.each q (omega arith) inside }

module _ (a k : ℕ) (xs ys : List ℕ) (few : a + k ≤ length xs) (whole : length ys ≡ k) where
  put-before : (q : ℕ) → q < a → get_or (put_mid a k xs ys) q 0 ≡ get_or xs q 0
  put-before q before = search (rules, places)

  put-new : (i : ℕ) → i < k → get_or (put_mid a k xs ys) (a + i) 0 ≡ get_or ys i 0
  put-new i less = search (rules, places)

  put_long : length (put_mid a k xs ys) ≡ length xs
  put_long = search (rules, places)

-- a row in its place
pub row-known : (ws old row : List ℕ) (start : ℕ) → start + row_length ≤ length old → length row ≡ row_length → Known ws old start → RowRight ws start row
    → Known ws (put_mid start row_length old row) (start + row_length)
row-known ws old row start few whole known each =
    record {
      long = rw (put_long start row_length old row few whole) known.long;
      each =
          λ q less inside.
          by_cases (dec_lt q start) (λ before. put-before start row_length old row few whole q before ∙ known.each q before inside)
          (λ after.
          let place : start + (q - start) ≡ q = omega arith in
          let entry : q - start < row_length = omega arith in
          subst (λ (i : ℕ). get_or (put_mid start row_length old row) i 0 ≡ reliability_for ws i) place
          (put-new start row_length old row few whole (q - start) entry ∙ each (q - start) entry (omega arith)));
    }
