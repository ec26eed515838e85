-- Words made zeros: those of sources from one on and before another, so that nothing changes any more, and the first counts. Assumes nothing.
use Prim.Native.Nat.{ℕ, ◌+◌, ◌-◌, ◌≤◌, ◌<◌}
use mathlib.Core.List.{List, ◌++◌}
use mathlib.Core.Path.{◌≡◌, ◌∙◌}
use native.Mathlib.Omega.{arith}
use borrow.Rule.Slice.PartMut.{put_mid}
use lib.ListN.{length, get_or, take, drop, replicate, length-take, length-drop, length-append, length-replicate, get_or-replicate, get_or-append}
use Rattle.std.proofs.Common.{rules}
use Rattle.std.proofs.lemmas.List.{places, drop_at}
use Rattle.area.specs.Layout.{most_sources}
use Rattle.counts.specs.Counts.{Unchanged}
use Rattle.counts.proofs.Windows.{by_order}

module _ (a k : ℕ) (xs ys : List ℕ) (few : a + k ≤ length xs) (whole : length ys ≡ k) where
  put-before : (q : ℕ) → q < a → get_or (put_mid a k xs ys) q 0 ≡ get_or xs q 0
  put-before q before = search (rules, places)

  put-new : (i : ℕ) → a ≤ i → i < a + k → get_or (put_mid a k xs ys) i 0 ≡ get_or ys (i - a) 0
  put-new i from less = search (rules, places)

  put-past : (q : ℕ) → a + k ≤ q → get_or (put_mid a k xs ys) q 0 ≡ get_or xs q 0
  put-past q past = search (rules, places)

  put_long : length (put_mid a k xs ys) ≡ length xs
  put_long = search (rules, places)

pub cleared : (from to : ℕ) (changed zeros : List ℕ) → from ≤ to → to ≤ most_sources → length changed ≡ most_sources → zeros ≡ replicate (length (take (to - from) (drop from changed))) 0
    → ((s : ℕ) → s < from → get_or changed s 0 ≡ 0) → ((s : ℕ) → to ≤ s → get_or changed s 0 ≡ 0) → Unchanged (put_mid from (to - from) changed zeros)
cleared from to changed zeros order few long zero before past =
    record {
      long = put_long from (to - from) changed zeros fits whole ∙ long;
      none =
          λ s.
          by_order s from (λ low. put-before from (to - from) changed zeros fits whole s low ∙ before s low)
          (λ high.
          by_order s to
          (λ inside.
          put-new from (to - from) changed zeros fits whole s high (omega arith)
          ∙ rw (zero, size) (get_or-replicate (to - from) (s - from) 0 0 (omega arith)))
          (λ over. put-past from (to - from) changed zeros fits whole s (omega arith) ∙ past s over));
    }
  where
    fits : from + (to - from) ≤ length changed
    fits = omega arith

    size : length (take (to - from) (drop from changed)) ≡ to - from
    size = simp (length-take, length-drop) (omega arith)

    whole : length zeros ≡ to - from
    whole = rw (zero, size) (length-replicate {A = ℕ} (to - from) 0)

-- counts that begin with a zero for each of g gates
module _ (g : ℕ) (counts zeros : List ℕ) (few : g ≤ length counts) (zero : zeros ≡ replicate (length (take g counts)) 0) where
  size : length (take g counts) ≡ g
  size = simp length-take (omega arith)

  whole : length zeros ≡ g
  whole = rw (zero, size) (length-replicate {A = ℕ} g 0)

  pub first-zeros : (j : ℕ) → j < g → get_or (zeros ++ drop g counts) j 0 ≡ 0
  first-zeros j less = get_or-append zeros (drop g counts) 0 j (omega (arith, whole)) ∙ rw (zero, size) (get_or-replicate g j 0 0 less)

  pub rest_same : drop g (zeros ++ drop g counts) ≡ drop g counts
  rest_same = drop_at zeros (drop g counts) g whole

  pub as_long : length (zeros ++ drop g counts) ≡ length counts
  as_long = simp (length-append, length-drop) (omega (arith, whole))
