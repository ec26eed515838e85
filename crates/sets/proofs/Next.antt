-- The lowest marked gate from a gate on: one gate more. Assumes nothing.
use Prim.Native.Nat.{ℕ, ◌+◌, ◌≤◌, ◌<◌}
use mathlib.Core.List.{List}
use mathlib.Core.Logic.{by_cases}
use mathlib.Core.Path.{◌≡◌, subst, ◌∙◌}
use native.Mathlib.Decide.{dec_lt}
use native.Mathlib.Omega.{arith}
use lib.ListN.{get_or, set, replicate, length-set, length-replicate, get_or-replicate}
use lib.Seq.{get_or-set_same, get_or-set_other}
use Rattle.area.specs.Layout.{most_gates, most_sources}
use Rattle.sets.specs.Branches.{MarkedFrom, NextMarked}

-- no gate comes after the last
pub marked-none : (marks : List ℕ) (n g : ℕ) → g ≤ most_gates → NextMarked marks (replicate most_sources g) n g g
marked-none marks n g few =
    record {
      long = length-replicate {A = ℕ} most_sources g;
      each =
          λ j from to.
          rw (get_or-replicate most_sources j g 0 (omega arith))
          (record { from = to; inside = omega arith; marked = λ less. absurd (omega arith); none = λ i low less. absurd (omega arith) });
    }

module _ (marks next : List ℕ) (n g j x : ℕ) (few : g ≤ most_gates) (inside : j < g) (known : NextMarked marks next n g (j + 1)) where
  abbrev after : MarkedFrom marks n g (j + 1) (get_or next (j + 1) 0)
  after = known.each (j + 1) (omega arith) (omega arith)

  -- a gate that has a mark, and one that has none
  here : (0 < get_or marks (n + j) 0 → x ≡ j) → (get_or marks (n + j) 0 ≡ 0 → x ≡ get_or next (j + 1) 0) → MarkedFrom marks n g j x
  here some none =
      by_cases (dec_lt 0 (get_or marks (n + j) 0))
      (λ mark.
      rw (some mark) (record { from = omega arith; inside = omega arith; marked = λ less. mark; none = λ i low less. absurd (omega arith) }))
      (λ clear.
      let zero : get_or marks (n + j) 0 ≡ 0 = omega arith in
      rw (none zero)
      (record {
        from = omega (arith, after.from);
        inside = after.inside;
        marked = after.marked;
        none =
            λ i low less.
            by_cases (dec_lt j i) (λ later. after.none i (omega arith) less)
            (λ first. subst (λ (k : ℕ). get_or marks (n + k) 0 ≡ 0) (omega arith) zero);
      }))

  pub marked_more : (0 < get_or marks (n + j) 0 → x ≡ j) → (get_or marks (n + j) 0 ≡ 0 → x ≡ get_or next (j + 1) 0) → NextMarked marks (set next j x) n g j
  marked_more some none =
      record {
        long = length-set next j x ∙ known.long;
        each =
            λ i from to.
            by_cases (dec_lt j i)
            (λ later. rw (get_or-set_other next j i x 0 (λ e. omega arith)) (known.each i (omega arith) to))
            (λ first.
            let same : j ≡ i = omega arith in
            subst (λ (k : ℕ). MarkedFrom marks n g k (get_or (set next j x) k 0)) same
            (rw (get_or-set_same next j x 0 (omega (arith, known.long))) (here some none)));
      }
