-- `figure::word_of_pins` meets its contract: each step hands its part of the array on. Assumes nothing.
use Prim.Native.Nat.{ℕ, zero, suc, ◌*◌, ◌^◌, ◌≤◌, ◌<◌}
use mathlib.Core.Path.{◌≡◌, sym, ap₂, ◌∙◌}
use mathlib.Core.List.{[], ◌∷◌, map}
use native.Mathlib.Omega.{arith}
use lib.ListN.{take}
use Rattle.rounding.specs.Rounding.{units_in_one}
use Rattle.figure.specs.Figure.{failure_of, fold_pins}
use Rattle.figure.specs.Steps.{Pin, first_pins, differs}
use Rattle.figure.proofs.Word.{spread-small, word_made}
use Rattle.figure.proofs.Pins.{at-most-eight, two-more, failures-first}
use Rattle.figure.proofs.word_of_pins.Goals as goal

-- so many patterns have up to four pins
some : (n : ℕ) → 0 < n → n ≤ 4 → (0 < 2 ^ n) × (2 ^ n ≤ 16)
some zero l h = absurd (omega arith)
some (suc n) l h =
    let few = at-most-eight n (omega arith) in
    let twice : 2 ^ suc n ≡ 2 * 2 ^ n = omega (arith, two-more n) in
    rw twice (omega arith, omega arith)

pub answer_at-right-requires : goal.answer_at-right-requires
answer_at-right-requires g c =
    let few = some g.row.COUNT c.requires.count_bound.0 c.requires.count_bound.1 in
    spread-small c.args.start (first_pins g.row.COUNT c.args.words c.args.bits) (2 ^ g.row.COUNT) c.spread_pins-at.result c.spread_pins-at.ensures c.requires.bits_bound 0 few.0

pub start_values-values-requires : goal.start_values-values-requires
start_values-values-requires g c =
    let few = some g.row.COUNT c.requires.count_bound.0 c.requires.count_bound.1 in
    rw c.patterns.ensures (record {
      used_bound = few.1;
      by_index = spread-small c.args.start (first_pins g.row.COUNT c.args.words c.args.bits) (2 ^ g.row.COUNT) c.spread_pins-at.result c.spread_pins-at.ensures c.requires.bits_bound;
    })

pub fold_pins-last-requires : goal.fold_pins-last-requires
fold_pins-last-requires g c = record {
  count_bound = (c.requires.count_bound.0, c.requires.count_bound.1);
  by_index = c.requires.by_index;
  by_index_2 = rw c.patterns.ensures at c.start_values-values.ensures.by_index_2;
}

pub returns : goal.returns
returns g c =
    let count = g.row.COUNT in
    let ps = first_pins count c.args.words c.args.bits in
    let few = some count c.requires.count_bound.0 c.requires.count_bound.1 in
    let started : take (2 ^ count) c.start_values-values.result
    ≡ map (differs units_in_one c.args.table c.answer_at-right.result) (take (2 ^ count) c.spread_pins-at.result)
    = rw c.patterns.ensures at c.start_values-values.ensures.result_value in
    let folded : c.fold_pins-last.result
    ≡ fold_pins units_in_one (map (λ (p : Pin). failure_of p.word) ps)
    (map (differs units_in_one c.args.table c.answer_at-right.result) (take (2 ^ count) c.spread_pins-at.result))
    = c.fold_pins-last.ensures.value
    ∙ ap₂ (fold_pins units_in_one) (sym (failures-first count c.args.words c.args.bits (omega arith))) started in
    c.word_of.ensures
    ∙ word_made c.args.start ps (2 ^ count) c.spread_pins-at.result c.spread_pins-at.ensures c.args.table c.answer_at-right.result c.args.flip
    (c.fold_pins-last.result ∷ []) few.0 c.answer_at-right.ensures folded
