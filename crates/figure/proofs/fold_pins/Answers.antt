-- `figure::fold_pins` meets its contract: each turn folds the next pin. Assumes nothing.
use Prim.Native.Nat.{ℕ, ◌+◌, ◌-◌, ◌*◌, ◌^◌}
use mathlib.Core.Path.{◌≡◌, sym, ap, ◌∙◌}
use native.Mathlib.Omega.{arith}
use Rattle.rounding.specs.Rounding.{units_in_one}
use mathlib.Core.List.{List}
use lib.ListN.{get_or, take}
use Rattle.figure.specs.Figure.{failure_of, fold_step}
use Rattle.figure.proofs.Pins.{at-most-eight, two-more, fold-next, fold-end}
use Rattle.figure.proofs.fold_pins.Goals as goal

pub fold_first-values-requires : goal.fold_first-values-requires
fold_first-values-requires g c =
    let few = at-most-eight (g.row.COUNT - 1) (omega arith) in
    let more : g.row.COUNT ≡ (g.row.COUNT - 1) + 1 = omega arith in
    let twice : 2 ^ g.row.COUNT ≡ 2 * 2 ^ (g.row.COUNT - 1) = ap (λ (n : ℕ). 2 ^ n) more ∙ two-more (g.row.COUNT - 1) in
    rw c.patterns.ensures (record {
      half_bound = (few.1, omega arith, c.requires.by_index _ (omega arith));
      by_index = rw twice at c.requires.by_index_2;
    })

-- the pin that was folded first, however the code names it, is pin 0
first-pin : (u half pin : ℕ) (words values next : List ℕ) → take half next ≡ fold_step u (failure_of (get_or words pin 0)) (take (2 * half) values)
    → pin ≡ 0 → take half next ≡ fold_step u (failure_of (get_or words 0 0)) (take (2 * half) values)
first-pin u half pin words values next step e = rw e at step

pub loop-pin-init : goal.loop-pin-init
loop-pin-init g c =
    let made = rw c.patterns.ensures at c.fold_first-values.ensures in
    let same : g.row.COUNT - 1 - 0 ≡ g.row.COUNT - 1 = omega arith in
    let folded : take (2 ^ (g.row.COUNT - 1 - 0)) c.fold_first-values.result
    ≡ fold_step units_in_one (failure_of (get_or c.args.words.now 0 0)) (take (2 * 2 ^ (g.row.COUNT - 1 - 0)) c.args.values)
    = rw same (first-pin units_in_one (2 ^ (g.row.COUNT - 1)) _ c.args.words.now c.args.values c.fold_first-values.result made.result_value (omega arith)) in
    let none : g.row.COUNT - 0 ≡ g.row.COUNT = omega arith in
    record {
      value = rw none at (fold-next units_in_one g.row.COUNT 0 c.args.words.now c.args.values c.fold_first-values.result (omega arith) (omega arith) folded);
      fits = made.by_index_2;
    }

pub fold_step-next-requires : goal.fold_step-next-requires
fold_step-next-requires g c =
    let left = g.row.COUNT - 1 - c.loop-pin.pin in
    let few = at-most-eight left (omega arith) in
    let more : g.row.COUNT - c.loop-pin.pin ≡ left + 1 = omega arith in
    let fits = rw (more, two-more left) at c.loop-pin.invariant.fits in
    rw c.patterns-in-loop-pin.ensures (record {
      half_bound = (few.1, omega arith, c.requires.by_index c.loop-pin.pin (omega arith));
      by_index = fits;
    })

pub loop-pin-preserved : goal.loop-pin-preserved
loop-pin-preserved g c =
    let made = rw c.patterns-in-loop-pin.ensures at c.fold_step-next.ensures in
    let same : g.row.COUNT - (c.loop-pin.pin + 1) ≡ g.row.COUNT - 1 - c.loop-pin.pin = omega arith in
    record {
      value =
          fold-next units_in_one g.row.COUNT c.loop-pin.pin c.args.words.now c.loop-pin.values c.fold_step-next.result (omega arith) (omega arith) made.result_value
          ∙ c.loop-pin.invariant.value;
      fits = rw same made.by_index_2;
    }

pub returns : goal.returns
returns g c =
    let end : c.loop-pin.pin ≡ g.row.COUNT = omega arith in
    let done = rw end at c.loop-pin.invariant in
    let none : g.row.COUNT - g.row.COUNT ≡ 0 = omega arith in
    let fits = rw none at done.fits in
    record {
      value = sym (fold-end units_in_one g.row.COUNT c.args.words.now c.loop-pin.values (omega arith)) ∙ done.value;
      fits = fits 0 (omega arith);
    }
