-- `figure::fold_step` meets its contract: what each call of the mean gave is the pair folded. Assumes nothing.
use Prim.Native.Nat.{ℕ, ◌+◌, ◌*◌, ◌<◌}
use mathlib.Core.Path.{◌≡◌}
use borrow.Author.Rules.{rules}
use native.Mathlib.Omega.{arith}
use lib.ListN.{get_or}
use Rattle.rounding.specs.Rounding.{units_in_one}
use Rattle.rounding.proofs.Laws.{blend-at-most}
use Rattle.figure.specs.Figure.{failure_of}
use Rattle.figure.proofs.Step.{pair_at, folded, folded_fits}
use Rattle.figure.proofs.fold_step.Goals.{After-fold_pairs}
use Rattle.figure.proofs.fold_step.Goals as goal

-- no mean passes U, so that one taken modulo more than U is still the pair folded, and one taken modulo U is not
done : (c : After-fold_pairs) (i : ℕ) → i < c.args.half
    → get_or c.fold_pairs.result i 0 ≡ pair_at units_in_one (failure_of (get_or c.args.words.now c.args.pin 0)) c.args.values i
done c i l =
    let failure = failure_of (get_or c.args.words.now c.args.pin 0) in
    let right = get_or c.args.values (2 * i) 0 in
    let wrong = get_or c.args.values (2 * i + 1) 0 in
    let fits = blend-at-most units_in_one right wrong failure units_in_one (omega arith) c.requires.half_bound.2
    (c.requires.by_index (2 * i) (omega arith)) (c.requires.by_index (2 * i + 1) (omega arith)) in
    search (rules, c.fold_pairs.ensures i l, fits)

pub returns : goal.returns
returns c =
    record {
      result_value = folded units_in_one (failure_of (get_or c.args.words.now c.args.pin 0)) c.args.values c.fold_pairs.result c.args.half
          (omega arith) (omega arith) (done c);
      by_index_2 = folded_fits units_in_one (failure_of (get_or c.args.words.now c.args.pin 0)) c.args.values c.fold_pairs.result c.args.half
          (done c) (omega arith) c.requires.half_bound.2 c.requires.by_index;
    }
