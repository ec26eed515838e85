-- `figure::fold_first` meets its contract: what each call of the mean gave is the pair folded. Assumes nothing.
use Prim.Native.Nat.{ℕ, ◌<◌}
use mathlib.Core.Path.{◌≡◌}
use borrow.Author.Rules.{rules}
use native.Mathlib.Omega.{arith}
use lib.ListN.{get_or}
use Rattle.rounding.specs.Rounding.{units_in_one}
use Rattle.figure.specs.Figure.{failure_of}
use Rattle.figure.proofs.Step.{pair_at, folded, folded_fits}
use Rattle.figure.proofs.fold_first.Goals.{After-fold_pairs}
use Rattle.figure.proofs.fold_first.Goals as goal

done : (c : After-fold_pairs) (i : ℕ) → i < c.args.half
    → get_or c.fold_pairs.result i 0 ≡ pair_at units_in_one (failure_of (get_or c.args.words.now c.args.pin 0)) c.args.values i
done c i l = search (rules, c.fold_pairs.ensures i l)

pub returns : goal.returns
returns c =
    record {
      result_value = folded units_in_one (failure_of (get_or c.args.words.now c.args.pin 0)) c.args.values c.fold_pairs.result c.args.half
          (omega arith) (omega arith) (done c);
      by_index_2 = folded_fits units_in_one (failure_of (get_or c.args.words.now c.args.pin 0)) c.args.values c.fold_pairs.result c.args.half
          (done c) (omega arith) c.requires.half_bound.2 (λ i l. (c.requires.by_index i l).1);
    }
