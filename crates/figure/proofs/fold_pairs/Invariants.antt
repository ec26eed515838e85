-- After i turns i pairs are made one to the front, and the rest stands as it was.
use Prim.Native.Nat.{ℕ, ◌+◌, ◌*◌, ◌≤◌, ◌<◌}
use mathlib.Core.Path.{◌≡◌}
use lib.ListN.{length, get_or}
use Rattle.figure.proofs.fold_pairs.Given as goal

abbrev pub invariant-loop-i : goal.invariant-loop-i
invariant-loop-i g l = record {
  same_length : length l.values ≡ length l.initial.values;
  done : (k : ℕ) → k < l.i → goal.F-post g l.mean (get_or l.initial.values (2 * k) 0) (get_or l.initial.values (2 * k + 1) 0) (get_or l.values k 0);
  rest : (k : ℕ) → l.i ≤ k → get_or l.values k 0 ≡ get_or l.initial.values k 0;
}
