-- `signals::word_of` meets its contract. Assumes nothing.
use mathlib.Core.Path.{ap}
use Prim.Native.Nat.{ℕ}
use lib.ListN.{get_or}
use Rattle.signals.proofs.word_of.Goals as goal

pub returns : goal.returns
returns c = ap (λ (s : ℕ). get_or c.args.words.now s 0) c.index.ensures
