-- `signals::gate_word` meets its contract. Assumes nothing.
use Prim.Native.Nat.{ℕ, ◌+◌}
use mathlib.Core.Path.{ap}
use lib.ListN.{get_or}
use Rattle.signals.proofs.gate_word.Goals as goal

pub returns : goal.returns
returns c =
    ap (λ (n : ℕ). get_or c.args.words.now (n + c.args.gate) 0) c.inputs.ensures
