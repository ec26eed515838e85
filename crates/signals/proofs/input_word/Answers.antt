-- `signals::input_word` meets its contract: the word has the bits of the patterns from l on, the first of them lowest. Assumes nothing.
use Prim.Native.Nat.{suc, ◌-◌}
use mathlib.Core.Path.{◌≡◌, subst}
use native.Mathlib.Omega.{arith}
use Rattle.signals.proofs.Lanes.{Packed, packed_none, packed_more}
use Rattle.signals.proofs.input_word.Goals.{In-loop-l}
use Rattle.signals.proofs.input_word.Goals as goal

pub loop-l-init : goal.loop-l-init
loop-l-init c = (packed_none c.args.patterns.now c.args.input)

pub loop-l-preserved : goal.loop-l-preserved
loop-l-preserved c =
    let l = c.loop-l in
    let a = c.args in
    let e : l.l ≡ suc (l.l - 1) = omega arith in
    let packed = subst (Packed a.patterns.now a.input l.word) e l.invariant in
    rw c.from.ensures (packed_more a.patterns.now a.input l.word (l.l - 1) (omega arith) packed)
