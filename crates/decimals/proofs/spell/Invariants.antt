use Rattle.decimals.proofs.Digits.{Spelled}
use Rattle.decimals.proofs.spell.Given as goal

abbrev pub invariant-loop-i : goal.invariant-loop-i
invariant-loop-i l =
    Spelled l.number l.text l.rest l.i
