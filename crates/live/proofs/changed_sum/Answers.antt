-- `live::changed_sum` meets its contract. Assumes nothing.
use mathlib.Core.Path.{◌≡◌}
use native.Mathlib.Omega.{arith}
use Rattle.netlist.specs.Live.{if_live}
use Rattle.live.proofs.Counted.{flip-live, flip-dead}
use Rattle.live.proofs.changed_sum.Goals.{Else-readers-lt1}
use Rattle.live.proofs.changed_sum.Goals as goal

pub returns-then-readers-lt1 : goal.returns-then-readers-lt1
returns-then-readers-lt1 c =
    let a = c.args in
    omega (arith, flip-dead a.readers a.old (omega (arith, c.if-readers-lt1.true)), flip-dead a.readers a.new (omega (arith, c.if-readers-lt1.true)))

-- a live gate's flip is in the sum
module _ (c : Else-readers-lt1) where
  had : if_live c.args.readers c.args.old ≡ c.args.old
  had = flip-live c.args.readers c.args.old (omega (arith, c.if-readers-lt1.false))

  has : if_live c.args.readers c.args.new ≡ c.args.new
  has = flip-live c.args.readers c.args.new (omega (arith, c.if-readers-lt1.false))

pub overflow_sub-result : goal.overflow_sub-result
overflow_sub-result c = omega (arith, c.from.ensures, had (goal.at.overflow_sub-result c).Else-readers-lt1, c.requires.0)

pub overflow_add-result : goal.overflow_add-result
overflow_add-result c = omega (arith, c.from.ensures, c.from-2.ensures, had (goal.at.overflow_add-result c).Else-readers-lt1, c.requires.0, c.requires.1)

pub returns : goal.returns
returns c = omega (arith, c.from.ensures, c.from-2.ensures, had (goal.at.returns c).Else-readers-lt1, has (goal.at.returns c).Else-readers-lt1, c.requires.0)
