use Prim.Native.Nat.{◌-◌}
use Rattle.area.specs.Layout.{gates}
use Rattle.sets.proofs.Marked.+sum_from.Given as goal

abbrev pub decreases-sum_from : goal.decreases-sum_from
decreases-sum_from l = gates l.area.now - l.branch.from
