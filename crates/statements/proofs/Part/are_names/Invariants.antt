use mathlib.Core.Path.{◌≡◌}
use lib.ListN.{drop}
use Rattle.statements.specs.Fit.{all_names}
use Rattle.statements.proofs.Part.are_names.Given as goal

abbrev pub invariant-loop-i : goal.invariant-loop-i
invariant-loop-i l = all_names (drop l.i l.self) ≡ all_names l.self
