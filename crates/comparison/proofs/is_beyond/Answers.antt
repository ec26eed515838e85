-- `comparison::is_beyond` meets its contract. Assumes nothing.
use mathlib.Core.Path.{refl}
use Rattle.comparison.specs.Standing.{beyond}
use Rattle.comparison.proofs.is_beyond.Goals as goal

pub returns : goal.returns
unfolding beyond
returns c = refl
