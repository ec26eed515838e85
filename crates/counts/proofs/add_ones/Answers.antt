-- `counts::add_ones` meets its contract: a word has at most 64 ones. Assumes nothing.
use mathlib.Core.Path.{refl}
use native.Mathlib.Omega.{arith}
use lib.Count.{ones-le}
use Rattle.counts.proofs.add_ones.Goals as goal

pub overflow_add-counts : goal.overflow_add-counts
overflow_add-counts c =
    omega (arith, c.requires.1, ones-le 64 c.args.word c.ranges.word.fits)

pub returns : goal.returns
returns c = record { counts_after = refl; word_bound = c.ranges.word.fits }
