-- `average::block_patterns` meets its contract: each turn makes one pattern. Assumes nothing.
use Prim.Native.Nat.{ℕ, ◌+◌, ◌*◌, ◌%◌, ◌^◌, ◌<◌}
use mathlib.Core.Path.{◌≡◌, refl, ap}
use native.Mathlib.Nat.{mod-lt}
use native.Mathlib.Omega.{arith}
use borrow.Author.Count.{below_none}
use lib.Pow.{pow_pos, pow_mono}
use Rattle.area.specs.Layout.{most_inputs}
use Rattle.rows.proofs.Fill.{fill-turn}
use Rattle.signals.specs.Signals.{lane_count}
use Rattle.average.proofs.Patterns.{shifted}
use Rattle.average.proofs.block_patterns.Goals.{In-loop-l}
use Rattle.average.proofs.block_patterns.Goals as goal

-- a turn's pattern is one of the inputs'
module _ (c : In-loop-l) where
  abbrev n : ℕ
  n = c.args.inputs

  whole : 1 * 2 ^ n % 2 ^ 64 ≡ 2 ^ n
  whole = shifted n c.requires.0

  small : (c.args.first + c.loop-l.l) % (1 * 2 ^ n % 2 ^ 64) < 4_294_967_296
  small =
      rw whole
      (omega (
        arith,
        mod-lt (c.args.first + c.loop-l.l) (pow_pos n),
        pow_mono {i = n} {j = most_inputs} c.requires.0,
      ))

pub loop-l-init : goal.loop-l-init
loop-l-init c = (omega arith, refl, below_none _)

pub overflow_add-pattern : goal.overflow_add-pattern
overflow_add-pattern c =
    omega (arith, c.requires.1)

pub nonzero_rem-pattern : goal.nonzero_rem-pattern
nonzero_rem-pattern c = rw (whole (goal.at.nonzero_rem-pattern c).In-loop-l) (pow_pos c.args.inputs)

pub overflow_cast-pattern : goal.overflow_cast-pattern
overflow_cast-pattern c = omega (arith, small (goal.at.overflow_cast-pattern c).In-loop-l)

pub loop-l-preserved : goal.loop-l-preserved
loop-l-preserved c =
    let l = c.loop-l in
    fill-turn lane_count _ l.pattern-items l.l _ l.invariant (omega arith) (ap (λ (d : ℕ). (c.args.first + l.l) % d) (whole (goal.at.loop-l-preserved c).In-loop-l))

pub returns : goal.returns
returns c =
    let at-loop = c.loop-l in record { result_len = at-loop.invariant.1; by_index = λ l less. at-loop.invariant.2 l (omega arith) }
