-- `covers::line_rows` meets its contract. Assumes nothing.
use Prim.Native.Nat.{◌+◌, ◌*◌, ◌^◌}
use mathlib.Core.Path.{◌≡◌, refl}
use native.Mathlib.Omega.{arith}
use Rattle.covers.specs.Cover.{meets}
use Rattle.covers.proofs.Rows.{higher, squared, rows-below, line-start, line-turn}
use Rattle.covers.proofs.line_rows.Goals as goal

pub loop-i-init : goal.loop-i-init
loop-i-init c = (refl, line-start c.args.line.now)

pub factor-rows-requires : goal.factor-rows-requires
factor-rows-requires c =
    let l = c.loop-i in
    omega (arith, l.invariant.0, higher l.i 3 (omega (arith, c.requires, c.loop-i-test.true)))

pub overflow_mul-rows : goal.overflow_mul-rows
overflow_mul-rows c =
    let l = c.loop-i in
    let a = c.args in
    omega (
      arith,
      line-turn a.line.now l.i l.rows l.above c.byte_for.result c.factor-rows.result l.invariant.0 l.invariant.1 c.byte_for.ensures c.factor-rows.ensures,
      rows-below (l.i + 1) (meets a.line.now),
      higher (l.i + 1) 4 (omega (arith, c.requires, c.loop-i-test.true)),
    )

pub overflow_mul-above : goal.overflow_mul-above
overflow_mul-above c =
    let l = c.loop-i in
    let square : l.above * l.above ≡ 2 ^ 2 ^ (l.i + 1) = rw l.invariant.0 (squared l.i) in
    omega (arith, square, higher (l.i + 1) 4 (omega (arith, c.requires, c.loop-i-test.true)))

pub loop-i-preserved : goal.loop-i-preserved
loop-i-preserved c =
    let l = c.loop-i in
    let a = c.args in (
      rw l.invariant.0 (squared l.i),
      line-turn a.line.now l.i l.rows l.above c.byte_for.result c.factor-rows.result l.invariant.0 l.invariant.1 c.byte_for.ensures c.factor-rows.ensures,
    )
