-- `figure::spread_pins` meets its contract: each turn spreads the pin before. Assumes nothing.
use mathlib.Core.Path.{refl}
use native.Mathlib.Omega.{arith}
use Rattle.figure.proofs.Pins.{at-most-eight, last_pins, room-left, spread-next}
use Rattle.figure.proofs.Word.{spread-room}
use Rattle.figure.proofs.spread_pins.Goals as goal

pub loop-pin-init : goal.loop-pin-init
loop-pin-init g c = refl

pub spread_pin-next-requires : goal.spread_pin-next-requires
spread_pin-next-requires g c =
    let few = at-most-eight c.loop-pin.pin (omega arith) in
    let left = room-left g.row.COUNT c.loop-pin.pin c.args.words.now c.args.bits.now c.loop-pin-test.true in
    rw c.patterns.ensures (record {
      used_nonzero = (few.0, few.1, omega arith);
      by_index = spread-room c.args.start (last_pins g.row.COUNT c.loop-pin.pin c.args.words.now c.args.bits.now) _ c.loop-pin.at c.loop-pin.invariant _ (omega (arith, left, c.requires.1));
    })

pub loop-pin-preserved : goal.loop-pin-preserved
loop-pin-preserved g c =
    spread-next g.row.COUNT c.loop-pin.pin c.args.start c.args.words.now c.args.bits.now c.loop-pin.at c.spread_pin-next.result c.loop-pin-test.true
    c.loop-pin.invariant (rw c.patterns.ensures at c.spread_pin-next.ensures)
