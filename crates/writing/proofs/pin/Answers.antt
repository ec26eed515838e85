-- `writing::pin` meets its contract. Assumes nothing.
use Prim.Native.Nat.{◌*◌}
use mathlib.Core.Path.{ap, ◌∙◌}
use native.Mathlib.Omega.{arith}
use Rattle.area.specs.Layout.{most_pins}
use Rattle.meaning.specs.Net.{source_of}
use Rattle.writing.proofs.Pins.{used, unused}
use Rattle.writing.proofs.pin.Goals as goal

pub returns-then-p-count : goal.returns-then-p-count
returns-then-p-count c =
    let a = c.args in
    let source = source_of a.sources.inputs a.place.now in (
      c.source_of.ensures.0
          ∙ ap source c.from.ensures
          ∙ used source a.sources.pins.now (most_pins * a.gate) a.count a.p c.if-p-count.true,
      c.source_of.ensures.1,
    )

pub returns-else-p-count : goal.returns-else-p-count
returns-else-p-count c =
    let a = c.args in
    (unused (source_of a.sources.inputs a.place.now) a.sources.pins.now (most_pins * a.gate) a.count a.p (omega (arith, c.if-p-count.false)), omega arith)
