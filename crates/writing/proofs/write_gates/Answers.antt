-- `writing::write_gates` meets its contract: after q turns the first q records are stored. Assumes nothing.
use Prim.Native.Nat.{ℕ, ◌+◌, ◌*◌}
use mathlib.Core.Path.{refl, ap, ◌∙◌}
use mathlib.Core.List.{List}
use native.Mathlib.Omega.{arith}
use lib.ListN.{length, get_or}
use lib.Seq.{length-sets}
use Rattle.lists.specs.Lists.{joined}
use Rattle.lists.proofs.Joined.{length-joined, joined-turn}
use Rattle.image.specs.Image.{record_bytes}
use Rattle.writing.specs.Written.{record_in}
use Rattle.writing.proofs.write_gates.Goals as goal

pub loop-q-preserved : goal.loop-q-preserved
loop-q-preserved c =
    let l = c.loop-q in
    let a = c.args in
    let record_of : ℕ → List ℕ = λ q. record_in a.model.now.words.now.text.now a.model.now.words.now.starts.now a.model.now.words.now.lines.now a.model.now.words.now.count a.model.now.heads.now a.model.now.sources.pins.now a.model.now.sources.counts.now
    a.model.now.sources.inputs a.placement.now.place.now (get_or a.placement.now.order.now q 0) in
    let new = joined-turn record_of a.image.now l.image _ 0 l.q (record_bytes * l.q)
    (omega (arith, length-joined record_of record_bytes (λ i. refl) l.q)) l.invariant.1
    (rw c.from-gate.ensures at c.write_gate.ensures) in
    (ap length new ∙ length-sets a.image.now 0 (joined record_of (l.q + 1)), new)
