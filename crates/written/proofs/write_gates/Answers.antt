-- `written::write_gates` meets its contract: after j turns the first j records are stored. Assumes nothing.
use Prim.Native.Nat.{◌+◌, ◌*◌}
use mathlib.Core.Path.{◌≡◌, refl, ap, ◌∙◌}
use native.Mathlib.Omega.{arith}
use lib.ListN.{length}
use lib.Seq.{length-sets}
use Rattle.lists.specs.Lists.{joined}
use Rattle.lists.proofs.Joined.{length-joined, joined-turn}
use Rattle.image.specs.Image.{record_bytes}
use Rattle.records.specs.Bytes.{contents_record}
use Rattle.written.specs.Image.{area_contents}
use Rattle.written.proofs.write_gates.Goals as goal

pub gates-gates-requires : goal.gates-gates-requires
gates-gates-requires c = omega (arith, c.requires.0.net.long)

pub loop-j-init : goal.loop-j-init
loop-j-init c = (refl, refl)

pub write_gate-requires : goal.write_gate-requires
write_gate-requires c =
    let p = c.requires in
    let test = c.loop-j-test.true in
    let many = c.gates-gates.ensures in record { workable = (p.0, omega (arith, test, many)); record_bytes_in_bounds = omega (arith, test, many, c.loop-j.invariant.0, p.1) }

pub loop-j-preserved : goal.loop-j-preserved
loop-j-preserved c =
    let l = c.loop-j in
    let a = c.args in
    let record_of = contents_record (area_contents a.area.now) in
    let new = joined-turn record_of a.image.now l.image _ 0 l.j (record_bytes * l.j)
    (omega (arith, length-joined record_of record_bytes (λ i. refl) l.j)) l.invariant.1 c.write_gate.ensures in
    (ap length new ∙ length-sets a.image.now 0 (joined record_of (l.j + 1)), new)

pub returns : goal.returns
returns c =
    let l = c.loop-j in
    let end = c.gates-gates.ensures in
    let all : l.j ≡ c.gates-gates.result = omega arith in
    rw (all ∙ end) at l.invariant.1
