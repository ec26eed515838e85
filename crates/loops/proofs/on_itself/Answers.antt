-- `loops::on_itself` meets its contract. Assumes nothing.
use mathlib.Core.Path.{refl}
use lib.ListN.{replicate}
use Rattle.placing.specs.Placing.{sources_of}
use Rattle.loops.proofs.Tracing.{begin, turn, less, answered}
use Rattle.loops.proofs.on_itself.Goals as goal

pub loop-taken-init : goal.loop-taken-init
loop-taken-init c =
    begin (sources_of c.args.sources.pins.now c.args.sources.counts.now) c.args.sources.inputs c.args.gates c.args.gate c.args.clear.now (replicate 1025 0) c.requires.gate_lt_gates.0 c.requires.clear_len.0 refl

pub loop-taken-preserved : goal.loop-taken-preserved
loop-taken-preserved c =
    let l = c.loop-taken in
    let took = c.in-Some.ensures in
    turn l.invariant took.2.0 c.requires.gate_lt_gates.3 (rw (took.0, took.1, took.2.1, took.2.2) at c.mark_gate.ensures)

pub loop-taken-smaller : goal.loop-taken-smaller
loop-taken-smaller c =
    let l = c.loop-taken in
    let took = c.in-Some.ensures in
    less l.invariant took.2.0 c.requires.gate_lt_gates.3 (rw (took.0, took.1, took.2.1, took.2.2) at c.mark_gate.ensures)

pub returns : goal.returns
returns c =
    let none = c.in_default.ensures in
    rw none.0 (answered c.loop-taken.invariant none.2 c.requires.clear_len.1 c.if-clear-gate-ne0.false)
