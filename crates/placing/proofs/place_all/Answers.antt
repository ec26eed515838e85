-- `placing::place_all` meets its contract. Assumes nothing.
use mathlib.Core.Path.{refl}
use native.Mathlib.Omega.{arith}
use Rattle.placing.proofs.Search.{passed-short}
use Rattle.placing.proofs.Going.{at_found, roomy, less, turn, finish}
use Rattle.placing.proofs.place_all.Goals as goal

pub bounds-order-q : goal.bounds-order-q
bounds-order-q c =
    let found = c.in-Some.ensures in
    omega (arith, c.requires.0, roomy _ _ _ _ _ _ _ _ (at_found c.loop-gate.invariant found.0) c.requires.0 found.1)

pub loop-gate-smaller : goal.loop-gate-smaller
loop-gate-smaller c =
    let found = c.in-Some.ensures in
    less _ _ _ _ _ _ _ _ (at_found c.loop-gate.invariant found.0) c.requires.0 found.1

pub loop-gate-preserved : goal.loop-gate-preserved
loop-gate-preserved c =
    let found = c.in-Some.ensures in
    turn _ _ _ _ _ _ _ _ (at_found c.loop-gate.invariant found.0) c.requires.0 found.1 _ refl

pub returns : goal.returns
returns c =
    let none = c.in_default.ensures in
    finish _ _ _ _ _ _ _ _ c.loop-gate.invariant c.requires.0 (omega arith) (passed-short _ _ _ _ _)
