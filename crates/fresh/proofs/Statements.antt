-- The statements of specs/Statements.antt, proved. Assumes nothing.
use Prim.Native.Nat.{◌+◌}
use mathlib.Core.Logic.{inl, inr}
use mathlib.Core.Path.{sym, ap, ◌∙◌}
use native.Mathlib.Omega.{arith}
use Rattle.figure.specs.Figure.{right_of, failure_of}
use Rattle.area.specs.Layout.{inputs}
use Rattle.area.proofs.Net.{gate_count}
use Rattle.fresh.specs.Statements.{FreshHoldsNetlist, ToggleWorksDependents, SetWorksDependents}
use Rattle.fresh.proofs.Sources.{source-gate}
use Rattle.fresh.proofs.Bridge.{sources-hold, reliability-holds}
use Rattle.fresh.proofs.Dependents.{toggle-worked, toggle-keeps, set-worked, set_keeps}

pub fresh-holds-netlist : FreshHoldsNetlist
fresh-holds-netlist d ws kinds chances sound fresh converted =
    let net = sound.workable.net in
    let hold = sources-hold d ws kinds chances net fresh converted in
    record {
      right = λ j l. sym (ap right_of (source-gate ws j)) ∙ (hold (inputs ws + j) (omega (arith, gate_count ws kinds chances))).right;
      failure = λ j l. sym (ap failure_of (source-gate ws j)) ∙ (hold (inputs ws + j) (omega (arith, gate_count ws kinds chances))).failure;
      product = reliability-holds d ws kinds chances net fresh converted;
    }

pub toggle-works-dependents : ToggleWorksDependents
toggle-works-dependents ws kinds chances i sound small =
    let net = sound.workable.net in
    record { worked = toggle-worked ws kinds chances net i small; others = toggle-keeps ws kinds chances net i small }

pub set-works-dependents : SetWorksDependents
set-works-dependents ws kinds chances g units sound small =
    let net = sound.workable.net in
    record {
      worked = set-worked ws kinds chances net g small units;
      others = λ j r l low free. set_keeps ws kinds chances net g small units j r l low (λ e. free (inl e)) (λ d. free (inr d));
    }
