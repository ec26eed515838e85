-- `bench_c::bench_read_gate` meets its contract. Assumes nothing.
use mathlib.Core.Path.{refl, ap}
use Prim.Native.Nat.{◌/◌, ◌%◌}
use Rattle.area.specs.Layout.{figure}
use Rattle.calls.specs.Judgements.{read_gate, judgement}
use Rattle.refusal.proofs.Laws.{answer-told}
use Rattle.bench.specs.declared.GateFigures.{GateFigures}
use Rattle.bench_c.proofs.bench_read_gate.Goals as goal

pub returns-in-Ok : goal.returns-in-Ok
returns-in-Ok c =
    let a = c.args in
    let t = c.read_gate in
    let word = figure a.area.now a.gate in
    let e = (answer-told (judgement a.area.now (read_gate a.gate)) (record { right = word % 2; failure = word / 2 }) _ t.ensures).0 _ c.in-Ok.is in
    record {
      value = rw e.0 refl;
      right_after = rw e.0 (ap (λ (f : GateFigures). f.right) e.1);
      failure_after = rw e.0 (ap (λ (f : GateFigures). f.failure) e.1);
    }

pub returns-in-Err : goal.returns-in-Err
returns-in-Err c =
    let a = c.args in
    let t = c.read_gate in
    let word = figure a.area.now a.gate in
    let e = (answer-told (judgement a.area.now (read_gate a.gate)) (record { right = word % 2; failure = word / 2 }) _ t.ensures).1 _ c.in-Err.is in record { value = rw e c.refused.ensures; right_after = rw e refl; failure_after = rw e refl }
