-- `bench_c::bench_read_netlist` meets its contract. Assumes nothing.
use mathlib.Core.Path.{refl}
use Rattle.area.specs.Layout.{pattern, reliability_word}
use Rattle.calls.specs.Judgements.{read_netlist, judgement}
use Rattle.bench_c.proofs.Answered.{netlist-told}
use Rattle.bench_c.proofs.bench_read_netlist.Goals as goal

pub returns-in-Ok : goal.returns-in-Ok
returns-in-Ok c =
    let a = c.args in
    let t = c.read_netlist in
    let ws = a.area.now in
    let e = (netlist-told (judgement ws read_netlist) (pattern ws) (reliability_word ws) _ t.ensures).0 _ c.in-Ok.is in record { value = rw e.0 refl; pattern_after = rw e.0 e.1; units_after = rw e.0 e.2; float_by = rw e.0 e.3 }

pub returns-in-Err : goal.returns-in-Err
returns-in-Err c =
    let a = c.args in
    let t = c.read_netlist in
    let ws = a.area.now in
    let e = (netlist-told (judgement ws read_netlist) (pattern ws) (reliability_word ws) _ t.ensures).1 _ c.in-Err.is in record { value = rw e c.refused.ensures; pattern_after = rw e refl; units_after = rw e refl; float_by = rw e refl }
