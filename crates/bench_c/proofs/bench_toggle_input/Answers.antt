-- `bench_c::bench_toggle_input` meets its contract. Assumes nothing.
use mathlib.Core.Path.{ap, ◌∙◌}
use Rattle.bench_c.specs.Codes.{code}
use Rattle.bench_c.proofs.bench_toggle_input.Goals as goal

pub returns : goal.returns
returns c =
    let t = c.toggle_input in
    record { value = c.code_of.ensures ∙ ap code t.ensures.value; area_after = t.ensures.area_after }
