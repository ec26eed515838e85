-- `bench_c::bench_counts_by_mask` meets its contract. Assumes nothing.
use mathlib.Core.Path.{ap, ◌∙◌}
use Rattle.bench_c.specs.Codes.{code}
use Rattle.bench_c.proofs.bench_counts_by_mask.Goals as goal

pub returns : goal.returns
returns c =
    let t = c.counts_by_mask in
    record { value = c.code_of.ensures ∙ ap code t.ensures.value; counts_after = t.ensures.counts_after }
