-- `bench_c::bench_counts_by_flip` meets its contract. Assumes nothing.
use mathlib.Core.Path.{ap, ◌∙◌}
use Rattle.bench_c.specs.Codes.{code}
use Rattle.bench_c.proofs.bench_counts_by_flip.Goals as goal

pub returns : goal.returns
returns c =
    let t = c.counts_by_flip in
    record { value = c.code_of.ensures ∙ ap code t.ensures.value; counts_after = t.ensures.counts_after }
