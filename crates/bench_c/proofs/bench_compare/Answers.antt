-- `bench_c::bench_compare` meets its contract. Assumes nothing.
use mathlib.Core.Path.{refl, sym, ◌∙◌}
use Rattle.bench_c.proofs.bench_compare.Goals as goal

pub returns-in-Ok : goal.returns-in-Ok
returns-in-Ok c =
    let e = sym c.compare.ensures ∙ c.in-Ok.is in
    rw e (record { value = refl; res_after = c.result_words.ensures })

pub returns-in-Err : goal.returns-in-Err
returns-in-Err c =
    let e = sym c.compare.ensures ∙ c.in-Err.is in
    rw e (record { value = c.refused_image.ensures; res_after = refl })
