-- `bench_c::bench_error_of_image` meets its contract. Assumes nothing.
use mathlib.Core.Path.{refl, ap}
use Rattle.bound.specs.Sharp.{error_halves}
use Rattle.image.specs.Netlist.{image_net}
use Rattle.calls.specs.Judgements.{image_judgement}
use Rattle.calls.specs.Calls.{open_live}
use Rattle.refusal.proofs.Laws.{answer-told}
use Rattle.comparison.specs.declared.ImageError.{ImageError}
use Rattle.bench_c.proofs.bench_error_of_image.Goals as goal

pub returns-in-Ok : goal.returns-in-Ok
returns-in-Ok c =
    let bs = c.args.image.now in
    let e = (answer-told (image_judgement bs) (record { halves = error_halves (image_net bs); live = open_live bs }) _ c.error_of_image.ensures).0 _ c.in-Ok.is in record { value = rw e.0 refl; halves_after = rw e.0 (ap (λ (k : ImageError). k.halves) e.1); live_after = rw e.0 (ap (λ (k : ImageError). k.live) e.1) }

pub returns-in-Err : goal.returns-in-Err
returns-in-Err c =
    let bs = c.args.image.now in
    let e = (answer-told (image_judgement bs) (record { halves = error_halves (image_net bs); live = open_live bs }) _ c.error_of_image.ensures).1 _ c.in-Err.is in record { value = rw e c.refused.ensures; halves_after = rw e refl; live_after = rw e refl }
