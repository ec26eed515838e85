-- `bench::open` meets its contract. Assumes nothing.
use mathlib.Core.List.{◌++◌}
use mathlib.Core.Path.{◌≡◌, refl, sym, ◌∙◌}
use lib.ListN.{length}
use Rattle.image.specs.Loading.{image_words}
use Rattle.image.proofs.Sound.{loaded-workable}
use Rattle.bench.proofs.Opening.{loaded-front, open-judged, open-live, open-words, open-refused}
use Rattle.refusal.proofs.Laws.{passed-on}
use Rattle.bench.proofs.open.Goals as goal

pub open_loaded-requires : goal.open_loaded-requires
open_loaded-requires c =
    let at_load = c.load in
    let bs = c.args.image.now in
    let accepted = sym at_load.ensures.value ∙ c.in_ok-load.was in
    let held : at_load.new.words ≡ image_words bs ++ _ = at_load.ensures.words_after accepted in record { net_sound = rw held (loaded-workable bs _ accepted).net; by_index = λ rest. rw (loaded-front bs _ _ held) (loaded-workable bs rest accepted) }

pub returns : goal.returns
returns c =
    let at_load = c.load in
    let at-open-loaded = c.open_loaded in
    let bs = c.args.image.now in
    let accepted = sym at_load.ensures.value ∙ c.in_ok-load.was in
    let held : at_load.new.words ≡ image_words bs ++ _ = at_load.ensures.words_after accepted in
    let j = open-judged bs _ _ held accepted (length c.args.area.now) in record { value = rw (j, open-live bs _ _ held) at-open-loaded.ensures.value; area_after = rw (j, open-words bs _ _ held c.args.area.now) at-open-loaded.ensures.area_after }

pub returns-in_err-load : goal.returns-in_err-load
returns-in_err-load c =
    let at_load = c.load in
    let a = c.args in
    let e = open-refused a.image.now _ _ (length a.area.now) (sym at_load.ensures.value ∙ c.in_err-load.was) in record { value = rw (passed-on c.from_residual.result c.in_err-load.field-0.0 c.from_residual.ensures.1, e) refl; area_after = rw e refl }
