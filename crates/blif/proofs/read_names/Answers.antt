-- `blif::read_names` meets its contract. Assumes nothing.
use mathlib.Core.Path.{refl}
use native.Mathlib.Omega.{arith}
use Rattle.blif.proofs.Defined.{gates-room, same-room, names_in, numbers_long, named-cut}
use Rattle.blif.proofs.read_names.Goals as goal

pub collect-many-requires : goal.collect-many-requires
collect-many-requires c =
    let at-collect = c.collect-inputs in
    let words = c.requires.words in record { places = (words.places, words.numbered, words.few); n_in_bounds = gates-room c.requires.words c.requires.within.0 c.requires.within.1 at-collect.ensures; names_in_bounds = same-room c.requires.words c.requires.within.0 c.requires.within.1 at-collect.ensures }

pub judge_again-requires : goal.judge_again-requires
judge_again-requires c =
    let at-collect2 = c.collect-many in
    let at-collect = c.collect-inputs in
    (names_in c.requires.words c.requires.within.0 c.requires.within.1 at-collect.ensures at-collect2.ensures, numbers_long c.requires.words c.requires.within.0 c.requires.within.1 at-collect.ensures at-collect2.ensures)

pub read_outputs-requires : goal.read_outputs-requires
read_outputs-requires c =
    let at-heads2 = c.heads-gates in
    let at-collect2 = c.collect-many in
    let at-collect = c.collect-inputs in
    let h = at-heads2.ensures in
    record { named = (refl, named-cut c.requires.words c.requires.within.0 c.requires.within.1 at-collect.ensures at-collect2.ensures h.value h.heads (omega (arith, h.value, h.heads_len_unchanged, c.requires.within.0.few_gates))) }
