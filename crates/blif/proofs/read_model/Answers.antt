-- `blif::read_model` meets its contract. Assumes nothing.
use mathlib.Core.Path.{sym, ◌∙◌}
use lib.ListN.{length}
use Rattle.model.specs.Tables.{lines_from}
use Rattle.blif.specs.Reading.{model_length, image_over}
use Rattle.blif.proofs.Chain.{goes_on}
use Rattle.model.specs.Counts.{count_fault}
use Rattle.blif.specs.Stages.{names_refusal}
use Rattle.blif.proofs.Counting.{within, in_a_row-refusal}
use Rattle.blif.proofs.read_model.Goals as goal

pub read_names-requires : goal.read_names-requires
read_names-requires c =
    let a = c.args in record { words = c.requires.words.0; within = (within (lines_from a.words.now.text.now a.words.now.starts.now a.words.now.lines.now a.words.now.count 0) (sym c.judge_counts.ensures ∙ c.in_ok-judge_counts.was), c.requires.fitting) }

pub returns : goal.returns
returns c =
    let a = c.args in
    let ls = lines_from a.words.now.text.now a.words.now.starts.now a.words.now.lines.now a.words.now.count 0 in rw (in_a_row-refusal ls (length a.image.now))
    (let all = goes_on (count_fault ls) (names_refusal ls (length a.image.now)) (model_length ls) (image_over ls a.image.now) a.image.now _ _
    (sym c.judge_counts.ensures ∙ c.in_ok-judge_counts.was) (c.read_names.ensures.value, c.read_names.ensures.image_after) in record { value = all.0; image_after = all.1 })
