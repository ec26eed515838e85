-- `blif::place_model` meets its contract. Assumes nothing.
use mathlib.Core.Path.{sym, ◌∙◌}
use lib.ListN.{length}
use Rattle.model.specs.Tables.{lines_from}
use Rattle.blif.specs.Reading.{model_length, room_fault, loops_fault, image_over}
use Rattle.blif.proofs.Chain.{stops, goes_on}
use Rattle.placing.specs.Placing.{sources_of}
use Rattle.blif.proofs.Placing.{none-placed, tables, same-loops}
use Rattle.blif.proofs.place_model.Goals as goal

pub order_gates-requires : goal.order_gates-requires
order_gates-requires c =
    let a = c.args in
    let r = c.requires.resolved in record { gates_le_most_gates = (r.counted.few_gates, c.requires.numbered.numbers_long, tables r); by_index = r.gates_known; kept = none-placed (sources_of a.model.now.sources.pins.now a.model.now.sources.counts.now) a.model.now.sources.inputs (length a.model.now.heads.now) }

pub write_fitting-requires : goal.write_fitting-requires
write_fitting-requires c = record { resolved = c.requires.resolved; placed = c.order_gates.ensures.placed c.in_ok-order_gates.was }

pub returns : goal.returns
returns c =
    let a = c.args in
    let ls = lines_from a.model.now.words.now.text.now a.model.now.words.now.starts.now a.model.now.words.now.lines.now a.model.now.words.now.count 0 in let all = goes_on (loops_fault ls) (room_fault ls (length a.image.now)) (model_length ls) (image_over ls a.image.now) a.image.now _ _ (sym (c.order_gates.ensures.value ∙ same-loops c.requires.resolved c.requires.numbered) ∙ c.in_ok-order_gates.was) (c.write_fitting.ensures.value, c.write_fitting.ensures.image_after) in record { value = all.0; image_after = all.1 }

pub returns-in_err-order_gates : goal.returns-in_err-order_gates
returns-in_err-order_gates c =
    let a = c.args in
    let ls = lines_from a.model.now.words.now.text.now a.model.now.words.now.starts.now a.model.now.words.now.lines.now a.model.now.words.now.count 0 in let all = stops (loops_fault ls) (room_fault ls (length a.image.now)) (model_length ls) _ (image_over ls a.image.now) a.image.now _ (sym (same-loops c.requires.resolved c.requires.numbered) ∙ sym c.order_gates.ensures.value ∙ c.in_err-order_gates.was) c.from_residual.ensures.1 in record { value = all.0; image_after = all.1 }
