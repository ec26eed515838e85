-- `blif::read_gates` meets its contract. Assumes nothing.
use Prim.Native.Nat.{◌≤◌}
use mathlib.Core.Path.{sym, ◌∙◌}
use native.Mathlib.Omega.{arith}
use lib.ListN.{length}
use Rattle.model.specs.Tables.{lines_from}
use Rattle.blif.specs.Reading.{model_length, image_over}
use Rattle.blif.proofs.Chain.{stops, goes_on}
use Rattle.blif.specs.Stages.{sources_fault, placed_refusal}
use Rattle.blif.proofs.Sources.{cleared, roomy, same-sources, resolved, numbered}
use Rattle.blif.proofs.read_gates.Goals as goal

pub resolve_gates-requires : goal.resolve_gates-requires
resolve_gates-requires c =
    let d = c.requires.named.1 in
    let few : length c.args.definitions.now.heads.now ≤ 1024 = rw d.gates_are d.within.few_gates in record { defined = record { same_text = c.requires.named.0; places = d.names_in; few = omega (arith, d.many_are, few, d.inputs_are, d.within.few_inputs) }; lent = (d.words.places, d.words.numbered); gates_le_most_gates = (few, d.fitting); room = (roomy, cleared) }

pub place_model-requires : goal.place_model-requires
place_model-requires c =
    let at-resolve-gates = c.resolve_gates in
    let a = c.args in
    let told = c.in_ok-resolve_gates.was in
    let known = resolved c.requires.named.1 (at-resolve-gates.ensures.sources told a.definitions.now.names.now.lines.now) c.requires.outputs_known
    (sym (at-resolve-gates.ensures.by_index a.definitions.now.names.now.lines.now ∙ same-sources c.requires.named.1) ∙ told) in
    record { resolved = known; numbered = numbered c.requires.named.1 }

pub returns : goal.returns
returns c =
    let a = c.args in
    let ls = lines_from a.definitions.now.words.now.text.now a.definitions.now.words.now.starts.now a.definitions.now.words.now.lines.now a.definitions.now.words.now.count 0 in let all = goes_on (sources_fault ls) (placed_refusal ls (length a.image.now)) (model_length ls) (image_over ls a.image.now) a.image.now _ _
    (sym (c.resolve_gates.ensures.by_index a.definitions.now.names.now.lines.now ∙ same-sources c.requires.named.1) ∙ c.in_ok-resolve_gates.was) (c.place_model.ensures.value, c.place_model.ensures.image_after) in record { value = all.0; image_after = all.1 }

pub returns-in_err-resolve_gates : goal.returns-in_err-resolve_gates
returns-in_err-resolve_gates c =
    let a = c.args in
    let ls = lines_from a.definitions.now.words.now.text.now a.definitions.now.words.now.starts.now a.definitions.now.words.now.lines.now a.definitions.now.words.now.count 0 in let all = stops (sources_fault ls) (placed_refusal ls (length a.image.now)) (model_length ls) _ (image_over ls a.image.now) a.image.now _
    (sym (same-sources c.requires.named.1) ∙ sym (c.resolve_gates.ensures.by_index a.definitions.now.names.now.lines.now) ∙ c.in_err-resolve_gates.was) c.from_residual.ensures.1 in record { value = all.0; image_after = all.1 }
