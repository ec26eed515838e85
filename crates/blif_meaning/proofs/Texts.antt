-- The table of worked texts, by computation. Assumes nothing.
use mathlib.Core.Path.{refl}
use Rattle.texts.specs.Words.{blank, joins, after}
use Rattle.names.specs.Names.{name_byte, is_name}
use Rattle.statements.specs.Fit.{
  key_model,
  key_inputs,
  key_outputs,
  key_names,
  key_end,
  keyword_of,
  value_of,
  row_byte,
  is_row,
  after_model,
  after_list,
  after_gate,
  after_end,
  after_line,
}
use Rattle.placing.specs.Placing.{ready, loop_fault}
use Rattle.model.specs.Counts.{count_fault}
use Rattle.resolve.specs.Names.{again_fault, unknown_fault, names_fault}
use Rattle.covers.specs.Cover.{byte_meets, cover_value, table_of, cover_table}
use Rattle.records.specs.Bytes.{image_with}
use Rattle.blif.specs.Reading.{model_net, blif_refusal, image_over}
use Rattle.blif_meaning.specs.Texts.{TextsHold}

pub texts-hold : TextsHold
unfolding
    blank joins after name_byte is_name key_model key_inputs key_outputs key_names key_end keyword_of value_of row_byte is_row after_model after_list after_gate after_end
    after_line count_fault again_fault unknown_fault names_fault ready loop_fault byte_meets cover_value table_of cover_table image_with model_net blif_refusal
    image_over
texts-hold = record { keywords-hold = refl; answers-hold = refl; slices_hold = refl }
