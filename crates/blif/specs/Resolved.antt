-- The tables of a text whose names are all known: the model, in numbers.
use Rattle.std.specs.Prelude.{ℕ, ◌+◌, ◌*◌, ◌<◌, ◌≤◌, List, ◌≡◌, length, get_or}
use Rattle.area.specs.Layout.{most_pins, most_inputs, most_gates, most_outputs}
use Rattle.placing.specs.Placing.{entries, sources_of, Reads}
use Rattle.model.specs.Model.{defined}
use Rattle.model.specs.Counts.{line_at}
use Rattle.model.specs.Tables.{lines_from, Heads}
use Rattle.resolve.specs.Names.{source_numbers}
use Rattle.writing.specs.Written.{Words}
use Rattle.blif.specs.Reading.{input_count, gate_count, output_count, output_numbers}

-- counts inside the image's
pub record Counted (text starts lines : List ℕ) (n inputs gates outputs : ℕ) : Type 0 where
  pub inputs_are : inputs ≡ input_count (lines_from text starts lines n 0)
  pub gates_are : gates ≡ gate_count (lines_from text starts lines n 0)
  pub outputs_are : outputs ≡ output_count (lines_from text starts lines n 0)
  pub few_inputs : inputs ≤ most_inputs
  pub few_gates : gates ≤ most_gates
  pub few_outputs : outputs ≤ most_outputs

pub record Resolved (text starts lines : List ℕ) (n : ℕ) (heads pins counts outs : List ℕ) (inputs gates outputs : ℕ) : Type 0 where
  pub words : Words text starts lines n
  pub counted : Counted text starts lines n inputs gates outputs
  pub headed : Heads text starts lines n heads gates
  pub heads_long : gates ≤ length heads
  pub sources_are : sources_of pins counts ≡ source_numbers (lines_from text starts lines n 0)
  pub few_pins : (j : ℕ) → get_or counts j 0 ≤ most_pins
  pub pins_known : (i : ℕ) → get_or pins i 0 < inputs + most_gates
  pub pins_long : length pins ≡ most_pins * most_gates
  pub counts_long : length counts ≡ most_gates
  pub gates_known : (j i : ℕ) → j < gates → Reads (sources_of pins counts) inputs j i → i < gates
  pub outs_are : entries outs 0 outputs ≡ output_numbers (lines_from text starts lines n 0)
  pub outs_known : (i : ℕ) → get_or outs i 0 < inputs + most_gates
  pub outs_long : outputs ≤ length outs

-- the lines that define the gates, after those that define the inputs
pub record Numbered (text starts lines : List ℕ) (n : ℕ) (numbers : List ℕ) (inputs gates : ℕ) : Type 0 where
  pub gate_lines : (j : ℕ) → j < gates → get_or numbers (inputs + j) 0 ≡ line_at (defined (lines_from text starts lines n 0)) (inputs + j)
  pub numbers_long : inputs + gates ≤ length numbers
