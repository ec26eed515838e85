-- The refusals of lines from each test on, and what the tests before have shown of the tables.
use Rattle.std.specs.Prelude.{ℕ, ◌+◌, ◌<◌, ◌≤◌, List, ◌≡◌, length, get_or}
use Rattle.refusal.specs.Judgement.{Judgement}
use Rattle.refusal.specs.Judgement.{otherwise, lowest}
use Rattle.area.specs.Layout.{most_pins, most_inputs, most_gates, most_outputs}
use Rattle.texts.specs.Words.{held}
use Rattle.statements.specs.Lines.{Line, Places}
use Rattle.placing.specs.Placing.{entries}
use Rattle.model.specs.Model.{outputs_key, listed, gates_of, defined, no_gate}
use Rattle.model.specs.Tables.{lines_from, Heads}
use Rattle.resolve.specs.Names.{again_fault, unknown_fault, sources_in}
use Rattle.resolve.specs.Found.{Headed}
use Rattle.writing.specs.Written.{Words}
use Rattle.blif.specs.Reading.{input_count, gate_count, output_count, output_numbers, loops_fault, room_fault}

-- loops, then 20
abbrev pub placed_refusal : List Line → ℕ → Judgement
placed_refusal ls room = otherwise (loops_fault ls) (room_fault ls room)

-- undefined sources, undefined outputs, names defined twice, each before what follows it
abbrev pub sources_fault : List Line → Judgement
sources_fault ls = lowest (λ (j : ℕ). unknown_fault (defined ls) (sources_in ls j)) (gate_count ls)

abbrev pub gates_refusal : List Line → ℕ → Judgement
gates_refusal ls room = otherwise (sources_fault ls) (placed_refusal ls room)

abbrev pub outputs_refusal : List Line → ℕ → Judgement
outputs_refusal ls room = otherwise (unknown_fault (defined ls) (listed outputs_key ls)) (gates_refusal ls room)

abbrev pub names_refusal : List Line → ℕ → Judgement
names_refusal ls room = otherwise (again_fault (defined ls)) (outputs_refusal ls room)

-- counts inside the image's
pub record Within (ls : List Line) : Type 0 where
  pub few_inputs : input_count ls ≤ most_inputs
  pub few_gates : gate_count ls ≤ most_gates
  pub few_outputs : output_count ls ≤ most_outputs

-- each gate's line has one to five names
pub record Fitting (ls : List Line) : Type 0 where
  pub some : (j : ℕ) → j < gate_count ls → 2 ≤ length (get_or (gates_of ls) j no_gate).head.words
  pub few : (j : ℕ) → j < gate_count ls → length (get_or (gates_of ls) j no_gate).head.words ≤ most_pins + 2

-- the names that inputs and gates define, in tables
pub record Named (text starts lines : List ℕ) (n : ℕ) (names numbers : List ℕ) (many : ℕ) (heads : List ℕ) (inputs gates : ℕ) : Type 0 where
  pub words : Words text starts lines n
  pub within : Within (lines_from text starts lines n 0)
  pub inputs_are : inputs ≡ input_count (lines_from text starts lines n 0)
  pub gates_are : gates ≡ gate_count (lines_from text starts lines n 0)
  pub many_are : many ≡ inputs + gates
  pub defined_are : held text names numbers 0 many ≡ defined (lines_from text starts lines n 0)
  pub names_in : Places text names many
  pub numbers_long : many ≤ length numbers
  pub headed : Heads text starts lines n heads gates
  pub heads_long : gates ≤ length heads
  pub fitting : Headed lines n heads gates

-- the outputs, as numbers of definitions
pub record OutputsKnown (text starts lines : List ℕ) (n : ℕ) (outs : List ℕ) (inputs outputs : ℕ) : Type 0 where
  pub outputs_are : outputs ≡ output_count (lines_from text starts lines n 0)
  pub outs_are : entries outs 0 outputs ≡ output_numbers (lines_from text starts lines n 0)
  pub outs_known : (i : ℕ) → get_or outs i 0 < inputs + most_gates
  pub outs_long : outputs ≤ length outs
