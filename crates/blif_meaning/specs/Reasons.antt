-- Refusal 19 in document 02's words: what a line does to be refused by each of the four tests, and that the place is the lowest line that does it.
-- The tests' order is that of `model_fault`.
use Rattle.std.specs.Prelude.{ℕ, ◌+◌, ◌<◌, ◌≤◌, ◌≡◌, List, length, get_or}
use Rattle.refusal.specs.Judgement.{Judgement}
use Rattle.refusal.specs.Judgement.{Fine}
use Rattle.refusal.specs.Judgement.{otherwise}
use Rattle.area.specs.Layout.{most_inputs, most_gates, most_outputs}
use Rattle.texts.specs.Words.{Word, line_feeds}
use Rattle.statements.specs.declared.Phase.TheVariants.{Before}
use Rattle.statements.specs.Lines.{Line, last_line}
use Rattle.statements.specs.Fit.{fault}
use Rattle.placing.specs.Placing.{Depends}
use Rattle.model.specs.Model.{inputs_key, outputs_key, gates_key, listed, gates_of, defined, no_word, no_gate}
use Rattle.model.specs.Counts.{line_at, count_fault}
use Rattle.resolve.specs.Names.{again_fault, unknown_fault, names_fault, sources_in, source_numbers}
use Rattle.blif.specs.Reading.{text_lines, input_count, gate_count, loops_fault}
use Rattle.blif.specs.Stages.{sources_fault}
use Rattle.refusal.specs.declared.Cause.TheVariants.{TextModel}
use Rattle.std.specs.Prelude.{Err}

-- it passes the count: it has one input, output or gate more than an image can hold; or it is the last line, `.end`, of a model without outputs
pub data PassesCount (ls : List Line) : ℕ → Type 0 where
  of_inputs : most_inputs < length (listed inputs_key ls) → PassesCount ls (line_at (listed inputs_key ls) most_inputs)
  of_outputs : most_outputs < length (listed outputs_key ls) → PassesCount ls (line_at (listed outputs_key ls) most_outputs)
  of_gates : most_gates < length (listed gates_key ls) → PassesCount ls (line_at (listed gates_key ls) most_gates)
  no_output : length (listed outputs_key ls) ≡ 0 → PassesCount ls (last_line ls).number

-- it defines again: a name that an earlier definition has
abbrev pub name_of : List Word → ℕ → List ℕ
name_of ws i = (get_or ws i no_word).bytes

pub data DefinesAgain (ls : List Line) : ℕ → Type 0 where
  again : (i k : ℕ) → i < k → k < length (defined ls) → name_of (defined ls) i ≡ name_of (defined ls) k → DefinesAgain ls (line_at (defined ls) k)

-- it uses an undefined name, as an output or as a source of a gate
abbrev pub Undefined : List Line → List ℕ → Type 0
Undefined ls name = (i : ℕ) → i < length (defined ls) → name_of (defined ls) i ≡ name → ⊥

pub data UsesUndefined (ls : List Line) : ℕ → Type 0 where
  as_output : (k : ℕ) → k < length (listed outputs_key ls) → Undefined ls (name_of (listed outputs_key ls) k) → UsesUndefined ls (line_at (listed outputs_key ls) k)
  as_source : (j i : ℕ) → j < gate_count ls → i < length (sources_in ls j) → Undefined ls (name_of (sources_in ls j) i)
      → UsesUndefined ls (line_at (sources_in ls j) i)

-- it heads a gate of a loop: one that depends on itself
pub data HeadsLoop (ls : List Line) : ℕ → Type 0 where
  on_itself : (j : ℕ) → j < gate_count ls → Depends (source_numbers ls) (input_count ls) j j → HeadsLoop ls (get_or (gates_of ls) j no_gate).head.number

-- x is the lowest line that P holds of
pub record Lowest (P : ℕ → Type 0) (x : ℕ) : Type 0 where
  pub there : P x
  pub least : (y : ℕ) → P y → x ≤ y

-- a test is fine where P holds of no line, and refuses the model (19) at the lowest line that it holds of
abbrev pub Says : Judgement → (ℕ → Type 0) → Type 0
Says Fine P = (x : ℕ) → P x → ⊥
Says (Err why) P = (why.cause ≡ TextModel) × Lowest P why.place

pub record AsSaid (ls : List Line) : Type 0 where
  pub counts : Says (count_fault ls) (PassesCount ls)
  pub again : Says (again_fault (defined ls)) (DefinesAgain ls)
  pub undefined : Says (otherwise (unknown_fault (defined ls) (listed outputs_key ls)) (sources_fault ls)) (UsesUndefined ls)
  pub loops : names_fault ls ≡ Fine → Says (loops_fault ls) (HeadsLoop ls)

-- so for every text in which 18 finds nothing
abbrev pub RefusedAsSaid : Type 0
RefusedAsSaid = (text : List ℕ) → fault Before (text_lines text) (1 + line_feeds text) ≡ Fine → AsSaid (text_lines text)
