-- Refusal 19, its first test: counts outside the image's.
use Rattle.std.specs.Prelude.{ℕ, cond, List, length, get_or, leb}
use Rattle.refusal.specs.Judgement.{Judgement}
use Rattle.refusal.specs.Judgement.{Fine}
use Rattle.refusal.specs.Judgement.{refuse_unless}
use Rattle.area.specs.Layout.{most_inputs, most_gates, most_outputs}
use Rattle.texts.specs.Words.{Word}
use Rattle.statements.specs.Lines.{Line, last_line}
use Rattle.model.specs.Model.{inputs_key, outputs_key, gates_key, listed, no_word}
use Rattle.refusal.specs.declared.Cause.TheVariants.{TextModel}
use Rattle.std.specs.Prelude.{Err}

-- of two refusals the one at the lower line
abbrev pub earlier : Judgement → Judgement → Judgement
earlier Fine w = w
earlier (Err why) Fine = Err why
earlier (Err why) (Err why2) = cond (leb why.place why2.place) (Err why) (Err why2)

-- the line of entry i
abbrev pub line_at : List Word → ℕ → ℕ
line_at ws i = (get_or ws i no_word).line

-- more than `most` names are refused at the line of the first past them
abbrev pub over_fault : List Word → ℕ → Judgement
over_fault ws most = refuse_unless (leb (length ws) most) TextModel (line_at ws most)

-- a model without an output is refused at its last line, which is `.end` (statements/specs/Statements.antt)
abbrev pub some_fault : List Line → Judgement
some_fault ls = refuse_unless (leb 1 (length (listed outputs_key ls))) TextModel (last_line ls).number

unfoldable pub count_fault : List Line → Judgement
count_fault ls =
    earlier (over_fault (listed inputs_key ls) most_inputs)
    (earlier (over_fault (listed outputs_key ls) most_outputs)
    (earlier (over_fault (listed gates_key ls) most_gates) (some_fault ls)))
