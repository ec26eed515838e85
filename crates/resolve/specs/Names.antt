-- Refusal 19, its second and third test: a name defined twice, a name undefined.
use Rattle.std.specs.Prelude.{ℕ, List, map, length, get_or, eqb, ltb}
use Rattle.refusal.specs.Judgement.{Judgement}
use Rattle.refusal.specs.Judgement.{refuse_unless, otherwise, lowest}
use Rattle.texts.specs.Words.{Word}
use Rattle.statements.specs.Lines.{Line}
use Rattle.model.specs.Model.{outputs_key, listed, defined, number, sources, gates_of, no_word, no_gate}
use Rattle.model.specs.Counts.{line_at}
use Rattle.refusal.specs.declared.Cause.TheVariants.{TextModel}

-- definition i is its name's first
abbrev pub again_at : List Word → ℕ → Judgement
again_at ds i = refuse_unless (eqb (number ds (get_or ds i no_word).bytes) i) TextModel (line_at ds i)

unfoldable pub again_fault : List Word → Judgement
again_fault ds = lowest (again_at ds) (length ds)

-- use i names one of the definitions
abbrev pub unknown_at : List Word → List Word → ℕ → Judgement
unknown_at ds us i = refuse_unless (ltb (number ds (get_or us i no_word).bytes) (length ds)) TextModel (line_at us i)

unfoldable pub unknown_fault : List Word → List Word → Judgement
unknown_fault ds us = lowest (unknown_at ds us) (length us)

-- the names that gate j of the text reads, and their numbers
abbrev pub sources_in : List Line → ℕ → List Word
sources_in ls j = sources (get_or (gates_of ls) j no_gate)

abbrev pub source_numbers : List Line → ℕ → List ℕ
source_numbers ls j = map (λ (w : Word). number (defined ls) w.bytes) (sources_in ls j)

-- outputs stand before gates in a text, so that this is its order
unfoldable pub names_fault : List Line → Judgement
names_fault ls =
    otherwise (again_fault (defined ls))
    (otherwise (unknown_fault (defined ls) (listed outputs_key ls)) (lowest (λ (j : ℕ). unknown_fault (defined ls) (sources_in ls j)) (length (gates_of ls))))
