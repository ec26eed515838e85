-- The statements of the subset and their order, document 01's section on the text of card 4: refusal 18.
use Rattle.std.specs.Prelude.{ℕ, ◌+◌, ◌-◌, Bool, true, false, cond, not, Option, Some, None, List, [], ◌∷◌, length, get_or, eqb, leb}
use Rattle.refusal.specs.Judgement.{Judgement}
use Rattle.refusal.specs.Judgement.{refused}
use Rattle.refusal.specs.Judgement.{refuse_unless}
use Rattle.names.specs.Names.{same, is_name}
use Rattle.area.specs.Layout.{most_pins}
use Rattle.statements.specs.Lines.{Line}
use Rattle.statements.specs.declared.Keyword.{Keyword}
use Rattle.statements.specs.declared.Keyword.TheVariants.{Model, Inputs, Outputs, Names, End, Other}
use Rattle.statements.specs.declared.Phase.{Phase}
use Rattle.statements.specs.declared.Phase.TheVariants.{Before, Heading, Cover, Ended}
use Rattle.refusal.specs.declared.Cause.TheVariants.{TextLine}

-- .model .inputs .outputs .names .end
unfoldable pub key_model : List ℕ
key_model = 46 ∷ 109 ∷ 111 ∷ 100 ∷ 101 ∷ 108 ∷ []

unfoldable pub key_inputs : List ℕ
key_inputs = 46 ∷ 105 ∷ 110 ∷ 112 ∷ 117 ∷ 116 ∷ 115 ∷ []

unfoldable pub key_outputs : List ℕ
key_outputs = 46 ∷ 111 ∷ 117 ∷ 116 ∷ 112 ∷ 117 ∷ 116 ∷ 115 ∷ []

unfoldable pub key_names : List ℕ
key_names = 46 ∷ 110 ∷ 97 ∷ 109 ∷ 101 ∷ 115 ∷ []

unfoldable pub key_end : List ℕ
key_end = 46 ∷ 101 ∷ 110 ∷ 100 ∷ []

unfoldable pub keyword_of : List ℕ → Keyword
keyword_of w =
    cond (same w key_model) Model
    (cond (same w key_inputs) Inputs (cond (same w key_outputs) Outputs (cond (same w key_names) Names (cond (same w key_end) End Other))))

abbrev pub all_names : List (List ℕ) → Bool
all_names [] = true
all_names (w ∷ ws) = cond (is_name w) (all_names ws) false

-- the value that the last word of a cover line says, 0 or 1; none for any other word
unfoldable pub value_of : List ℕ → Option Bool
value_of w = cond (same w (48 ∷ [])) (Some false) (cond (same w (49 ∷ [])) (Some true) None)

-- 0, 1 or - for each source
unfoldable pub row_byte : ℕ → Bool
row_byte b = cond (eqb b 48) true (cond (eqb b 49) true (eqb b 45))

abbrev pub row_bytes : List ℕ → Bool
row_bytes [] = true
row_bytes (b ∷ s) = cond (row_byte b) (row_bytes s) false

unfoldable pub is_row : ℕ → List ℕ → Bool
is_row width w = cond (eqb (length w) width) (row_bytes w) false

-- What may follow: before `.model`; inputs, outputs and gates; lines of a cover of so many sources, whose lines end in `ending` (none before the first),
-- and gates; nothing. After a line that does not fit there is no such phase.
-- `.model` with one name
unfoldable pub after_model : List (List ℕ) → Option Phase
after_model ws = cond (eqb (length ws) 1) (cond (all_names ws) (Some Heading) None) None

-- `.inputs` and `.outputs` with names
unfoldable pub after_list : List (List ℕ) → Option Phase
after_list ws = cond (all_names ws) (Some Heading) None

-- `.names` with up to four sources and the gate's name
unfoldable pub after_gate : List (List ℕ) → Option Phase
after_gate ws =
    cond (leb 1 (length ws)) (cond (leb (length ws) (most_pins + 1)) (cond (all_names ws) (Some (Cover (length ws - 1) None)) None) None) None

-- `.end` with no further words
unfoldable pub after_end : ℕ → Option Phase
after_end further = cond (eqb further 0) (Some Ended) None

-- a cover has one ending: that of its first line
abbrev pub after_value : ℕ → Option Bool → Option Bool → Option Phase
after_value width ending None = None
after_value width None (Some x) = Some (Cover width (Some x))
after_value width (Some y) (Some x) = cond (cond y x (not x)) (Some (Cover width (Some x))) None

unfoldable pub after_line : ℕ → Option Bool → List (List ℕ) → Option Phase
after_line width ending ws =
    cond (eqb width 0) (cond (eqb (length ws) 1) (after_value width ending (value_of (get_or ws 0 []))) None)
    (cond (eqb (length ws) 2) (cond (is_row width (get_or ws 0 [])) (after_value width ending (value_of (get_or ws 1 []))) None) None)

abbrev pub after_first : Keyword → List (List ℕ) → Option Phase
after_first Model ws = after_model ws
after_first Inputs ws = None
after_first Outputs ws = None
after_first Names ws = None
after_first End ws = None
after_first Other ws = None

abbrev pub after_heading : Keyword → List (List ℕ) → Option Phase
after_heading Model ws = None
after_heading Inputs ws = after_list ws
after_heading Outputs ws = after_list ws
after_heading Names ws = after_gate ws
after_heading End ws = after_end (length ws)
after_heading Other ws = None

abbrev pub after_cover : ℕ → Option Bool → Keyword → List ℕ → List (List ℕ) → Option Phase
after_cover width ending Model w ws = None
after_cover width ending Inputs w ws = None
after_cover width ending Outputs w ws = None
after_cover width ending Names w ws = after_gate ws
after_cover width ending End w ws = after_end (length ws)
after_cover width ending Other w ws = after_line width ending (w ∷ ws)

abbrev pub fit_as : Phase → Keyword → List ℕ → List (List ℕ) → Option Phase
fit_as Before key w ws = after_first key ws
fit_as Heading key w ws = after_heading key ws
fit_as (Cover width ending) key w ws = after_cover width ending key w ws
fit_as Ended key w ws = None

-- a word is a keyword at the front of a line alone
abbrev pub fit : Phase → List (List ℕ) → Option Phase
fit p [] = None
fit p (w ∷ ws) = fit_as p (keyword_of w) w ws

abbrev pub is_ended : Phase → Bool
is_ended Before = false
is_ended Heading = false
is_ended (Cover width ending) = false
is_ended Ended = true

-- a line that does not fit is refused; else what follows it counts
abbrev pub if_fits : Option Phase → Judgement → (Phase → Judgement) → Judgement
if_fits None misfit rest = misfit
if_fits (Some p) misfit rest = rest p

-- refusal 18 of lines: the first that does not fit; the text's last where only `.end` is missing
abbrev pub fault : Phase → List Line → ℕ → Judgement
fault p [] last = refuse_unless (is_ended p) TextLine last
fault p (l ∷ ls) last = if_fits (fit p l.words) (refused TextLine l.number) (λ q. fault q ls last)
