-- The model that the lines of a text describe, where refusal 18 finds nothing.
use Rattle.std.specs.Prelude.{ℕ, suc, ◌-◌, Bool, cond, List, [], ◌∷◌, ◌++◌, map, length, get_or, take}
use denote.Enum.Bare.{sameb}
use Rattle.texts.specs.Words.{Word}
use Rattle.names.specs.Names.{same}
use Rattle.statements.specs.Lines.{Line}
use Rattle.statements.specs.Fit.{keyword_of}
use Rattle.statements.specs.contracts.Keyword.{the_type}
use Rattle.statements.specs.declared.Keyword.{Keyword}
use Rattle.statements.specs.declared.Keyword.TheVariants.{Inputs, Outputs, Names, Other}

-- `==` on keywords
abbrev pub same_key : Keyword → Keyword → Bool
same_key = sameb the_type

-- the keyword of the lines that list inputs, outputs and gates; a cover's lines begin with none
abbrev pub inputs_key : Keyword
inputs_key = Inputs

abbrev pub outputs_key : Keyword
outputs_key = Outputs

abbrev pub gates_key : Keyword
gates_key = Names

abbrev pub cover_key : Keyword
cover_key = Other

-- the keyword of a line, the words after it, and its last word
abbrev pub key_of : List (List ℕ) → Keyword
key_of [] = cover_key
key_of (w ∷ ws) = keyword_of w

abbrev pub after : List (List ℕ) → List (List ℕ)
after [] = []
after (w ∷ ws) = ws

abbrev pub last_of : List (List ℕ) → List ℕ
last_of ws = get_or ws (length ws - 1) []

-- a word of a line
abbrev pub word_in : ℕ → List ℕ → Word
word_in line bytes = record { line = line; bytes = bytes }

-- the names that a line of this keyword lists: inputs and outputs all its names, a gate's line the gate's own, its last
abbrev pub names_in : Keyword → Line → List Word
names_in key l = cond (same_key key gates_key) (word_in l.number (last_of l.words) ∷ []) (map (word_in l.number) (after l.words))

-- the names that all lines of a keyword list, in the order of the text: inputs, outputs and gates are numbered so
abbrev pub listed : Keyword → List Line → List Word
listed key [] = []
listed key (l ∷ ls) = cond (same_key (key_of l.words) key) (names_in key l) [] ++ listed key ls

-- a gate: its `.names` line, and the cover lines that follow it
pub record GateText : Type 0 where
  pub head : Line
  pub cover : List Line

abbrev pub cover_of : List Line → List Line
cover_of [] = []
cover_of (l ∷ ls) = cond (same_key (key_of l.words) cover_key) (l ∷ cover_of ls) []

abbrev pub gates_of : List Line → List GateText
gates_of [] = []
gates_of (l ∷ ls) = cond (same_key (key_of l.words) gates_key) (record { head = l; cover = cover_of ls } ∷ []) [] ++ gates_of ls

-- the names that a gate reads: those between `.names` and its own
abbrev pub sources : GateText → List Word
sources g = map (word_in g.head.number) (take (length g.head.words - 2) (after g.head.words))

-- inputs and gates define names, in the order of the text
abbrev pub defined : List Line → List Word
defined ls = listed inputs_key ls ++ listed gates_key ls

-- the number of a name's first definition: below n an input, n + j gate j; the number of all definitions where it has none
abbrev pub number : List Word → List ℕ → ℕ
number [] w = 0
number (d ∷ ds) w = cond (same d.bytes w) 0 (suc (number ds w))

-- past the last name, and past the last gate
abbrev pub no_word : Word
no_word = record { line = 0; bytes = [] }

abbrev pub no_gate : GateText
no_gate = record { head = record { number = 0; words = [] }; cover = [] }
