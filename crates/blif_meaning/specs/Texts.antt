-- Worked texts with what the call answers and writes, as one table. `TextsHold` says that the definitions give it; proofs/Texts.antt proves it.
use Rattle.std.specs.Prelude.{ℕ, ◌+◌, List, [], ◌∷◌, ◌++◌, map, ◌≡◌, length, replicate, Result, Ok, Err}
use Prim.Native.Char.{code}
use Prim.Native.String.{String, [] as none, ◌∷◌ as ◌then◌}
use Rattle.lists.specs.Lists.{joined}
use Rattle.refusal.specs.declared.Cause.{Cause}
use Rattle.refusal.specs.declared.Cause.TheVariants.{TextLine, TextModel, ImageSlice}
use Rattle.refusal.specs.declared.Refusal.{Refusal}
use Rattle.refusal.specs.Judgement.{answer}
use Rattle.blif.specs.Reading.{text_lines, model_length, blif_refusal, blif_left}
use Rattle.statements.specs.Fit.{key_model, key_inputs, key_outputs, key_names, key_end}
use Rattle.calls.specs.Sheets.{never, gate_record, two_bytes, trailer}

-- the bytes of a text that is written out here: each of its characters is one
abbrev pub bytes_of : String → List ℕ
bytes_of none = []
bytes_of (c then s) = code c ∷ bytes_of s

pub record Worked : Type 0 where
  pub text : List ℕ
  pub room : ℕ
  pub answer : Result ℕ Refusal
  pub left : List ℕ

-- a slice before the call
abbrev pub stood : ℕ → List ℕ
stood room = replicate room 255

-- read into a slice that is two bytes longer than the image; into one of 64 bytes
abbrev pub accepted : String → List ℕ → Worked
accepted text image = record { text = bytes_of text; room = length image + 2; answer = Ok (length image); left = image ++ stood 2 }

abbrev pub refusal_at : Cause → ℕ → Result ℕ Refusal
refusal_at cause place = Err (record { cause = cause; place = place })

abbrev pub refused : String → Cause → ℕ → Worked
refused text cause place = record { text = bytes_of text; room = 64; answer = refusal_at cause place; left = stood 64 }

-- gates that never flip: without sources, with one and with two
abbrev pub constant : ℕ → List ℕ
constant table = gate_record 0 table 0 0 0 never

abbrev pub single : ℕ → ℕ → List ℕ
single table source = gate_record 1 table source 0 0 never

abbrev pub double : ℕ → ℕ → ℕ → List ℕ
double table first second = gate_record 2 table first second 0 never

-- AND of two inputs, and OR
abbrev pub and_text : String
and_text = ".model m\n.inputs a b\n.outputs y\n.names a b y\n11 1\n.end\n"

abbrev pub and_image : List ℕ
and_image = double 8 0 1 ++ (two_bytes (2 ∷ []) ++ trailer 2 1 1)

abbrev pub or_image : List ℕ
or_image = double 14 0 1 ++ (two_bytes (2 ∷ []) ++ trailer 2 1 1)

-- one name as so many outputs; so many gates
abbrev pub many_outputs : ℕ → List ℕ
many_outputs k = bytes_of ".model m\n.inputs a\n.outputs" ++ (joined (λ (i : ℕ). bytes_of " a") k ++ bytes_of "\n.end\n")

abbrev pub many_gates : ℕ → List ℕ
many_gates k = bytes_of ".model m\n.outputs a\n" ++ (joined (λ (i : ℕ). bytes_of ".names a\n") k ++ bytes_of ".end\n")

abbrev pub taken : List Worked
taken =
    accepted and_text and_image
    -- a joined line: backslash and LF part words
    ∷ accepted ".model m\n.inputs a\\\nb\n.outputs y\n.names a b y\n11 1\n.end\n" and_image
    -- comments: inside a word, with a backslash before the LF, between the lines of a cover, before `.model` and after `.end`
    ∷ accepted "# AND\n.model m\n.inputs a b#c\n.outputs y # \\\n.names a b y\n\n#00 1\n11 1\n.end#.end\n\n # more\n" and_image
    -- CR and tab part words, and the text may end without LF
    ∷ accepted ".model\tm\r\n.inputs a\tb\r\n.outputs y\r\n.names a b y\r\n11\t1\r\n.end" and_image
    -- lists in several lines, mixed; and gates listed before those they read: the inverter is placed first
    ∷ accepted ".model m\n.outputs y\n.inputs a\n.outputs\n.inputs b\n.names x b y\n11 1\n.names a x\n0 1\n.end\n"
    (single 1 0 ++ (double 8 2 1 ++ (two_bytes (3 ∷ []) ++ trailer 2 2 1)))
    -- of the gates whose sources are placed the earliest in the text is next: x, then y, which reads it, then z, which could have been placed before y
    ∷ accepted ".model m\n.inputs a\n.outputs y z\n.names x y\n1 1\n.names a x\n0 1\n.names a z\n1 1\n.end\n"
    (single 1 0 ++ (single 2 1 ++ (single 2 0 ++ (two_bytes (2 ∷ 3 ∷ []) ++ trailer 1 3 2))))
    -- keywords further on in a line are names
    ∷ accepted ".model .model\n.inputs 0 -\n.outputs .end\n.names 0 - .end\n11 1\n.end\n" and_image
    -- - stands for either value; and a cover whose lines say where the gate is 0
    ∷ accepted ".model m\n.inputs a b\n.outputs y\n.names a b y\n1- 1\n-1 1\n.end\n" or_image
    ∷ accepted ".model m\n.inputs a b\n.outputs y\n.names a b y\n00 0\n.end\n" or_image
    -- source i is bit i of the row
    ∷ accepted ".model m\n.inputs a b\n.outputs y\n.names a b y\n10 1\n.end\n" (double 2 0 1 ++ (two_bytes (2 ∷ []) ++ trailer 2 1 1))
    -- a cover without lines is 0; without sources a cover line has one word
    ∷ accepted ".model m\n.inputs a\n.outputs y\n.names a y\n.end\n" (single 0 0 ++ (two_bytes (1 ∷ []) ++ trailer 1 1 1))
    ∷ accepted ".model m\n.inputs\n.outputs y\n.names y\n1\n.end\n" (constant 1 ++ (two_bytes (0 ∷ []) ++ trailer 0 1 1))
    ∷ accepted ".model m\n.outputs y\n.names y\n0\n.end\n" (constant 0 ++ (two_bytes (0 ∷ []) ++ trailer 0 1 1))
    -- an output may be an input, and be listed twice
    ∷ accepted ".model m\n.inputs a b\n.outputs b b\n.end\n" (two_bytes (1 ∷ 1 ∷ []) ++ trailer 2 0 2)
    -- 64 outputs
    ∷ record { text = many_outputs 64; room = 144; answer = Ok 144; left = two_bytes (replicate 64 0) ++ trailer 1 0 64 }
    -- a slice that is as long as the image
    ∷ record { text = bytes_of and_text; room = 38; answer = Ok 38; left = and_image }
    ∷ []

abbrev pub outside_subset : List Worked
outside_subset =
    -- a text that is too long, and the longest
    record { text = replicate 32_769 32; room = 0; answer = refusal_at TextLine 0; left = [] }
    ∷ record { text = replicate 32_768 32; room = 0; answer = refusal_at TextLine 1; left = [] }
    -- no `.end`: 1 + the number of LFs, joined ones too
    ∷ refused "" TextLine 1
    ∷ refused ".model m\n.inputs \\\na\n.outputs a\n" TextLine 5
    ∷ refused ".model m\n.outputs y\n.names y" TextLine 3
    -- `.model` with one name comes first, and once
    ∷ refused "\n.inputs a\n.model m\n.end\n" TextLine 2
    ∷ refused ".model\n.end\n" TextLine 1
    ∷ refused ".model m n\n.end\n" TextLine 1
    ∷ refused ".model m\n.model m\n.end\n" TextLine 2
    -- lists stand before gates
    ∷ refused ".model m\n.outputs y\n.names y\n1\n.inputs a\n.end\n" TextLine 5
    ∷ refused ".model m\n.names y\n.outputs y\n.end\n" TextLine 3
    -- cover lines: no gate before them, another width, other bytes, another ending than the first
    ∷ refused ".model m\n1 1\n.end\n" TextLine 2
    ∷ refused ".model m\n.inputs a\n.outputs y\n.names a y\n11 1\n.end\n" TextLine 5
    ∷ refused ".model m\n.inputs a\n.outputs y\n.names a y\n1\n.end\n" TextLine 5
    ∷ refused ".model m\n.inputs a\n.outputs y\n.names a y\n2 1\n.end\n" TextLine 5
    ∷ refused ".model m\n.inputs a\n.outputs y\n.names a y\n1 -\n.end\n" TextLine 5
    ∷ refused ".model m\n.inputs a\n.outputs y\n.names a y\n1 1\n0 0\n.end\n" TextLine 6
    ∷ refused ".model m\n.outputs y\n.names y\n1 1\n.end\n" TextLine 4
    -- `.names` without a name, and with five sources
    ∷ refused ".model m\n.names\n.end\n" TextLine 2
    ∷ refused ".model m\n.inputs a\n.outputs y\n.names a a a a a y\n.end\n" TextLine 4
    -- words after `.end`, in its line and later
    ∷ refused ".model m\n.inputs a\n.outputs a\n.end .end\n" TextLine 4
    ∷ refused ".model m\n.inputs a\n.outputs a\n.end\n\n.end\n" TextLine 6
    -- other keywords; keywords are exact bytes
    ∷ refused ".model m\n.latch a b\n.end\n" TextLine 2
    ∷ refused ".model m\n.Inputs a\n.end\n" TextLine 2
    -- a line that is joined has the number of its first, and the LFs in it count
    ∷ refused ".model \\\nm \\\nn\n.end\n" TextLine 1
    ∷ refused ".model \\\nm\n.latch\n.end\n" TextLine 3
    -- a backslash that does not stand straight before the LF, and bytes that no name has
    ∷ refused ".model m\\\r\n.end\n" TextLine 1
    ∷ refused ".model m\n.inputs a\\b\n.end\n" TextLine 2
    ∷ refused ".model m\n.inputs a\u{7f}\n.end\n" TextLine 2
    ∷ refused ".model m\n.inputs a\0\n.end\n" TextLine 2
    -- a name of 33 bytes
    ∷ refused ".model m\n.inputs abcdefghijklmnopqrstuvwxyzabcdefg\n.end\n" TextLine 2
    ∷ []

abbrev pub outside_model : List Worked
outside_model =
    -- the thirteenth input, repeats counted; no output
    refused ".model m\n.inputs a b c d e f g h i j k l\n.inputs a\n.outputs a\n.end\n" TextModel 3
    ∷ refused ".model m\n.inputs a\n.outputs\n.end\n" TextModel 4
    -- the 65th output, and the 1,025th gate
    ∷ record { text = many_outputs 65; room = 0; answer = refusal_at TextModel 3; left = [] }
    ∷ record { text = many_gates 1_025; room = 0; answer = refusal_at TextModel 1_027; left = [] }
    -- both: the lower line
    ∷ refused ".model m\n.inputs a b c d e f g h i j k l m\n.end\n" TextModel 2
    -- defined twice: in one line, by an input and a gate, by two gates
    ∷ refused ".model m\n.inputs a\n.inputs b b\n.outputs a\n.end\n" TextModel 3
    ∷ refused ".model m\n.inputs a\n.outputs a\n.names a\n1\n.end\n" TextModel 4
    ∷ refused ".model m\n.outputs y\n.names y\n1\n.names y\n0\n.end\n" TextModel 5
    -- undefined: an output, a source
    ∷ refused ".model m\n.inputs a\n.outputs a\n.outputs a z\n.end\n" TextModel 4
    ∷ refused ".model m\n.inputs a\n.outputs a\n.names a x\n.names a z y\n.end\n" TextModel 5
    -- a loop: a gate that reads itself; two that read each other, behind one that only depends on them
    ∷ refused ".model m\n.inputs a\n.outputs y\n.names a y y\n11 1\n.end\n" TextModel 4
    ∷ refused ".model m\n.outputs y\n.names x y\n1 1\n.names z x\n1 1\n.names x z\n1 1\n.end\n" TextModel 5
    -- the tests in their order, though the later one's line is lower: twice before undefined, undefined before a loop
    ∷ refused ".model m\n.outputs z\n.names y\n.names y\n.end\n" TextModel 4
    ∷ refused ".model m\n.outputs y\n.names y y\n.names z x\n.end\n" TextModel 4
    -- TextLine in a later line comes first
    ∷ refused ".model m\n.inputs a a\n.outputs a\n.latch\n.end\n" TextLine 4
    -- a slice that is one byte short; TextModel comes before it
    ∷ record { text = bytes_of and_text; room = 37; answer = refusal_at ImageSlice 0; left = stood 37 }
    ∷ record { text = bytes_of ".model m\n.outputs y\n.end\n"; room = 0; answer = refusal_at TextModel 2; left = [] }
    ∷ []

abbrev pub worked : List Worked
worked = taken ++ (outside_subset ++ outside_model)

-- what the definitions give for each column; and the keywords
pub record TextsHold : Type 0 where
  pub keywords-hold :
      key_model ∷ key_inputs ∷ key_outputs ∷ key_names ∷ key_end ∷ [] ≡ map bytes_of (".model" ∷ ".inputs" ∷ ".outputs" ∷ ".names" ∷ ".end" ∷ [])
  pub answers-hold :
      map (λ (w : Worked). answer (blif_refusal w.text w.room) (model_length (text_lines w.text))) worked
      ≡ map (λ (w : Worked). w.answer) worked
  pub slices_hold : map (λ (w : Worked). blif_left w.text (stood w.room)) worked ≡ map (λ (w : Worked). w.left) worked
