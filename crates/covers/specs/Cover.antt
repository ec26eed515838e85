-- Covers and the tables that equal them.
use Rattle.std.specs.Prelude.{ℕ, zero, suc, ◌+◌, ◌*◌, ◌^◌, Bool, true, false, cond, not, Option, Some, None, List, [], ◌∷◌, get_or, eqb}
use Rattle.figure.specs.Figure.{bit_of}
use Rattle.netlist.specs.Netlist.{input_values}
use Rattle.statements.specs.Lines.{Line}
use Rattle.statements.specs.Fit.{value_of}
use Rattle.model.specs.Model.{last_of}

-- a line meets the sources' values: each byte is - or the value's digit
unfoldable pub byte_meets : ℕ → ℕ → Bool
byte_meets b digit = cond (eqb b 45) true (eqb b (48 + digit))

abbrev pub meets : List ℕ → List Bool → Bool
meets [] vs = true
meets (b ∷ bs) [] = true
meets (b ∷ bs) (v ∷ vs) = cond (byte_meets b (bit_of v)) (meets bs vs) false

-- the first word of a cover line has a byte for each source; without sources every line meets
abbrev pub some_meets : List Line → List Bool → Bool
some_meets [] vs = false
some_meets (l ∷ ls) vs = cond (meets (get_or l.words 0 []) vs) true (some_meets ls vs)

-- what the lines end in; none where there is none
abbrev pub ending_of : List Line → Option Bool
ending_of [] = None
ending_of (l ∷ ls) = value_of (last_of l.words)

-- lines that end in 1 say where the gate is 1, lines that end in 0 where it is 0; an empty cover is 0
abbrev pub value_where : Option Bool → Bool → Bool
value_where (Some false) met = not met
value_where (Some true) met = met
value_where None met = met

unfoldable pub cover_value : List Line → List Bool → Bool
cover_value cover vs = value_where (ending_of cover) (some_meets cover vs)

-- the table whose bits are f i, f (i + 1) and so on, k of them
abbrev pub table_from : (ℕ → Bool) → ℕ → ℕ → ℕ
table_from f i zero = 0
table_from f i (suc k) = bit_of (f i) + 2 * table_from f (suc i) k

-- the table of a pins with the value F: row i is the index whose bits are the pins' values
unfoldable pub table_of : ℕ → (List Bool → Bool) → ℕ
table_of a F = table_from (λ i. F (input_values a i)) 0 (2 ^ a)

unfoldable pub cover_table : ℕ → List Line → ℕ
cover_table a cover = table_of a (cover_value cover)
