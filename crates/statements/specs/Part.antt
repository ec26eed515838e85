-- The words of a line after its first, which stand one after another in a text.
use Rattle.std.specs.Prelude.{ℕ, ◌+◌, ◌<◌, ◌^◌, List}
use Rattle.statements.specs.declared.Part.TheInside.{Inside}
use Rattle.statements.specs.Lines.{PlacesTo, bytes_of}

-- all of them have places, whose numbers fit the machine's words; and their bytes
abbrev pub InText : Inside → Type 0
InText p = PlacesTo p.words.now (p.from + p.many) × (p.from + p.many < 2 ^ 64)

abbrev pub bytes_in : Inside → List (List ℕ)
bytes_in p = bytes_of p.words.now p.from p.many
