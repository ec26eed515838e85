-- Walking a text line by line.
use Rattle.std.specs.Prelude.{ℕ, ◌+◌, ◌-◌, ◌<◌, ◌≤◌, ◌≡◌, length, get_or, Option, MatchOption}
use Rattle.names.specs.declared.Words.{Words}
use Rattle.statements.specs.Lines.{alike}
use Rattle.statements.specs.declared.Line.{Line}
use Rattle.statements.specs.declared.LineWalk.{LineWalk}

-- every word has the number of its line
abbrev pub CanWalk : LineWalk → Type 0
CanWalk s = s.count ≤ length s.numbers.now

-- the line that begins at word `first`
pub record LineAt (s : LineWalk) (first rest : ℕ) : Type 0 where
  pub here : first ≡ s.at
  pub inside : s.at < s.count
  pub words : rest ≡ alike s.numbers.now (get_or s.numbers.now s.at 0) (s.at + 1) (s.count - (s.at + 1))

-- a step: the line that begins here, up to the next one; or no word is left
abbrev pub NextLine : LineWalk → Option Line → LineWalk → Type 0
NextLine s r t =
    (t.numbers ≡ s.numbers)
    × (t.count ≡ s.count)
    × MatchOption r ((s.count ≤ s.at) × (t.at ≡ s.at)) (λ (l : Line). LineAt s l.first l.rest × (t.at ≡ s.at + (l.rest + 1)) × (t.at ≤ t.count))

-- a walk over words that are lent, which has come as far as a line's first word or the end
pub record Walks (w : Words) (s : LineWalk) : Type 0 where
  pub numbers : s.numbers ≡ w.lines
  pub count : s.count ≡ w.count
  pub within : s.at ≤ w.count
