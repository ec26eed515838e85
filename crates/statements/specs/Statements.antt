-- What is promised of lines in which refusal 18 finds nothing.
use Rattle.std.specs.Prelude.{ℕ, ◌≡◌, List, [], ◌∷◌}
use Rattle.refusal.specs.Judgement.{Fine}
use Rattle.statements.specs.declared.Phase.TheVariants.{Before}
use Rattle.statements.specs.Lines.{Line, last_line}
use Rattle.statements.specs.Fit.{key_end, fault}

-- the last line with words is `.end` and nothing else
abbrev pub EndIsLast : Type 0
EndIsLast = (ls : List Line) (last : ℕ) → fault Before ls last ≡ Fine → (last_line ls).words ≡ key_end ∷ []
