-- What a step of a walk over lines tells. Assumes nothing.
use Prim.Native.Nat.{ℕ, ◌+◌, ◌-◌, ◌<◌}
use mathlib.Core.Path.{◌≡◌, ◌∙◌}
use native.Mathlib.Omega.{arith}
use lib.ListN.{get_or}
use Rattle.std.proofs.Common.{Some}
use Rattle.names.specs.declared.Words.{Words}
use Rattle.statements.specs.Lines.{alike}
use Rattle.statements.specs.declared.Line.{Line}
use Rattle.statements.specs.declared.LineWalk.{LineWalk}
use Rattle.statements.specs.Walk.{NextLine, Walks}

-- the line begins where the walk stood, inside the words, and the walk stands behind it
pub record Stepped (w : Words) (s t : LineWalk) (first rest : ℕ) : Type 0 where
  pub here : first ≡ s.at
  pub inside : first < w.count
  pub words : rest ≡ alike w.lines.now (get_or w.lines.now first 0) (first + 1) (w.count - (first + 1))
  pub next : t.at ≡ first + (rest + 1)
  pub goes_on : Walks w t

pub stepped : {w : Words} {s t : LineWalk} {l : Line} → Walks w s → NextLine s (Some l) t → Stepped w s t l.first l.rest
stepped walks steps =
    let at = steps.2.0 in
    record {
      here = at.here;
      inside = omega (arith, at.here, at.inside, walks.count);
      words = rw (at.here, ← walks.numbers, ← walks.count) at.words;
      next = omega (arith, at.here, steps.2.1);
      goes_on = record { numbers = steps.0 ∙ walks.numbers; count = steps.1 ∙ walks.count; within = omega (arith, steps.1, steps.2.2, walks.count) };
    }
