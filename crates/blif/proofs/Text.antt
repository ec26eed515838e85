-- The words of a text in two tables. Assumes nothing.
use Prim.Native.Nat.{ℕ, ◌+◌, ◌<◌, ◌≤◌}
use mathlib.Core.Path.{◌≡◌, ap, ap₂, sym, subst, ◌∙◌}
use mathlib.Core.List.{List}
use mathlib.Core.Logic.{by_cases}
use native.Mathlib.Decide.{dec_lt}
use native.Mathlib.Nat.{sub-zero}
use native.Mathlib.Omega.{arith}
use lib.ListN.{length}
use borrow.Author.Tests.{le-leb, lt-leb}
use Rattle.refusal.specs.Judgement.{Fine, refused}
use Rattle.refusal.specs.Judgement.{otherwise}
use Rattle.texts.specs.Words.{Read, held, line_feeds, most_bytes}
use Rattle.statements.specs.declared.Phase.TheVariants.{Before}
use Rattle.statements.specs.Lines.{lines_of, Places}
use Rattle.statements.specs.Fit.{fault}
use Rattle.model.specs.Tables.{lines_from}
use Rattle.writing.specs.Written.{Words}
use Rattle.blif.specs.Reading.{text_lines, lines_refusal, blif_refusal}
use Rattle.blif.specs.Stages.{Fitting}
use Rattle.blif.proofs.Fits.{no_line, fitting}
use Rattle.refusal.specs.declared.Cause.TheVariants.{TextLine}

pub too_long : (t : List ℕ) (room : ℕ) → most_bytes < length t → blif_refusal t room ≡ refused TextLine 0
unfolding blif_refusal
too_long t room h = rw (lt-leb (length t) most_bytes h)

pub not-long : (t : List ℕ) (room : ℕ) → length t ≤ most_bytes
    → blif_refusal t room ≡ otherwise (fault Before (text_lines t) (1 + line_feeds t)) (lines_refusal (text_lines t) room)
unfolding blif_refusal
not-long t room h = rw (le-leb (length t) most_bytes h)

module _ {t s l : List ℕ} {n last : ℕ} (r : Read t s l n last) where
  pub same_lines : lines_from t s l n 0 ≡ text_lines t
  same_lines = ap (λ (k : ℕ). lines_of (held t s l 0 k)) (sub-zero n) ∙ ap lines_of r.words

  pub places : Places t s n
  places = record { within = rw r.tables.starts_long r.few; inside = r.inside }

  pub words : Words t s l n
  words = record { places = places; numbered = rw r.tables.lines_long r.few; few = r.few }

  pub some_word : fault Before (lines_of (held t s l 0 n)) last ≡ Fine → 0 < n
  some_word e = by_cases (dec_lt 0 n) (λ h. h) (λ none. absurd (no_line last (subst (λ (k : ℕ). fault Before (lines_of (held t s l 0 k)) last ≡ Fine) (zero-n none) e)))
    where
      zero-n : (0 < n → ⊥) → n ≡ 0
      zero-n none = omega arith

  pub same-fault : fault Before (lines_of (held t s l 0 n)) last ≡ fault Before (text_lines t) (1 + line_feeds t)
  same-fault = ap₂ (fault Before) (ap lines_of r.words) r.last_line

  pub fits : fault Before (lines_of (held t s l 0 n)) last ≡ Fine → Fitting (lines_from t s l n 0)
  fits e = subst (λ (k : ℕ). Fitting (lines_of (held t s l 0 k))) (sym (sub-zero n)) (fitting (lines_of (held t s l 0 n)) last e)
