-- `covers::ending` meets its contract. Assumes nothing.
use Rattle.model.proofs.Keys.{keys-differ, keys-alike}
use Prim.Native.Nat.{ℕ, ◌≤◌, ◌<◌}
use mathlib.Core.Path.{◌≡◌, refl, ap, sym, ◌∙◌}
use native.Mathlib.Omega.{arith}
use Rattle.model.specs.Tables.{rest_at}
use Rattle.model.proofs.Runs.{shorter, lines_end}
use mathlib.Core.Logic.{⊎_elim}
use native.Mathlib.Nat.{eq-or-lt_of_le}
use mathlib.Core.List.{List}
use Rattle.statements.specs.Lines.{Line}
use Rattle.model.specs.Model.{cover_of}
use Rattle.covers.specs.Cover.{ending_of}
use Rattle.covers.proofs.Cover.{cover-over, ends-in}
use Rattle.covers.proofs.ending.Goals.{then-from-words-via-then-from-words, then-from-words-via-else-from-words+then-ne}
use Rattle.covers.proofs.ending.Goals as goal

below : (x m : ℕ) → x ≤ m → (x ≡ m → ⊥) → x < m
below x m l e = ⊎_elim (λ (q : x ≡ m). absurd (e q)) (λ (q : x < m). q) (eq-or-lt_of_le {n = x} {m = m} l)

-- no line is left, or the next is no cover line
pub returns-then-from-words : goal.returns-then-from-words
returns-then-from-words c =
    let a = c.args in
    let w = a.words.now in
    elim c.then-from-words.branch [
      | then-from-words-via-then-from-words b ↦
          let over = lines_end w.text.now w.starts.now w.lines.now w.count a.from (omega (arith, b.if-from-words.true)) in
          sym (ap (λ (ls : List Line). ending_of (cover_of ls)) over)
      | then-from-words-via-else-from-words+then-ne b ↦
          let low = below a.from w.count c.requires.1 b.if-from-words.false in
          let rest = rest_at w.lines.now w.count a.from in
          let over = cover-over w.text.now w.starts.now w.lines.now w.count a.from rest low refl
          (λ e. keys-differ _ _ (sym b.ne.ensures ∙ b.if-ne.true) (b.key_at.ensures ∙ e)) in
          sym (ap ending_of over)
    ]

pub overflow_add-from : goal.overflow_add-from
overflow_add-from c =
    let a = c.args in
    let low = below a.from a.words.now.count c.requires.1 c.if-from-words.false in
    omega (arith, c.requires.0.2, shorter a.words.now.text.now a.words.now.starts.now a.words.now.lines.now a.words.now.count a.from c.line_rest.result low c.line_rest.ensures)

pub value_at-requires : goal.value_at-requires
value_at-requires c =
    let a = c.args in
    let low = below a.from a.words.now.count c.requires.1 c.if-from-words.false in
    let short = shorter a.words.now.text.now a.words.now.starts.now a.words.now.lines.now a.words.now.count a.from c.line_rest.result low c.line_rest.ensures in
    (omega (arith, short, c.requires.0.0.within), c.requires.0.0.inside _ (omega (arith, short)))

pub returns : goal.returns
returns c =
    let a = c.args in
    let low = below a.from a.words.now.count c.requires.1 c.if-from-words.false in
    c.value_at.ensures
    ∙ sym (ends-in a.words.now.text.now a.words.now.starts.now a.words.now.lines.now a.words.now.count a.from c.line_rest.result low c.line_rest.ensures (sym c.key_at.ensures ∙ keys-alike _ _ (sym c.ne.ensures ∙ c.if-ne.false)))
