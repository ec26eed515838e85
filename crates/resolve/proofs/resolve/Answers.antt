-- `resolve::resolve` meets its contract. Assumes nothing.
use Prim.Native.Nat.{ℕ, ◌≤◌, ◌<◌}
use mathlib.Core.Path.{◌≡◌, ap, ◌∙◌}
use native.Mathlib.Omega.{arith}
use Rattle.refusal.specs.Judgement.{refused}
use Rattle.refusal.proofs.Laws.{refused-not-fine}
use Rattle.resolve.proofs.Lookup.{turn, stops, finish}
use mathlib.Core.Logic.{⊎_elim}
use native.Mathlib.Nat.{eq-or-lt_of_le}
use Rattle.resolve.proofs.resolve.Goals as goal
use Rattle.refusal.specs.declared.Cause.TheVariants.{TextModel}

below : (x m : ℕ) → x ≤ m → (x ≡ m → ⊥) → x < m
below x m l e = ⊎_elim (λ (q : x ≡ m). absurd (e q)) (λ (q : x < m). q) (eq-or-lt_of_le {n = x} {m = m} l)

pub returns-then-number-names : goal.returns-then-number-names
returns-then-number-names c =
    let at-find-word = c.find_word-number in
    let l = c.loop-i in
    let a = c.args in record {
      by_index = λ ls. ap (refused TextModel) c.line.ensures ∙ stops a.words.now.text.now a.names.now.starts.now a.names.now.count a.words.now.starts.now a.words.now.lines.now a.start a.count _ a.base l.table l.i
          l.invariant c.loop-i-test.true c.requires.count_in_bounds at-find-word.result at-find-word.ensures.0 c.if-number-names.true ls;
      found = refused-not-fine _ _;
    }

pub loop-i-preserved : goal.loop-i-preserved
loop-i-preserved c =
    let l = c.loop-i in
    let a = c.args in
    turn a.words.now.text.now a.names.now.starts.now a.names.now.count a.words.now.starts.now a.words.now.lines.now a.start a.count _ a.base l.table l.i
    l.invariant c.loop-i-test.true c.requires.count_in_bounds c.find_word-number.result c.find_word-number.ensures.0 (below c.find_word-number.result a.names.now.count c.find_word-number.ensures.1 c.if-number-names.false)

pub returns : goal.returns
returns c =
    let l = c.loop-i in
    let a = c.args in
    let f = finish a.words.now.text.now a.names.now.starts.now a.names.now.count a.words.now.starts.now a.words.now.lines.now a.start a.count _ a.base l.table l.i (omega arith) l.invariant in record { by_index = f.0; found = λ _. f.1 }
