-- `resolve::resolve_gates` meets its contract. Assumes nothing.
use Prim.Native.Nat.{ℕ}
use mathlib.Core.Path.{◌≡◌, ap, sym, ◌∙◌}
use native.Mathlib.Omega.{arith}
use lib.ListN.{length, get_or, length-set}
use Rattle.refusal.proofs.Laws.{lowest-answer}
use Rattle.texts.specs.Words.{held}
use Rattle.model.specs.Model.{sources}
use Rattle.model.specs.Tables.{gate_from}
use Rattle.resolve.specs.Names.{unknown_fault}
use Rattle.resolve.proofs.Gates.{turn}
use Rattle.std.proofs.lemmas.Result.{err_from_is_err_and}
use Rattle.resolve.proofs.resolve_gates.Goals as goal

pub loop-j-preserved : goal.loop-j-preserved
loop-j-preserved c =
    let at-loop-test = c.loop-j-test in
    let l = c.loop-j in
    let a = c.args in
    let headed = c.requires.gates_le_most_gates.1 in
    let told = c.in_ok-resolve_gate.was in
    let e = rw c.entry.ensures at c.resolve_gate.ensures in (
      turn a.words.now.text.now a.names.now.starts.now a.names.now.count a.words.now.starts.now a.words.now.lines.now a.words.now.count a.heads.now l.pins l.counts l.j l.invariant.0
          (omega (arith, c.requires.gates_le_most_gates.0, at-loop-test.true)) (headed.inside l.j at-loop-test.true) (headed.fits l.j at-loop-test.true).1
          _ _ (λ ls. sym told ∙ e.by_index ls) (e.found told) e.counts_after,
      (e.found told).kept.long ∙ l.invariant.1,
      ap length e.counts_after ∙ length-set l.counts l.j _ ∙ l.invariant.2,
    )

pub returns-in_err-resolve_gate-clause-by_index : goal.returns-in_err-resolve_gate-clause-by_index
returns-in_err-resolve_gate-clause-by_index c =
    let l = c.loop-j in
    let w = c.args.words.now in
    let names = c.args.names.now in
    let told = c.in_err-resolve_gate.was in
    let e = rw c.entry.ensures at c.resolve_gate.ensures.by_index in
    let p = err_from_is_err_and c.from_residual.result c.from_residual.ensures.1 in rw (p.1, p.2)
    (λ ls. lowest-answer (λ (j : ℕ). unknown_fault (held w.text.now names.starts.now ls 0 names.count)
    (sources (gate_from w.text.now w.starts.now w.lines.now w.count (get_or c.args.heads.now j 0))))
    (length c.args.heads.now) l.j _ _ c.loop-j-test.true (l.invariant.0.fine ls) (sym (e ls) ∙ told))

pub returns : goal.returns
returns c =
    let l = c.loop-j in
    let a = c.args in
    let end : l.j ≡ length a.heads.now = omega arith in record { by_index = λ ls. sym (rw end at (l.invariant.0.fine ls)); sources = λ _ ls. rw end at (l.invariant.0.so_far ls) }
