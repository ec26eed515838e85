-- `resolve::resolve_gate` meets its contract. Assumes nothing.
use Prim.Native.Nat.{◌≤◌}
use mathlib.Core.Path.{refl, ap, sym, ◌∙◌}
use native.Mathlib.Omega.{arith}
use Rattle.texts.specs.Words.{held}
use Rattle.statements.proofs.Lines.{places-less}
use Rattle.model.proofs.Runs.{shorter}
use Rattle.resolve.specs.Names.{unknown_fault}
use Rattle.resolve.proofs.Gates.{sources-held}
use Rattle.resolve.proofs.resolve_gate.Goals as goal

pub resolve-requires : goal.resolve-requires
resolve-requires c =
    let a = c.args in
    let short = shorter a.words.now.text.now a.words.now.starts.now a.words.now.lines.now a.words.now.count a.head c.line_rest-count.result c.requires.head_lt_n.0 c.line_rest-count.ensures in
    let few : c.line_rest-count.result ≤ 5 = rw c.line_rest-count.ensures c.requires.head_lt_n.2 in
    let head_in = c.requires.head_lt_n.0 in record { defined = c.requires.defined; places_2 = (places-less c.requires.lent.0 (omega (arith, short, head_in)), omega (arith, short, head_in, c.requires.lent.1)); count_in_bounds = omega (arith, few, c.requires.gate_lt_most_gates.0, c.requires.gate_lt_most_gates.1.long) }

pub returns : goal.returns
returns c =
    let at-line-rest = c.line_rest-count in
    let a = c.args in
    let e = rw at-line-rest.ensures at c.resolve.ensures in record { by_index = λ ls. e.by_index ls ∙ ap (unknown_fault (held a.words.now.text.now a.names.now.starts.now ls 0 a.names.now.count)) (sym (sources-held a.words.now.text.now a.words.now.starts.now a.words.now.lines.now a.words.now.count a.head c.requires.head_lt_n.0)); found = e.found; counts_after = rw at-line-rest.ensures refl }
