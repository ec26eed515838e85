-- `loops::order_gates` meets its contract. Assumes nothing.
use Prim.Native.Nat.{ℕ, ◌+◌}
use mathlib.Core.Path.{sym, ◌∙◌}
use lib.ListN.{get_or}
use Rattle.placing.specs.Placing.{sources_of}
use Rattle.placing.proofs.Placed.{no_loop}
use Rattle.loops.proofs.First.{none-loops, all_placed-all}
use Rattle.loops.proofs.order_gates.Goals as goal

pub returns-then-placed-gates : goal.returns-then-placed-gates
returns-then-placed-gates c =
    let a = c.args in
    let p = rw c.if-placed-gates.true at c.place_all-placed.ensures in record { value = sym (none-loops (sources_of a.sources.pins.now a.sources.counts.now) a.sources.inputs a.gates c.requires.by_index _ _ p.kept (λ (j : ℕ). get_or a.numbers.now (a.sources.inputs + j) 0)); placed = λ _. p }

pub first_loop-requires : goal.first_loop-requires
first_loop-requires c =
    let p = c.place_all-placed.ensures in record { gates_le_most_gates = c.requires.gates_le_most_gates; by_index = c.requires.by_index; place_len = (p.kept.long, no_loop (sources_of c.args.sources.pins.now c.args.sources.counts.now) c.args.sources.inputs c.args.gates _ _ _ p.kept) }

pub returns : goal.returns
returns c =
    let p = c.place_all-placed in record {
      value = c.first_loop.ensures;
      placed = λ fine. absurd (c.if-placed-gates.false (all_placed-all (sources_of c.args.sources.pins.now c.args.sources.counts.now) c.args.sources.inputs c.args.gates c.requires.by_index _ _ _ p.result p.ensures
          (λ (j : ℕ). get_or c.args.numbers.now (c.args.sources.inputs + j) 0) (sym c.first_loop.ensures ∙ fine)));
    }
