-- `counts::count` meets its contract: block by block. Assumes nothing.
use Rattle.std.proofs.Common.{◌≡◌, ◌≤◌, List, ℕ, [], ◌++◌, length, arith, refl, sym, ap, ◌∙◌, append_assoc, length-append, drop, take}
use Rattle.std.proofs.lemmas.List.{nil_from_length, append-nil}
use Rattle.std.specs.Slice.Iter.{chunks_rest}
use lib.ListN.{replicate}
use Rattle.netlist.specs.Seen.{seen_counts}
use Rattle.area.specs.Layout as layout
use Rattle.area.specs.Net.{net_of}
use Rattle.area.proofs.Net.{gate_count}
use Rattle.counts.proofs.Added.{counted_start, counted_ready, counted-block, counted-whole}
use Rattle.counts.proofs.Cleared.{first-zeros, rest_same, as_long}
use Rattle.counts.proofs.count.Goals.{After-fill}
use Rattle.counts.proofs.count.Goals as goal

-- the counts of the gates are 0
module _ (c : After-fill) where
  few : c.gates.result ≤ length c.args.counts.now
  few = omega (arith, c.gates.ensures, c.requires.2)

  zeros : c.fill.new.self ≡ replicate (length (take c.gates.result c.args.counts.now)) 0
  zeros = c.fill.ensures.after (λ y same. same)

  abbrev start : List ℕ
  start = c.fill.new.self ++ drop c.gates.result c.args.counts.now

  room : length (net_of c.args.area.now [] []).gates ≤ length start
  room = omega (arith, as_long c.gates.result c.args.counts.now c.fill.new.self few zeros, gate_count c.args.area.now [] [], c.gates.ensures, few)

pub loop-block-init : goal.loop-block-init
loop-block-init c =
    let size : c.into_iter-block-iterator.result.size ≡ 64 = cc in
    let rest : c.args.patterns.now ≡ c.into_iter-block-iterator.result.rest.now = cc in
    let s = (goal.at.loop-block-init c).After-fill in (
      size,
      [],
      rest,
      counted_start c.args.method (net_of c.args.area.now [] []) (start s)
          (λ j less.
          first-zeros c.gates.result c.args.counts.now c.fill.new.self (few s) (zeros s) j
          (omega (arith, gate_count c.args.area.now [] [], c.gates.ensures))),
    )

pub count_block-requires : goal.count_block-requires
count_block-requires c =
    let l = c.loop-block in
    let a = c.args in
    let all = l.invariant.2 in
    let step = c.in-Some.ensures.steps in
    let ready = counted_ready a.method (net_of a.area.now [] []) (start (goal.at.count_block-requires c).After-fill) l.invariant.1 l.counts
    (omega (arith, c.requires.1, ap length all, length-append {A = ℕ})) (room (goal.at.count_block-requires c).After-fill) l.invariant.3 in
    record { net_sound = (c.requires.0, omega (arith, step.1.1, l.invariant.0)); counts_ready = rw (gate_count a.area.now [] []) at ready }

pub loop-block-preserved : goal.loop-block-preserved
loop-block-preserved c =
    let l = c.loop-block in
    let a = c.args in
    let step = c.in-Some.ensures.steps in (
      step.0 ∙ l.invariant.0,
      l.invariant.1 ++ c.in-Some.block.now,
      l.invariant.2 ∙ ap (λ (xs : List ℕ). l.invariant.1 ++ xs) step.1.0 ∙ sym (append_assoc l.invariant.1 c.in-Some.block.now (chunks_rest c.next.new.self)),
      counted-block a.method (net_of a.area.now [] []) (start (goal.at.loop-block-preserved c).After-fill) l.invariant.1 c.in-Some.block.now l.counts _ l.invariant.3 c.count_block.ensures,
    )

pub returns : goal.returns
returns c =
    let l = c.loop-block in
    let a = c.args in
    let ws = a.area.now in
    let s = (goal.at.returns c).After-fill in
    let none : chunks_rest l.block-iterator ≡ [] = nil_from_length (chunks_rest l.block-iterator) c.in-None.ensures.steps.1.0 in
    let all : a.patterns.now ≡ l.invariant.1 = l.invariant.2 ∙ ap (λ (xs : List ℕ). l.invariant.1 ++ xs) none ∙ append-nil l.invariant.1 in
    let whole = counted-whole a.method (net_of ws [] []) (start s) l.invariant.1 l.counts (room s) l.invariant.3 in
    let rest : drop (layout.gates ws) (start s) ≡ drop (layout.gates ws) a.counts.now =
    sym (ap (λ (g : ℕ). drop g (start s)) c.gates.ensures) ∙ rest_same c.gates.result a.counts.now c.fill.new.self (few s) (zeros s)
    ∙ ap (λ (g : ℕ). drop g a.counts.now) c.gates.ensures in
    rw (gate_count ws [] [], ← all) at whole ∙ ap (λ (xs : List ℕ). seen_counts a.method (net_of ws [] []) a.patterns.now ++ xs) rest
