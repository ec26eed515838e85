-- `work::output_product` meets its contract: what is left of the outputs takes the product to its end. Assumes nothing.
use Prim.Native.Nat.{ℕ, ◌+◌, ◌/◌, ◌≤◌, ◌<◌}
use mathlib.Core.Path.{◌≡◌, ap, ◌∙◌}
use mathlib.Core.List.{List}
use native.Mathlib.Omega.{arith}
use lib.ListN.{length, get_or}
use Rattle.rounding.specs.Rounding.{units_in_one}
use Rattle.figure.specs.Figure.{output_step}
use Rattle.figure.proofs.Laws.{output-at-most}
use Rattle.area.specs.Layout.{inputs, gates, outputs, outputs_index, output_words, source_word}
use Rattle.area.proofs.Words.{output-at, output_count, output-below}
use Rattle.work.proofs.Sound.{source-word-fits}
use Rattle.work.proofs.Loops.{product-turn}
use Rattle.work.proofs.output_product.Goals.{After-index, After-source_word-word, In-loop-k}
use Rattle.work.proofs.output_product.Goals as goal

-- a turn's output
module _ (c : In-loop-k) where
  abbrev ws : List ℕ
  ws = c.args.area.now

  abbrev k : ℕ
  k = c.loop-k.k

  first : c.outputs_index-start.result ≡ outputs_index (gates ws)
  first = c.outputs_index-start.ensures ∙ ap outputs_index c.gates.ensures

  used : k < outputs ws
  used = omega (arith, c.outputs-count.ensures)

  inside : k < length (output_words ws)
  inside = omega (arith, used, output_count ws c.requires.0.net)

-- the source that it reads, and that source's word
here : (c : After-index) → c.index.result ≡ get_or (output_words (ws (record { before = c.before.before.before; type_inv = record { area = c.shared_slice_known-1.given } }))) (k (record { before = c.before.before.before; type_inv = record { area = c.shared_slice_known-1.given } })) 0
here c =
    c.index.ensures ∙ ap (λ (x : ℕ). get_or (ws (record { before = c.before.before.before; type_inv = record { area = c.shared_slice_known-1.given } })) (x + k (record { before = c.before.before.before; type_inv = record { area = c.shared_slice_known-1.given } })) 0) (first (record { before = c.before.before.before; type_inv = record { area = c.shared_slice_known-1.given } })) ∙ output-at (ws (record { before = c.before.before.before; type_inv = record { area = c.shared_slice_known-1.given } })) (k (record { before = c.before.before.before; type_inv = record { area = c.shared_slice_known-1.given } })) (used (record { before = c.before.before.before; type_inv = record { area = c.shared_slice_known-1.given } }))

read : (c : After-index) → c.index.result < inputs (ws (record { before = c.before.before.before; type_inv = record { area = c.shared_slice_known-1.given } })) + gates (ws (record { before = c.before.before.before; type_inv = record { area = c.shared_slice_known-1.given } }))
read c =
    rw (here c) (output-below (ws (record { before = c.before.before.before; type_inv = record { area = c.shared_slice_known-1.given } })) c.requires.0.net (k (record { before = c.before.before.before; type_inv = record { area = c.shared_slice_known-1.given } })) (inside (record { before = c.before.before.before; type_inv = record { area = c.shared_slice_known-1.given } })))

fits : (c : After-source_word-word) → c.source_word-word.result / 2 ≤ units_in_one
fits c =
    omega (arith, c.source_word-word.ensures, source-word-fits (ws (record { before = c.before.before.before.before; type_inv = record { area = c.shared_slice_known-1.given } })) c.requires.0 c.index.result (read (record { before = c.before.before; type_inv = record { area = c.shared_slice_known-in-loop-k-1.given } })))

pub source_word-word-requires : goal.source_word-word-requires
source_word-word-requires c = record { workable = c.requires.0; source_bound = read c }

pub output_step-reliability-requires : goal.output_step-reliability-requires
output_step-reliability-requires c = (c.loop-k.invariant.0, fits c)

pub loop-k-preserved : goal.loop-k-preserved
loop-k-preserved c =
    let turn = (goal.at.loop-k-preserved c).In-loop-k in
    let l = c.loop-k in (
      rw c.output_step-reliability.ensures
          (output-at-most units_in_one (omega arith) l.reliability (c.source_word-word.result / 2) l.invariant.0 (fits (goal.at.loop-k-preserved c).After-source_word-word)),
      product-turn (source_word (ws turn)) (output_words (ws turn)) l.k l.reliability c.output_step-reliability.result (inside turn)
          (c.output_step-reliability.ensures
          ∙ ap (λ (o : ℕ). output_step units_in_one l.reliability (o / 2))
          (c.source_word-word.ensures ∙ ap (source_word (ws turn)) (here (goal.at.loop-k-preserved c).After-index)))
          l.invariant.1,
    )
