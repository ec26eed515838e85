-- `average::reliability_row` meets its contract: what is left of the outputs takes each product to its end. Assumes nothing.
use Prim.Native.Nat.{ℕ, ◌*◌, ◌/◌, ◌≤◌, ◌<◌}
use mathlib.Core.List.{List}
use mathlib.Core.Path.{◌≡◌, sym, ap, subst, ◌∙◌}
use native.Mathlib.Omega.{arith}
use lib.ListN.{length, get_or, drop_of_length-le, replicate, get_or-replicate}
use Rattle.area.proofs.Words.{output-at, output_count, output-below, few-sources}
use Rattle.area.specs.Figures.{product_from}
use Rattle.area.specs.Layout.{outputs, output, output_words}
use Rattle.area.specs.Rules.{NetSound}
use Rattle.figure.proofs.Laws.{output-at-most}
use Rattle.figure.specs.Figure.{output_step, failure_of}
use Rattle.rounding.specs.Rounding.{units_in_one}
use Rattle.rows.specs.Rows.{row_length, row_at}
use Rattle.work.proofs.Loops.{product-turn}
use Rattle.average.specs.Blocks.{row_word, OutputsFit}
use Rattle.average.proofs.reliability_row.Goals.{In-loop-k}
use Rattle.average.proofs.reliability_row.Goals as goal

-- a turn's output
module _ (c : In-loop-k) where
  abbrev ws : List ℕ
  ws = c.args.area.now

  abbrev k : ℕ
  k = c.loop-k.k

  used : k < outputs ws
  used = omega (arith, c.outputs-k-end.ensures)

  inside : k < length (output_words ws)
  inside = omega (arith, used, output_count ws c.requires.0)

-- the source that it reads
module _ (area rows : List ℕ) (sound : NetSound area × OutputsFit area rows) (at source : ℕ) (used-here : at < outputs area) (is : source ≡ output area at) where
  place : at < length (output_words area)
  place = omega (arith, used-here, output_count area sound.0)

  here : source ≡ get_or (output_words area) at 0
  here = is ∙ output-at area at used-here

  fits : (l : ℕ) → l < row_length → row_at rows source l ≤ units_in_one
  fits l less = subst (λ (x : ℕ). row_at rows x l ≤ units_in_one) (sym here) (sound.1 at l place less)

pub outputs-k-end-requires : goal.outputs-k-end-requires
outputs-k-end-requires c =
    omega (arith, c.requires.0.long)

pub loop-k-init : goal.loop-k-init
loop-k-init c =
    let each : (l : ℕ) → l < row_length → get_or
    (replicate row_length units_in_one) l 0 ≡ units_in_one = λ l less. get_or-replicate row_length l units_in_one 0 less in (
      λ l less. omega (arith, each l less),
      λ l less. ap (λ (x : ℕ). product_from (row_word c.args.rows.now l) x (output_words c.args.area.now)) (each l less),
    )

pub output-requires : goal.output-requires
output-requires c = record { area_bound = (c.requires.0.gates_fit, omega (arith, used c, c.requires.0.outputs_fit)); k_in_bounds = omega (arith, used c, c.requires.0.long) }

pub output_row-next-requires : goal.output_row-next-requires
output_row-next-requires c =
    let turn = (goal.at.output_row-next-requires c).In-loop-k in
    let is = c.index-source.ensures ∙ c.output.ensures in
    let source = c.index-source.result in record {
      row_fits = (
        c.loop-k.invariant.0,
        omega (
          arith,
          here (ws turn) c.args.rows.now c.requires (k turn) source (used turn) is,
          output-below (ws turn) c.requires.0 (k turn) (inside turn),
          few-sources (ws turn) c.requires.0,
        ),
      );
      by_index = fits (ws turn) c.args.rows.now c.requires (k turn) source (used turn) is;
    }

pub loop-k-preserved : goal.loop-k-preserved
loop-k-preserved c =
    let l = c.loop-k in
    let turn = (goal.at.loop-k-preserved c).In-loop-k in
    let is = c.index-source.ensures ∙ c.output.ensures in
    let step = c.output_row-next in (
      λ m less. rw (step.ensures m less) (output-at-most units_in_one (omega arith) (get_or l.row m 0) _ (l.invariant.0 m less) (fits (ws turn) c.args.rows.now c.requires l.k c.index-source.result (used turn) is m less)),
      λ m less.
          let half : 2 * row_at c.args.rows.now c.index-source.result m / 2 ≡ row_at c.args.rows.now
          c.index-source.result m = omega arith in
          product-turn (row_word c.args.rows.now m) (output_words (ws (goal.at.loop-k-preserved c).In-loop-k)) l.k (get_or l.row m 0) (get_or step.result m 0)
          (inside (goal.at.loop-k-preserved c).In-loop-k)
          (step.ensures m less
          ∙ ap (output_step units_in_one (get_or l.row m 0)) (sym half)
          ∙ ap (λ (o : ℕ). output_step units_in_one (get_or l.row m 0) (failure_of (row_word c.args.rows.now m o))) (here (ws turn) c.args.rows.now c.requires l.k c.index-source.result (used turn) is))
          (l.invariant.1 m less),
    )

pub returns : goal.returns
returns c =
    let at-outputs = c.outputs-k-end in
    let a = c.args in
    let l = c.loop-k in
    let past : length (output_words a.area.now) ≤ l.k = omega (arith, output_count a.area.now c.requires.0, at-outputs.ensures) in record {
      each_entry = λ m less.
          sym (ap (product_from (row_word a.rows.now m) (get_or l.row m 0)) (drop_of_length-le (output_words a.area.now) past))
          ∙ l.invariant.1 m less;
      row_fits = l.invariant.0;
    }
