-- `counts::output_masks` meets its contract: output by output. Assumes nothing.
use Prim.Native.Nat.{◌<◌}
use mathlib.Core.Path.{refl}
use native.Mathlib.Omega.{arith}
use lib.ListN.{take}
use Rattle.lists.proofs.Parts.{zeros-at}
use Rattle.area.specs.Layout as layout
use Rattle.area.specs.Layout.{most_sources}
use Rattle.area.proofs.Words.{output-source, few-sources}
use Rattle.counts.proofs.Masks.{masks-none, masks-more}
use Rattle.counts.proofs.Outputs.{output-inside, next-output, all-outputs}
use Rattle.counts.proofs.output_masks.Goals.{After-index-source}
use Rattle.counts.proofs.output_masks.Goals as goal

pub outputs-k-end-requires : goal.outputs-k-end-requires
outputs-k-end-requires c = omega (arith, c.requires.long)

pub loop-k-init : goal.loop-k-init
loop-k-init c = masks-none c.args.by _ refl (zeros-at most_sources)

pub output-requires : goal.output-requires
output-requires c =
    let l = c.loop-k in
    let inside : l.k < layout.outputs c.args.area.now = omega (arith, c.outputs-k-end.ensures) in record { area_bound = (c.requires.gates_fit, omega (arith, c.requires.outputs_fit)); k_in_bounds = output-inside c.args.area.now c.requires l.k inside }

-- an output names a source
module _ (c : After-index-source) where
  source-inside : c.index-source.result < most_sources
  source-inside =
      let ws = c.args.area.now in
      let k = c.loop-k.k in
      let inside : k < layout.outputs ws = omega (arith, c.outputs-k-end.ensures) in
      omega (arith, c.index-source.ensures, c.output.ensures, output-source ws c.requires k inside, few-sources ws c.requires)

pub offset_bounds-masks-source : goal.offset_bounds-masks-source
offset_bounds-masks-source c = omega (arith, source-inside c)

pub bounds-masks-source : goal.bounds-masks-source
bounds-masks-source c = omega (arith, source-inside c)

pub loop-k-preserved : goal.loop-k-preserved
loop-k-preserved c =
    let at-outputs = c.outputs-k-end in
    let l = c.loop-k in
    let ws = c.args.area.now in
    let inside : l.k < layout.outputs ws = omega (arith, at-outputs.ensures) in
    let more = masks-more c.args.by (take l.k (layout.output_words ws)) l.masks (layout.output ws l.k)
    (omega (arith, output-source ws c.requires l.k inside, few-sources ws c.requires))
    l.invariant in
    rw (next-output ws c.requires l.k inside, c.index-source.ensures, c.output.ensures) more

pub returns : goal.returns
returns c =
    let l = c.loop-k in
    rw (all-outputs c.args.area.now c.requires l.k (omega (arith, c.outputs-k-end.ensures))) at l.invariant
