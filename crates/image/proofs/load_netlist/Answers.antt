-- `image::load_netlist` meets its contract: the part is the middle. Assumes nothing.
use mathlib.Core.Path.{◌∙◌}
use native.Mathlib.Omega.{arith}
use borrow.Author.Rules.{rules}
use Rattle.image.specs.Loading.{image_words}
use Rattle.image.proofs.Middle.{part-middle, length-of-middle}
use Rattle.image.proofs.load_netlist.Goals as goal

pub load-requires : goal.load-requires
load-requires c =
    let bs = c.args.image.now in
    let t = c.requires.trailer_right in
    let whole = part-middle bs c.index.result t (c.index.ensures ∙ c.four_bytes.ensures) in
    let n = length-of-middle bs t in record { outputs_in_bounds = rw whole (omega arith); most_words_in_bounds = search rules; inputs_le_most_inputs = omega arith }

pub returns : goal.returns
unfolding image_words
returns c =
    let whole = part-middle c.args.image.now c.index.result c.requires.trailer_right (c.index.ensures ∙ c.four_bytes.ensures) in record { value = cc; words_after = λ e. let stored = c.load.ensures.words_after e in cc }
