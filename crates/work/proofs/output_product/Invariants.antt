use Prim.Native.Nat.{◌≤◌}
use mathlib.Core.Path.{◌≡◌}
use lib.ListN.{drop}
use Rattle.rounding.specs.Rounding.{units_in_one}
use Rattle.area.specs.Layout.{output_words, source_word}
use Rattle.area.specs.Figures.{product_from}
use Rattle.work.proofs.output_product.Given as goal

abbrev pub invariant-loop-k : goal.invariant-loop-k
invariant-loop-k l =
    (l.reliability ≤ units_in_one)
    × (product_from (source_word l.area) l.reliability (drop l.k (output_words l.area)) ≡ product_from (source_word l.area) l.product (output_words l.area))
