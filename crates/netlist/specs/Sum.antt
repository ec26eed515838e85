-- The raw flip sum of document 02, card 5: the flips of the live gates in units, each converted by itself, added up.
use Rattle.std.specs.Prelude.{ℕ, ◌+◌, length}
use Rattle.lists.specs.Lists.{sum_below}
use Rattle.rounding.specs.Rounding.{to_units}
use Rattle.netlist.specs.Netlist.{Netlist, gate_at}
use Rattle.netlist.specs.Live.{if_live, readers}

-- of d parts in 1 before conversion, of u units after it
unfoldable pub raw_flip_sum : ℕ → ℕ → Netlist → ℕ
raw_flip_sum u d net = sum_below (length net.gates) (λ j. if_live (readers net (net.inputs + j)) (to_units u d (gate_at net j).chance))
