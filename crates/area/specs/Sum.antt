-- The raw flip sum of document 02, card 5, as words hold it: the flip words of the live gates, added up; which are live the words' own pins and outputs say.
use Rattle.std.specs.Prelude.{ℕ, ◌+◌, ◌/◌, ◌%◌, List, [], set}
use Rattle.lists.specs.Lists.{sum_below}
use Rattle.netlist.specs.Live.{if_live, readers}
use Rattle.area.specs.Layout.{inputs, gates, flip, sum_low_index, sum_high_index}
use Rattle.area.specs.Net.{net_of}

-- what gate j adds: its flip, if it is live
abbrev pub live_flip : List ℕ → ℕ → ℕ
live_flip ws j = if_live (readers (net_of ws [] []) (inputs ws + j)) (flip ws j)

unfoldable pub flip_sum : List ℕ → ℕ
flip_sum ws = sum_below (gates ws) (live_flip ws)

-- its low and its high 32 bits
abbrev pub low_bits : ℕ → ℕ
low_bits x = x % 4_294_967_296

abbrev pub high_bits : ℕ → ℕ
high_bits x = x / 4_294_967_296

-- a sum stored in its two words; and an area's own
abbrev pub stored_sum : List ℕ → ℕ → List ℕ
stored_sum ws sum = set (set ws sum_low_index (low_bits sum)) sum_high_index (high_bits sum)

unfoldable pub with_sum : List ℕ → List ℕ
with_sum ws = stored_sum ws (flip_sum ws)
