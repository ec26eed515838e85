-- All sets of suppositions on the words of an area, for its pattern. Bit i of a set's number says that shared gate number i is supposed wrong.
use Rattle.std.specs.Prelude.{ℕ, ◌/◌, ◌^◌, Bool, List, [], ◌∷◌, ◌≡◌, length, get_or}
use Rattle.lists.specs.Lists.{joined}
use Rattle.rounding.specs.Rounding.{units_in_one}
use Rattle.figure.specs.Figure.{is_odd}
use Rattle.netlist.specs.Netlist.{Netlist, input_values}
use Rattle.netlist.specs.Live.{readers}
use Rattle.suppose.specs.Suppose.{shared_from, shared_gates, seen, supposed_failures, shared_steps, supposed_figure, shared_reliability}
use Rattle.area.specs.Layout.{inputs, gates, pattern, flip}
use Rattle.area.specs.Net.{net_of}

-- the most shared gates that are taken
abbrev pub most_shared : ℕ
most_shared = 8

-- the netlist that the words hold, with their flips for chances: U of them in one
abbrev pub flip_words : List ℕ → List ℕ
flip_words ws = joined (λ (j : ℕ). flip ws j ∷ []) (gates ws)

unfoldable pub units_net : List ℕ → Netlist
units_net ws = net_of ws [] (flip_words ws)

-- its shared gates, and those among the first j gates
abbrev pub shared_of : List ℕ → List ℕ
shared_of ws = shared_gates (units_net ws)

unfoldable pub shared_to : List ℕ → ℕ → List ℕ
shared_to ws j = shared_from (readers (net_of ws [] [])) (inputs ws) j

-- shared gate number i is supposed wrong in set m; the suppositions of set m
abbrev pub is_wrong : ℕ → ℕ → Bool
is_wrong m i = is_odd (m / 2 ^ i)

abbrev pub set_of : List ℕ → ℕ → List Bool
set_of ws m = input_values (length (shared_of ws)) m

-- the failure worked out at source s in set m, and what its readers see
unfoldable pub own_failure : List ℕ → ℕ → ℕ → ℕ
own_failure ws m s = get_or (supposed_failures units_in_one units_in_one (units_net ws) (pattern ws) (set_of ws m)) s 0

unfoldable pub seen_failure : List ℕ → ℕ → ℕ → ℕ
seen_failure ws m s = seen units_in_one (shared_of ws) (set_of ws m) s (own_failure ws m s)

-- the product over those of the first j gates that are shared, and the figure of set m
unfoldable pub product_to : List ℕ → ℕ → ℕ → ℕ
product_to ws m j = shared_steps units_in_one (own_failure ws m) units_in_one (shared_to ws j) (set_of ws m)

unfoldable pub set_figure : List ℕ → ℕ → ℕ
set_figure ws m = supposed_figure units_in_one units_in_one (units_net ws) (pattern ws) (set_of ws m)

-- the shared reliability of the area
unfoldable pub shared_units : List ℕ → ℕ
shared_units ws = shared_reliability units_in_one units_in_one (units_net ws) (pattern ws)

-- counts of live readers
abbrev pub ReadersCounted : List ℕ → List ℕ → Type 0
ReadersCounted ws counts = (s : ℕ) → get_or counts s 0 ≡ readers (net_of ws [] []) s
