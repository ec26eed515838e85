-- A walk that goes on from each shared gate for both suppositions, on the words of an area: what they hold when it stands before gate b. The first `met`
-- shared gates are supposed as the bits of `begun` say.
use Rattle.std.specs.Prelude.{ℕ, ◌+◌, ◌-◌, ◌*◌, ◌%◌, ◌^◌, ◌≤◌, ◌<◌, false, List, [], ◌≢◌, ◌≡◌, length, get_or}
use Rattle.lists.specs.Lists.{sum_below}
use Rattle.figure.specs.Figure.{bit_of}
use Rattle.netlist.specs.Netlist.{right_values}
use Rattle.netlist.specs.Live.{readers}
use Rattle.area.specs.Layout.{most_sources, inputs, gates, pattern, pin_count, pin, figure_index, figure}
use Rattle.area.specs.Rules.{Workable}
use Rattle.area.specs.Net.{net_of}
use Rattle.plan.specs.Plan.{IsLive}
use Rattle.work.specs.Work.{gate_figure}
use Rattle.sets.specs.Sets.{units_net, shared_of, shared_to, seen_failure, product_to, set_figure, shared_units}

-- the right value of source s, as a number
abbrev pub right_bit : List ℕ → ℕ → ℕ
right_bit ws s = bit_of (get_or (right_values (units_net ws) (pattern ws)) s false)

-- gate j's word as its readers see it in set m
abbrev pub SeenAs : List ℕ → ℕ → ℕ → Type 0
SeenAs ws m j = figure ws j ≡ 2 * seen_failure ws m (inputs ws + j) + right_bit ws (inputs ws + j)

-- set m supposes the same of the first `met` shared gates
abbrev pub Begins : ℕ → ℕ → ℕ → Type 0
Begins begun met m = m % 2 ^ met ≡ begun

-- so for the live gates before gate b in every set that begins so
abbrev pub WordsSeen : List ℕ → ℕ → ℕ → ℕ → Type 0
WordsSeen ws begun met b = (m : ℕ) → Begins begun met m → (j : ℕ) → j < b → IsLive ws (inputs ws + j) → SeenAs ws m j

-- which gates are walked: a shared one has a mark of two or more, any other that is walked of one; a gate without a mark is dead, or its word is as it is in
-- every set
pub record Marks (ws marks : List ℕ) : Type 0 where
  pub shared : (j : ℕ) → j < gates ws → 2 ≤ get_or marks (inputs ws + j) 0 → 2 ≤ readers (net_of ws [] []) (inputs ws + j)
  pub single : (j : ℕ) → j < gates ws → get_or marks (inputs ws + j) 0 ≤ 1 → readers (net_of ws [] []) (inputs ws + j) ≤ 1
  pub held : (j : ℕ) → j < gates ws → get_or marks (inputs ws + j) 0 ≡ 0 → IsLive ws (inputs ws + j) → (m : ℕ) → SeenAs ws m j

-- x is the lowest gate from gate j on that has a mark, or the number of gates; n inputs and g gates
pub record MarkedFrom (marks : List ℕ) (n g j x : ℕ) : Type 0 where
  pub from : j ≤ x
  pub inside : x ≤ g
  pub marked : x < g → 0 < get_or marks (n + x) 0
  pub none : (i : ℕ) → j ≤ i → i < x → get_or marks (n + i) 0 ≡ 0

-- next has it for every gate from b on
pub record NextMarked (marks next : List ℕ) (n g b : ℕ) : Type 0 where
  pub long : length next ≡ most_sources
  pub each : (j : ℕ) → b ≤ j → j ≤ g → MarkedFrom marks n g j (get_or next j 0)

-- the walk stands before gate b, with the product over the shared gates that it has met
pub record Stands (ws : List ℕ) (begun met b product : ℕ) : Type 0 where
  pub number : met ≡ length (shared_to ws b)
  pub small : begun < 2 ^ met
  pub products : (m : ℕ) → Begins begun met m → product ≡ product_to ws m b
  pub words : WordsSeen ws begun met b

-- the figures of all sets that begin so, added up
unfoldable pub sum_begun : List ℕ → ℕ → ℕ → ℕ
sum_begun ws begun met = sum_below (2 ^ (length (shared_of ws) - met)) (λ i. set_figure ws (begun + 2 ^ met * i))

-- vs has the words of ws but for figures of marked gates from b on, and can be worked out
pub record SameBefore (ws marks vs : List ℕ) (b : ℕ) : Type 0 where
  pub size : length vs ≡ length ws
  pub kept : (i : ℕ) → ((j : ℕ) → b ≤ j → j < gates ws → 0 < get_or marks (inputs ws + j) 0 → i ≢ figure_index j) → get_or vs i 0 ≡ get_or ws i 0
  pub workable : Workable vs

-- from ws to vs the marked gates from b on and before x are worked out, and none of them is shared
pub record WorkedTo (ws marks vs : List ℕ) (b x : ℕ) : Type 0 where
  pub same : SameBefore ws marks vs b
  pub single : (j : ℕ) → b ≤ j → j < x → get_or marks (inputs ws + j) 0 ≤ 1
  pub worked : (j : ℕ) → b ≤ j → j < x → 0 < get_or marks (inputs ws + j) 0 → figure vs j ≡ gate_figure vs j

-- x is a shared gate, and worked out too
pub record SharedAt (ws marks vs : List ℕ) (x : ℕ) : Type 0 where
  pub twice : 2 ≤ get_or marks (inputs ws + x) 0
  pub worked : figure vs x ≡ gate_figure vs x

-- no used pin of gate j reads a marked gate
abbrev pub ReadsUnmarked : List ℕ → List ℕ → ℕ → Type 0
ReadsUnmarked ws marks j = (i : ℕ) → i < pin_count ws j → inputs ws ≤ pin ws j i → get_or marks (pin ws j i) 0 ≡ 0

-- from ws to vs gates whose words are the same in every set are worked out, and lose their marks
pub record Settled (ws vs marks : List ℕ) : Type 0 where
  pub size : length vs ≡ length ws
  pub same_inputs : inputs vs ≡ inputs ws
  pub same_gates : gates vs ≡ gates ws
  pub workable : Workable vs
  pub marked : Marks vs marks
  pub room : length marks ≡ most_sources
  pub same_shared : length (shared_of vs) ≡ length (shared_of ws)
  pub same_answer : shared_units vs ≡ shared_units ws
