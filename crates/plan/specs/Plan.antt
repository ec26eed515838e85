-- What a walk over all patterns knows beforehand. Rows are those of 32 patterns: a row's number is its first pattern over 32.
use Rattle.std.specs.Prelude.{ℕ, ◌+◌, ◌-◌, ◌≤◌, ◌<◌, List, [], ◌≡◌, length, get_or}
use Rattle.netlist.specs.Live.{readers}
use Rattle.area.specs.Layout.{most_inputs, most_sources, inputs, gates, pin_count, pin}
use Rattle.area.specs.Net.{net_of}

-- the inputs that change within a row, and the bits of a row's number
abbrev pub row_inputs : ℕ
row_inputs = 5

abbrev pub row_bits : ℕ
row_bits = most_inputs - row_inputs

-- source s has a live reader
abbrev pub IsLive : List ℕ → ℕ → Type 0
IsLive ws s = 0 < readers (net_of ws [] []) s

-- x is the lowest live gate from gate j on, or the number of gates
pub record LiveFrom (ws : List ℕ) (j x : ℕ) : Type 0 where
  pub from : j ≤ x
  pub inside : x ≤ gates ws
  pub live : x < gates ws → IsLive ws (inputs ws + x)
  pub least : (i : ℕ) → j ≤ i → i < gates ws → IsLive ws (inputs ws + i) → x ≤ i

-- next has it for every gate from b on
pub record NextLive (ws next : List ℕ) (b : ℕ) : Type 0 where
  pub long : length next ≡ most_sources
  pub each : (j : ℕ) → b ≤ j → j ≤ gates ws → LiveFrom ws j (get_or next j 0)

-- input 5 + k sees bit k of a row's number: unseen has at most k for it
pub record InputBits (unseen : List ℕ) (n : ℕ) : Type 0 where
  pub long : length unseen ≡ most_sources
  pub few : (s : ℕ) → get_or unseen s 0 ≤ row_bits
  pub input : (s : ℕ) → row_inputs ≤ s → s < n → get_or unseen s 0 + row_inputs ≤ s

-- unseen has for each source how many of the lowest bits of a row's number it does not see: for the first b gates no more than for what they read
pub record Unseen (ws unseen : List ℕ) (b : ℕ) : Type 0 where
  pub bits : InputBits unseen (inputs ws)
  pub gate : (j i : ℕ) → j < b → i < pin_count ws j → get_or unseen (inputs ws + j) 0 ≤ get_or unseen (pin ws j i) 0
