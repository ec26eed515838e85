-- Words of 64 patterns: bit l of a source's word is its value in lane l, under pattern l of a block. Lanes past a list have pattern 0.
use Rattle.std.specs.Prelude.{ℕ, ◌+◌, ◌/◌, ◌^◌, ◌<◌, Bool, false, List, map, ◌≢◌, ◌≡◌, length, get_or, take}
use Rattle.figure.specs.Figure.{is_odd, answer}
use Rattle.netlist.specs.Netlist.{Netlist, right_values}
use Rattle.area.specs.Layout.{most_sources, inputs, pin_count, table, pins}

abbrev pub lane_count : ℕ
lane_count = 64

-- bit l of a word
unfoldable pub lane : ℕ → ℕ → Bool
lane l word = is_odd (word / 2 ^ l)

-- a word has these values
abbrev pub InEachLane : ℕ → (ℕ → Bool) → Type 0
InEachLane word value = (l : ℕ) → l < lane_count → lane l word ≡ value l

-- the values of the first `count` of these pins' words in lane l
abbrev pub pin_lanes : ℕ → ℕ → List ℕ → List Bool
pin_lanes l count words = map (lane l) (take count words)

-- the words of n inputs under listed patterns
pub record InputWords (n : ℕ) (patterns words : List ℕ) : Type 0 where
  pub long : length words ≡ most_sources
  pub input : (l i : ℕ) → i < n → lane l (get_or words i 0) ≡ is_odd (get_or patterns l 0 / 2 ^ i)

-- the right values of lane l
abbrev pub right_in : Netlist → List ℕ → ℕ → List Bool
right_in net patterns l = right_values net (get_or patterns l 0)

-- the words of the first k sources have these values, source by source, in every lane
pub record WordsHold (k : ℕ) (values : ℕ → List Bool) (words : List ℕ) : Type 0 where
  pub long : length words ≡ most_sources
  pub held : (l s : ℕ) → l < lane_count → s < k → lane l (get_or words s 0) ≡ get_or (values l) s false

-- gate j's word is its answer to its pins' words, and no other word has changed
pub record WordStored (ws old new : List ℕ) (j : ℕ) : Type 0 where
  pub long : length new ≡ most_sources
  pub here : InEachLane (get_or new (inputs ws + j) 0) (λ l. answer (table ws j) (pin_lanes l (pin_count ws j) (map (λ p. get_or old p 0) (pins ws j))))
  pub other : (s : ℕ) → s ≢ inputs ws + j → get_or new s 0 ≡ get_or old s 0
