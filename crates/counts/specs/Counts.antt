-- What the steps of counting mean: lanes of listed patterns, readers of a source, lanes in which a source changes, masks, counts with a block added.
use Rattle.std.specs.Prelude.{ℕ, ◌+◌, ◌≤◌, ◌<◌, Bool, false, cond, ◌&&◌, ◌||◌, List, [], ◌∷◌, map, ◌≢◌, ◌≡◌, ltb, length, get_or, take, drop}
use Rattle.std.specs.Int.Bits.{bit_xor}
use Rattle.lists.specs.Lists.{count}
use Rattle.figure.specs.Figure.{answer}
use Rattle.counts.specs.declared.Span.{Span}
use Rattle.netlist.specs.declared.Method.{Method}
use Rattle.netlist.specs.Netlist.{Netlist}
use Rattle.netlist.specs.Live.{is_live}
use Rattle.netlist.specs.Seen.{differ, sensitive, pins_where, mask_reads_from, seen_count}
use Rattle.area.specs.Layout.{most_sources, most_listed, inputs, gates, table, pin_count, pin, used_pins, output_words}
use Rattle.area.specs.Rules.{NetSound}
use Rattle.signals.specs.Signals.{lane_count, lane, InEachLane, right_in}

-- a test of the pattern in lane l; it fails in the lanes past the list
abbrev pub in_list : List ℕ → (ℕ → Bool) → ℕ → Bool
in_list patterns t l = ltb l (length patterns) && t (get_or patterns l 0)

-- ---- the readers of a source

abbrev pub span_at : List Span → ℕ → Span
span_at spans s = get_or spans s (record { first = 0; end = 0 })

-- gate m is none that stands below `first` or from `end` on for source s
abbrev pub Within : List Span → ℕ → ℕ → Type 0
Within spans s m = ((span_at spans s).first ≤ m) × (m < (span_at spans s).end)

-- gate m is entered as a reader of source s, and none that was entered is left out
pub record Entered (old : List Span) (s m : ℕ) (spans : List Span) : Type 0 where
  pub long : length spans ≡ most_sources
  pub lower : (t : ℕ) → (span_at spans t).first ≤ (span_at old t).first
  pub higher : (t : ℕ) → (span_at old t).end ≤ (span_at spans t).end
  pub few : (t : ℕ) → (span_at spans t).end ≤ m + 1
  pub here : Within spans s m

-- the used pins of the first k gates are entered
pub record Reads (ws : List ℕ) (k : ℕ) (spans : List Span) : Type 0 where
  pub long : length spans ≡ most_sources
  pub few : (s : ℕ) → (span_at spans s).end ≤ k
  pub within : (m i : ℕ) → m < k → i < pin_count ws m → Within spans (pin ws m i) m

-- ---- by the flip: in lane l a source's value changes where bit l of its word in `changed` is set

-- gate j's answer in lane l, as its pins are and as they change
abbrev pub right_answer : List ℕ → List ℕ → ℕ → ℕ → Bool
right_answer ws words j l = answer (table ws j) (map (λ (p : ℕ). lane l (get_or words p 0)) (used_pins ws j))

abbrev pub changed_answer : List ℕ → List ℕ → List ℕ → ℕ → ℕ → Bool
changed_answer ws words changed j l = answer (table ws j) (map (λ (p : ℕ). lane l (bit_xor (get_or words p 0) (get_or changed p 0))) (used_pins ws j))

-- no source changes
pub record Unchanged (changed : List ℕ) : Type 0 where
  pub long : length changed ≡ most_sources
  pub none : (s : ℕ) → get_or changed s 0 ≡ 0

-- the words of all gates are their answers on their pins' words
abbrev pub Worked : List ℕ → List ℕ → Type 0
Worked ws words = (m : ℕ) → m < gates ws → InEachLane (get_or words (inputs ws + m) 0) (right_answer ws words m)

-- the words are right, and all readers are entered
pub record Followable (ws words : List ℕ) (spans : List Span) : Type 0 where
  pub net : NetSound ws
  pub worked : Worked ws words
  pub reads : Reads ws (gates ws) spans

-- gate m's word in `changed` has the lanes in which its answer changes
abbrev pub Settled : List ℕ → List ℕ → List ℕ → ℕ → Type 0
Settled ws words changed m =
    InEachLane (get_or changed (inputs ws + m) 0) (λ l. differ (changed_answer ws words changed m l) (right_answer ws words m l))

-- what changes when gate j flips in the lanes `by`: nothing before it, and then gate after gate
pub record Flipped (ws words : List ℕ) (j by : ℕ) (changed : List ℕ) : Type 0 where
  pub long : length changed ≡ most_sources
  pub before : (s : ℕ) → s < inputs ws + j → get_or changed s 0 ≡ 0
  pub start : get_or changed (inputs ws + j) 0 ≡ by
  pub settled : (m : ℕ) → j < m → m < gates ws → Settled ws words changed m

-- the flip followed up to a gate: no later source has changed yet, and a later gate that reads a changed source stands before `stop`
pub record Following (ws words : List ℕ) (j gate stop : ℕ) (changed : List ℕ) : Type 0 where
  pub long : length changed ≡ most_sources
  pub before : (s : ℕ) → s < inputs ws + j → get_or changed s 0 ≡ 0
  pub settled : (m : ℕ) → j < m → m < gate → m < gates ws → Settled ws words changed m
  pub later : (s : ℕ) → inputs ws + gate ≤ s → get_or changed s 0 ≡ 0
  pub stopped : (s : ℕ) → inputs ws + stop ≤ s → get_or changed s 0 ≡ 0
  pub reached : (m i : ℕ) → gate ≤ m → m < gates ws → i < pin_count ws m → get_or changed (pin ws m i) 0 ≢ 0 → m < stop
  pub after : (j < gate) × (j < stop) × (stop ≤ gates ws)

-- some of these outputs' sources changes in lane l
abbrev pub some_changed : List ℕ → List ℕ → ℕ → Bool
some_changed changed [] l = false
some_changed changed (o ∷ os) l = lane l (get_or changed o 0) || some_changed changed os l

-- the lanes in which some output changes when gate j flips in the lanes `by`
pub record SeenIn (ws words : List ℕ) (j by word : ℕ) : Type 0 where
  pub changed : List ℕ
  pub flipped : Flipped ws words j by changed
  pub seen : InEachLane word (some_changed changed (output_words ws))

-- ---- by masks

-- the masks that the outputs give: a source that one of them reads has the lanes `by`
pub record OutputMasks (os : List ℕ) (by : ℕ) (masks : List ℕ) : Type 0 where
  pub long : length masks ≡ most_sources
  pub mask : (s : ℕ) → get_or masks s 0 ≡ cond (is_live (count s os)) by 0

-- the first i pins of gate j that are sensitive in lane l
abbrev pub sensitive_in : List ℕ → List ℕ → ℕ → ℕ → ℕ → List ℕ
sensitive_in ws words j l i =
    pins_where (sensitive (table ws j) (map (λ (p : ℕ). lane l (get_or words p 0)) (used_pins ws j))) 0 (take i (used_pins ws j))

-- gate j's mask passed to the gates that its first i pins read, in the lanes in which a pin is sensitive
pub record MaskPassed (ws words : List ℕ) (j i : ℕ) (old new : List ℕ) : Type 0 where
  pub long : length new ≡ most_sources
  pub mask :
      (l s : ℕ) → l < lane_count → inputs ws ≤ s
      → lane l (get_or new s 0) ≡ lane l (get_or old s 0) || (lane l (get_or old (inputs ws + j) 0) && is_live (count s (sensitive_in ws words j l i)))

-- the masks of all gates once the gates from j on have passed theirs, in the lanes that have a listed pattern
pub record MasksFrom (net : Netlist) (patterns : List ℕ) (j : ℕ) (masks : List ℕ) : Type 0 where
  pub long : length masks ≡ most_sources
  pub mask :
      (l s : ℕ) → l < lane_count → net.inputs ≤ s
      → lane l (get_or masks s 0)
      ≡ ltb l (length patterns) && is_live (count s (mask_reads_from (right_in net patterns l) net.outputs (net.inputs + j) (drop j net.gates)))

-- ---- counts

-- there is a count for each of g gates, with room for a block more
pub record CountsReady (g : ℕ) (counts : List ℕ) : Type 0 where
  pub long : g ≤ length counts
  pub few : (j : ℕ) → j < g → get_or counts j 0 ≤ most_listed

-- one block's counts added, gate by gate
pub record CountsAdded (method : Method) (net : Netlist) (patterns old new : List ℕ) : Type 0 where
  pub long : length new ≡ length old
  pub added : (j : ℕ) → j < length net.gates → get_or new j 0 ≡ get_or old j 0 + seen_count method net patterns j
  pub past : (j : ℕ) → length net.gates ≤ j → get_or new j 0 ≡ get_or old j 0
