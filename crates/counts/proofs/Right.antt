-- Words that hold the right values: each gate's word is its answer on its pins' words. Assumes nothing.
use Prim.Native.Nat.{ℕ, ◌+◌, ◌<◌}
use mathlib.Core.Bool.{Bool, false}
use mathlib.Core.List.{List, [], map}
use mathlib.Core.Path.{◌≡◌, sym, ap, ◌∙◌}
use native.Mathlib.Omega.{arith}
use lib.ListN.{get_or}
use Rattle.lists.proofs.Every.{map_same}
use Rattle.figure.specs.Figure.{answer}
use Rattle.netlist.specs.Netlist.{Gate, pin_values}
use Rattle.netlist.specs.Seen.{sensitive}
use Rattle.netlist.proofs.Values.{right-gate}
use Rattle.area.specs.Layout.{inputs, gates, table, pin_count, pins, used_pins}
use Rattle.area.specs.Rules.{NetSound}
use Rattle.area.specs.Net.{net_of}
use Rattle.area.proofs.Net.{gate-at, gate_count, sound-pins}
use Rattle.area.proofs.Words.{used-below}
use Rattle.signals.specs.Signals.{lane_count, lane, InEachLane, pin_lanes, right_in, WordsHold}
use Rattle.signals.proofs.Held.{pins-lanes}
use Rattle.counts.specs.Counts.{right_answer, Worked}

module _ (ws patterns words : List ℕ) (sound : NetSound ws) (held : WordsHold (inputs ws + gates ws) (right_in (net_of ws [] []) patterns) words) where
  pub right_answer-at : (l : ℕ) → l < lane_count → (m : ℕ) → m < gates ws
      → get_or (right_in (net_of ws [] []) patterns l) (inputs ws + m) false ≡ right_answer ws words m l
  right_answer-at l less m here =
      let right = right_in (net_of ws [] []) patterns l in
      right-gate (net_of ws [] []) (sound-pins ws [] [] sound) (get_or patterns l 0) m (omega (arith, gate_count ws [] []))
      ∙ ap (λ (g : Gate). answer g.table (pin_values right g.pins)) (gate-at ws [] [] m here)
      ∙ ap (answer (table ws m))
      (map_same (λ p. get_or right p false) (λ p. lane l (get_or words p 0)) (used_pins ws m)
      (λ i h. sym (held.held l (get_or (used_pins ws m) i 0) less (omega (arith, used-below ws sound m here i h)))))

  pub words-worked : Worked ws words
  words-worked m here l less = held.held l (inputs ws + m) less (omega arith) ∙ right_answer-at l less m here

-- the pins' words, used or not, beside the values of the used ones
module _ (ws words : List ℕ) (j : ℕ) where
  abbrev pinned : ℕ → List Bool
  pinned l = pin_lanes l (pin_count ws j) (map (λ (p : ℕ). get_or words p 0) (pins ws j))

  pub pins-answer : (word : ℕ) → InEachLane word (right_answer ws words j) → InEachLane word (λ l. answer (table ws j) (pinned l))
  pins-answer word h l less = h l less ∙ sym (ap (answer (table ws j)) (pins-lanes l (λ p. get_or words p 0) ws j))

  pub pins-sensitive : (word i : ℕ) → InEachLane word (λ l. sensitive (table ws j) (pinned l) i)
      → InEachLane word (λ l. sensitive (table ws j) (map (λ (p : ℕ). lane l (get_or words p 0)) (used_pins ws j)) i)
  pins-sensitive word i h l less = h l less ∙ ap (λ (vs : List Bool). sensitive (table ws j) vs i) (pins-lanes l (λ p. get_or words p 0) ws j)
