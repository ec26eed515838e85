-- What changes when a gate flips in the lanes of listed patterns: each source changes exactly where its value under that flip differs from the right one, so
-- the outputs tell where the flip is seen. Assumes nothing.
use Prim.Native.Nat.{ℕ, zero, suc, ◌+◌, ◌-◌, ◌≤◌, ◌<◌}
use mathlib.Core.Bool.{Bool, true, false, cond, not, ◌&&◌, ◌||◌, beq}
use mathlib.Core.List.{List, [], ◌∷◌}
use mathlib.Core.Logic.{◌≢◌, ⊎_elim}
use mathlib.Core.Path.{◌≡◌, refl, sym, ap, ap₂, subst, ◌∙◌}
use native.Mathlib.Nat.{eq-or-lt_of_le}
use native.Mathlib.Omega.{arith}
use lib.Bits.{bit_xor}
use lib.Dec.{ltb}
use lib.ListN.{length, get_or}
use Rattle.lists.specs.Lists.{Below}
use Rattle.lists.proofs.Every.{map_same, below-tail}
use Rattle.figure.specs.Figure.{answer, invert_if}
use Rattle.netlist.specs.Netlist.{Gate, Netlist, input_values, pin_values, values, right_values}
use Rattle.netlist.specs.Exact.{outputs_agree}
use Rattle.netlist.specs.Seen.{differ, alone, flip_seen}
use Rattle.netlist.proofs.Values.{right-input}
use Rattle.netlist.proofs.Flipped.{flipped-input, flipped-gate, alone_at, alone-other}
use Rattle.area.specs.Layout.{inputs, gates, table, pin, used_pins, output_words}
use Rattle.area.specs.Rules.{NetSound}
use Rattle.area.specs.Net.{net_of}
use Rattle.area.proofs.Net.{gate-at, gate_count, sound-pins}
use Rattle.area.proofs.Words.{used-below, pin-below, output-below}
use Rattle.signals.specs.Signals.{lane_count, lane, InEachLane, right_in, WordsHold}
use Rattle.signals.proofs.Lanes.{lane_xor, lane-zero}
use Rattle.counts.specs.Counts.{in_list, right_answer, changed_answer, Flipped, some_changed}
use Rattle.counts.proofs.Right.{right_answer-at}
use Rattle.counts.proofs.Windows.{is-or-not, by_order, same-differ, no_change}

-- a right value inverted where it differs from another is that other
invert-to : (r f : Bool) → invert_if r (differ f r) ≡ f
invert-to true true = refl
invert-to true false = refl
invert-to false true = refl
invert-to false false = refl

-- values that do not differ, one of them inverted where b is set
differ-inverted : (b x y : Bool) → differ x y ≡ false → b ≡ differ (invert_if b x) y
differ-inverted true true true e = refl
differ-inverted true true false e = e
differ-inverted true false true e = e
differ-inverted true false false e = refl
differ-inverted false x y e = sym e

-- values agree with themselves
agree-self : (os : List ℕ) (vs : List Bool) → outputs_agree os vs vs ≡ true
agree-self [] vs = refl
agree-self (o ∷ os) vs = ap₂ ◌&&◌ (beq-self (get_or vs o false)) (agree-self os vs)
  where
    beq-self : (b : Bool) → beq b b ≡ true
    beq-self true = refl
    beq-self false = refl

ne-le : (m j : ℕ) → m ≢ j → j ≤ m → j < m
ne-le m j other h = ⊎_elim (λ e. absurd (other (sym e))) (λ less. less) (eq-or-lt_of_le h)

module _ (ws patterns words : List ℕ) (sound : NetSound ws) (held : WordsHold (inputs ws + gates ws) (right_in (net_of ws [] []) patterns) words)
    (j by : ℕ) (inside : j < gates ws) (lanes : InEachLane by (λ l. ltb l (length patterns))) (changed : List ℕ) (flip : Flipped ws words j by changed)
    (l : ℕ) (less : l < lane_count) where
  abbrev net : Netlist
  net = net_of ws [] []

  abbrev pattern : ℕ
  pattern = get_or patterns l 0

  abbrev flips : List Bool
  flips = cond (ltb l (length patterns)) (alone j) []

  abbrev right : List Bool
  right = right_values net pattern

  abbrev flipped : List Bool
  flipped = values net.gates flips (input_values net.inputs pattern)

  abbrev Changes : ℕ → Type 0
  Changes s = lane l (get_or changed s 0) ≡ differ (get_or flipped s false) (get_or right s false)

  -- only gate j flips, and only in a listed lane
  flips-here : get_or flips j false ≡ ltb l (length patterns)
  flips-here = go (ltb l (length patterns))
    where
      go : (b : Bool) → get_or (cond b (alone j) []) j false ≡ b
      go true = alone_at j
      go false = refl

  flips-other : (m : ℕ) → m ≢ j → get_or flips m false ≡ false
  flips-other m other = go (ltb l (length patterns))
    where
      go : (b : Bool) → get_or (cond b (alone j) []) m false ≡ false
      go true = alone-other j m other
      go false = refl

  module _ (m : ℕ) (here : m < gates ws) where
    -- gate m's value under the flip, from those of its pins
    flipped-answer : ((s : ℕ) → s < inputs ws + m → Changes s)
        → get_or flipped (inputs ws + m) false ≡ invert_if (get_or flips m false) (changed_answer ws words changed m l)
    flipped-answer earlier =
        flipped-gate net (sound-pins ws [] [] sound) flips pattern m (omega (arith, gate_count ws [] []))
        ∙ ap (λ (g : Gate). invert_if (get_or flips m false) (answer g.table (pin_values flipped g.pins))) (gate-at ws [] [] m here)
        ∙ ap (λ (vs : List Bool). invert_if (get_or flips m false) (answer (table ws m) vs))
        (map_same (λ p. get_or flipped p false) (λ p. lane l (bit_xor (get_or words p 0) (get_or changed p 0))) (used_pins ws m)
        (λ i h.
        let p = get_or (used_pins ws m) i 0 in
        let below = used-below ws sound m here i h in
        sym
        (lane_xor l (get_or words p 0) (get_or changed p 0)
        ∙ ap₂ invert_if (held.held l p less (omega arith)) (earlier p below)
        ∙ invert-to (get_or right p false) (get_or flipped p false))))

    -- pins of a gate up to j read nothing that changes
    unchanged_pins : m ≤ j → differ (changed_answer ws words changed m l) (right_answer ws words m l) ≡ false
    unchanged_pins few = no_change ws words sound changed m here (λ i used. flip.before (pin ws m i) (omega (arith, pin-below ws sound m here i used))) l

    gate-changes : ((s : ℕ) → s < inputs ws + m → Changes s) → Changes (inputs ws + m)
    gate-changes earlier = go ∙ sym (ap₂ differ (flipped-answer earlier) (right_answer-at ws patterns words sound held l less m here))
      where
        -- what the answers come to where gate m flips if b is set
        at : (b : Bool) → get_or flips m false ≡ b → {x : Bool} → x ≡ differ (invert_if b (changed_answer ws words changed m l)) (right_answer ws words m l)
            → x ≡ differ (invert_if (get_or flips m false) (changed_answer ws words changed m l)) (right_answer ws words m l)
        at b e h = h ∙ ap (λ (c : Bool). differ (invert_if c (changed_answer ws words changed m l)) (right_answer ws words m l)) (sym e)

        zero-here : get_or changed (inputs ws + m) 0 ≡ 0 → lane l (get_or changed (inputs ws + m) 0) ≡ false
        zero-here e = ap (lane l) e ∙ lane-zero l

        go : lane l (get_or changed (inputs ws + m) 0) ≡ differ (invert_if (get_or flips m false) (changed_answer ws words changed m l)) (right_answer ws words m l)
        go =
            is-or-not m j
            (λ e.
            at (ltb l (length patterns)) (ap (λ (k : ℕ). get_or flips k false) e ∙ flips-here)
            (ap (λ (k : ℕ). lane l (get_or changed (inputs ws + k) 0)) e ∙ ap (lane l) flip.start ∙ lanes l less
            ∙ differ-inverted (ltb l (length patterns)) (changed_answer ws words changed m l) (right_answer ws words m l) (unchanged_pins (omega arith))))
            (λ other.
            at false (flips-other m other)
            (by_order m j
            (λ before. zero-here (flip.before (inputs ws + m) (omega arith)) ∙ sym (unchanged_pins (omega arith)))
            (λ after. flip.settled m (omega (arith, ne-le m j other after)) here l less)))

  changes : (k s : ℕ) → s < k → s < inputs ws + gates ws → Changes s
  changes zero s h below = absurd (omega arith)
  changes (suc k) s h below =
      by_order s (inputs ws)
      (λ input.
      ap (lane l) (flip.before s (omega arith)) ∙ lane-zero l
      ∙ sym (same-differ (get_or flipped s false) (get_or right s false)
      (flipped-input net (sound-pins ws [] [] sound) flips pattern s input ∙ sym (right-input net (sound-pins ws [] [] sound) pattern s input))))
      (λ gate.
      let place : inputs ws + (s - inputs ws) ≡ s = omega arith in
      subst Changes place (gate-changes (s - inputs ws) (omega arith) (λ t u. changes k t (omega arith) (omega arith))))

  outputs-change : (os : List ℕ) → Below (inputs ws + gates ws) os → some_changed changed os l ≡ not (outputs_agree os flipped right)
  outputs-change [] below = refl
  outputs-change (o ∷ os) below =
      ap₂ ◌||◌ (changes (suc o) o (omega arith) (below 0 (omega arith))) (outputs-change os (below-tail (inputs ws + gates ws) o os below))
      ∙ not-both (beq (get_or flipped o false) (get_or right o false)) (outputs_agree os flipped right)
    where
      not-both : (x y : Bool) → not x || not y ≡ not (x && y)
      not-both true y = refl
      not-both false y = refl

  -- in a listed lane the flip is seen as the netlist says, in any other nothing changes
  pub flip-seen : some_changed changed (output_words ws) l ≡ in_list patterns (λ q. flip_seen net q j) l
  unfolding flip_seen right_values
  flip-seen = outputs-change (output_words ws) (output-below ws sound) ∙ go (ltb l (length patterns))
    where
      go : (b : Bool) → not (outputs_agree (output_words ws) (values net.gates (cond b (alone j) []) (input_values net.inputs pattern)) right)
          ≡ b && flip_seen net pattern j
      go true = refl
      go false = ap not (agree-self (output_words ws) right)
