-- Masks passed back from the outputs: one output after another, one pin after another, one gate after another from the last to the first. Assumes nothing.
use Prim.Native.Nat.{ℕ, zero, suc, ◌+◌, ◌≤◌, ◌<◌}
use mathlib.Core.Bool.{Bool, true, false, cond, ◌&&◌, ◌||◌, and-true, and-false, or-false}
use mathlib.Core.List.{List, [], ◌∷◌, ◌++◌, map}
use mathlib.Core.Path.{◌≡◌, refl, sym, ap, ap₂, subst, ◌∙◌}
use native.Mathlib.Nat.{add-zero, zero-add}
use native.Mathlib.Numerals.{add-one}
use native.Mathlib.Omega.{arith}
use lib.Bits.{bit_and, bit_or}
use lib.Dec.{ltb}
use lib.ListN.{length, get_or, set, take, drop, length-set, length-take}
use lib.Seq.{get_or-set_same, get_or-set_other, take-suc, take_all, drop-length}
use Rattle.lists.specs.Lists.{count}
use Rattle.lists.proofs.Counts.{count-append, count-self, count-other}
use Rattle.lists.proofs.Every.{map_same}
use Rattle.netlist.specs.Netlist.{Gate, Netlist, gate_at}
use Rattle.netlist.specs.Live.{is_live, if_live, with_gate}
use Rattle.netlist.specs.Seen.{sensitive, pins_where, sensitive_pins, mask_reads_from, mask_seen}
use Rattle.netlist.proofs.Live.{count-with}
use Rattle.netlist.proofs.Masks.{mask-from, mask-settled}
use Rattle.area.specs.Layout.{most_sources, inputs, gates, table, pin_count, pin, used_pins, output_words}
use Rattle.area.specs.Rules.{NetSound}
use Rattle.area.specs.Net.{net_of}
use Rattle.area.proofs.Net.{gate-at, gate_count, sound-pins}
use Rattle.area.proofs.Words.{used-below, used-count, used-pin}
use Rattle.signals.specs.Signals.{lane_count, lane, InEachLane, right_in, WordsHold}
use Rattle.signals.proofs.Lanes.{lane_or, lane_and, lane-zero}
use Rattle.counts.specs.Counts.{in_list, OutputMasks, sensitive_in, MaskPassed, MasksFrom}
use Rattle.counts.proofs.Windows.{is-or-not}

-- ---- a count of reads as a value

live-sum : (a b : ℕ) → is_live (a + b) ≡ is_live a || is_live b
live-sum zero b = ap is_live (zero-add b)
live-sum (suc a) b =
    let e : suc a + b ≡ suc (a + b) = omega arith in
    ap is_live e

live-if-both : (b c : ℕ) → is_live (if_live b c) ≡ is_live b && is_live c
live-if-both zero c = refl
live-if-both (suc b) c = refl

-- ---- the outputs

module _ (by : ℕ) where
  pub masks-none : (masks : List ℕ) → length masks ≡ most_sources → ((s : ℕ) → get_or masks s 0 ≡ 0) → OutputMasks [] by masks
  masks-none masks long none = record { long = long; mask = none }

  pub masks-more : (os masks : List ℕ) (o : ℕ) → o < most_sources → OutputMasks os by masks → OutputMasks (os ++ (o ∷ [])) by (set masks o by)
  masks-more os masks o inside h =
      record {
        long = length-set masks o by ∙ h.long;
        mask =
            λ s.
            is-or-not s o
            (λ e. rw e (get_or-set_same masks o by 0 (omega (arith, h.long)) ∙ sym (ap (λ (b : Bool). cond b by 0) (read o))))
            (λ other. get_or-set_other masks o s by 0 other ∙ h.mask s ∙ sym (ap (λ (n : ℕ). cond (is_live n) by 0) (not-read s other)));
      }
    where
      read : (o : ℕ) → is_live (count o (os ++ (o ∷ []))) ≡ true
      read o =
          let e : count o (os ++ (o ∷ [])) ≡ suc (count o os) = omega (arith, count-append o os (o ∷ []), count-self o []) in
          ap is_live e

      not-read : (s : ℕ) → (s ≡ o → ⊥) → count s (os ++ (o ∷ [])) ≡ count s os
      not-read s other = count-append s os (o ∷ []) ∙ ap (λ (n : ℕ). count s os + n) (count-other s o [] other) ∙ add-zero (count s os)

-- ---- a gate's pins

-- of one pin more
where-more : (t : ℕ → Bool) (ps : List ℕ) (p i k : ℕ) → k ≡ i + length ps → pins_where t i (ps ++ (p ∷ [])) ≡ pins_where t i ps ++ cond (t k) (p ∷ []) []
where-more t [] p i k e =
    let same : i ≡ k = omega arith in
    ap (λ (n : ℕ). cond (t n) (p ∷ []) []) same
where-more t (q ∷ ps) p i k e = go (t i) (where-more t ps p (suc i) k (omega arith))
  where
    go : (c : Bool) → pins_where t (suc i) (ps ++ (p ∷ [])) ≡ pins_where t (suc i) ps ++ cond (t k) (p ∷ []) []
        → cond c (q ∷ pins_where t (suc i) (ps ++ (p ∷ []))) (pins_where t (suc i) (ps ++ (p ∷ [])))
        ≡ cond c (q ∷ pins_where t (suc i) ps) (pins_where t (suc i) ps) ++ cond (t k) (p ∷ []) []
    go true rest = ap (λ (xs : List ℕ). q ∷ xs) rest
    go false rest = rest

single-here : (p : ℕ) (b : Bool) → is_live (count p (cond b (p ∷ []) [])) ≡ b
single-here p true = ap is_live (count-self p [])
single-here p false = refl

single-other : (s p : ℕ) (b : Bool) → (s ≡ p → ⊥) → count s (cond b (p ∷ []) []) ≡ 0
single-other s p true other = count-other s p [] other
single-other s p false other = refl

gathered : (a m c t : Bool) → (a || (m && c)) || (t && m) ≡ a || (m && (c || t))
gathered true m c t = refl
gathered false true c true = refl
gathered false true c false = refl
gathered false false c true = refl
gathered false false c false = refl

module _ (ws words : List ℕ) (sound : NetSound ws) (j : ℕ) (inside : j < gates ws) where
  pub passed_none : (masks : List ℕ) → length masks ≡ most_sources → MaskPassed ws words j 0 masks masks
  passed_none masks long =
      record {
        long = long;
        mask =
            λ l s less gate.
            let was = lane l (get_or masks s 0) in
            sym (ap (λ (b : Bool). was || b) (and-false (lane l (get_or masks (inputs ws + j) 0))) ∙ or-false was);
      }

  -- a mask without a lane passes nothing on
  pub passed-zero : (masks : List ℕ) (i : ℕ) → length masks ≡ most_sources → get_or masks (inputs ws + j) 0 ≡ 0 → MaskPassed ws words j i masks masks
  passed-zero masks i long zero-mask =
      record {
        long = long;
        mask =
            λ l s less gate.
            sym (ap (λ (m : Bool). lane l (get_or masks s 0) || (m && is_live (count s (sensitive_in ws words j l i)))) (ap (lane l) zero-mask ∙ lane-zero l)
            ∙ or-false (lane l (get_or masks s 0)));
      }

  module _ (i : ℕ) (used : i < pin_count ws j) where
    next-sensitive : (l : ℕ) → sensitive_in ws words j l (i + 1)
        ≡ sensitive_in ws words j l i
        ++ cond (sensitive (table ws j) (map (λ (p : ℕ). lane l (get_or words p 0)) (used_pins ws j)) i) (pin ws j i ∷ []) []
    next-sensitive l =
        let t : ℕ → Bool = sensitive (table ws j) (map (λ (p : ℕ). lane l (get_or words p 0)) (used_pins ws j)) in
        let few : i < length (used_pins ws j) = omega (arith, used-count ws sound j inside) in
        let one : take (i + 1) (used_pins ws j) ≡ take i (used_pins ws j) ++ (get_or (used_pins ws j) i 0 ∷ [])
        = ap (λ (k : ℕ). take k (used_pins ws j)) (add-one i) ∙ take-suc (used_pins ws j) i 0 few in
        ap (pins_where t 0) (one ∙ ap (λ (p : ℕ). take i (used_pins ws j) ++ (p ∷ [])) (sym (used-pin ws sound j inside i used)))
        ∙ where-more t (take i (used_pins ws j)) (pin ws j i) 0 i (omega (arith, length-take i (used_pins ws j)))

    -- of a source that the pin does not read
    not-this : (l s : ℕ) (old : List ℕ) → (s ≡ pin ws j i → ⊥)
        → lane l (get_or old s 0) || (lane l (get_or old (inputs ws + j) 0) && is_live (count s (sensitive_in ws words j l (i + 1))))
        ≡ lane l (get_or old s 0) || (lane l (get_or old (inputs ws + j) 0) && is_live (count s (sensitive_in ws words j l i)))
    not-this l s old other =
        let t : Bool = sensitive (table ws j) (map (λ (p : ℕ). lane l (get_or words p 0)) (used_pins ws j)) i in
        ap (λ (n : ℕ). lane l (get_or old s 0) || (lane l (get_or old (inputs ws + j) 0) && is_live n))
        (ap (count s) (next-sensitive l)
        ∙ count-append s (sensitive_in ws words j l i) (cond t (pin ws j i ∷ []) [])
        ∙ ap (λ (n : ℕ). count s (sensitive_in ws words j l i) + n) (single-other s (pin ws j i) t other)
        ∙ add-zero (count s (sensitive_in ws words j l i)))

    pub passed-more : (old new : List ℕ) (word mask : ℕ) → MaskPassed ws words j i old new → mask ≡ get_or old (inputs ws + j) 0 → pin ws j i < most_sources
        → InEachLane word (λ l. sensitive (table ws j) (map (λ (p : ℕ). lane l (get_or words p 0)) (used_pins ws j)) i)
        → MaskPassed ws words j (i + 1) old (set new (pin ws j i) (bit_or (get_or new (pin ws j i) 0) (bit_and word mask)))
    passed-more old new word mask h e source lanes =
        record {
          long = length-set new p joined_word ∙ h.long;
          mask = λ l s less gate. is-or-not s p (λ q. rw q (here l less (subst (λ (t : ℕ). inputs ws ≤ t) q gate))) (λ other. elsewhere l s less gate other);
        }
      where
        p : ℕ
        p = pin ws j i

        joined_word : ℕ
        joined_word = bit_or (get_or new p 0) (bit_and word mask)

        t : ℕ → Bool
        t l = sensitive (table ws j) (map (λ (p : ℕ). lane l (get_or words p 0)) (used_pins ws j)) i

        here : (l : ℕ) → l < lane_count → inputs ws ≤ p → lane l (get_or (set new p joined_word) p 0)
            ≡ lane l (get_or old p 0) || (lane l (get_or old (inputs ws + j) 0) && is_live (count p (sensitive_in ws words j l (i + 1))))
        here l less gate =
            ap (lane l) (get_or-set_same new p joined_word 0 (omega (arith, h.long)))
            ∙ lane_or l (get_or new p 0) (bit_and word mask)
            ∙ ap₂ ◌||◌ (h.mask l p less gate) (lane_and l word mask ∙ ap₂ ◌&&◌ (lanes l less) (ap (lane l) e))
            ∙ gathered (lane l (get_or old p 0)) (lane l (get_or old (inputs ws + j) 0)) (is_live (count p (sensitive_in ws words j l i))) (t l)
            ∙ ap (λ (b : Bool). lane l (get_or old p 0) || (lane l (get_or old (inputs ws + j) 0) && b))
            (sym (ap (λ (xs : List ℕ). is_live (count p xs)) (next-sensitive l)
            ∙ ap is_live (count-append p (sensitive_in ws words j l i) (cond (t l) (p ∷ []) []))
            ∙ live-sum (count p (sensitive_in ws words j l i)) (count p (cond (t l) (p ∷ []) []))
            ∙ ap (λ (b : Bool). is_live (count p (sensitive_in ws words j l i)) || b) (single-here p (t l))))

        elsewhere : (l s : ℕ) → l < lane_count → inputs ws ≤ s → (s ≡ p → ⊥) → lane l (get_or (set new p joined_word) s 0)
            ≡ lane l (get_or old s 0) || (lane l (get_or old (inputs ws + j) 0) && is_live (count s (sensitive_in ws words j l (i + 1))))
        elsewhere l s less gate other = ap (lane l) (get_or-set_other new p s joined_word 0 other) ∙ h.mask l s less gate ∙ sym (not-this l s old other)

    -- a pin that reads an input passes nothing on
    pub passed-by : (old new : List ℕ) → MaskPassed ws words j i old new → pin ws j i < inputs ws → MaskPassed ws words j (i + 1) old new
    passed-by old new h input =
        record { long = h.long; mask = λ l s less gate. h.mask l s less gate ∙ sym (not-this l s old (λ e. omega arith)) }

-- ---- the gates, from the last to the first

module _ (ws patterns : List ℕ) where
  -- before any gate the outputs alone give masks
  pub masks-first : (by : ℕ) (masks : List ℕ) → InEachLane by (λ l. ltb l (length patterns)) → OutputMasks (output_words ws) by masks
      → MasksFrom (net_of ws [] []) patterns (gates ws) masks
  masks-first by masks lanes h =
      record {
        long = h.long;
        mask =
            λ l s less gate.
            ap (lane l) (h.mask s) ∙ chosen l less (is_live (count s (output_words ws)))
            ∙ ap (λ (gs : List Gate). ltb l (length patterns) && is_live (count s (reads-by l gs))) (sym no-gates);
      }
    where
      net : Netlist
      net = net_of ws [] []

      reads-by : ℕ → List Gate → List ℕ
      reads-by l gs = mask_reads_from (right_in net patterns l) (output_words ws) (inputs ws + gates ws) gs

      no-gates : drop (gates ws) net.gates ≡ []
      no-gates = ap (λ (k : ℕ). drop k net.gates) (sym (gate_count ws [] [])) ∙ drop-length net.gates

      chosen : (l : ℕ) → l < lane_count → (b : Bool) → lane l (cond b by 0) ≡ ltb l (length patterns) && b
      chosen l less true = lanes l less ∙ sym (and-true (ltb l (length patterns)))
      chosen l less false = lane-zero l ∙ sym (and-false (ltb l (length patterns)))

  module _ (words : List ℕ) (sound : NetSound ws) (held : WordsHold (inputs ws + gates ws) (right_in (net_of ws [] []) patterns) words)
      (j : ℕ) (inside : j < gates ws) (masks : List ℕ) (h : MasksFrom (net_of ws [] []) patterns (suc j) masks) where
    abbrev net : Netlist
    net = net_of ws [] []

    few : j < length net.gates
    few = omega (arith, gate_count ws [] [])

    -- the reads by the gates after gate j
    abbrev rest : ℕ → List ℕ
    rest l = mask_reads_from (right_in net patterns l) net.outputs (suc (inputs ws + j)) (drop (suc j) net.gates)

    mask-rest : (l s : ℕ) → l < lane_count → inputs ws ≤ s → lane l (get_or masks s 0) ≡ ltb l (length patterns) && is_live (count s (rest l))
    mask-rest l s less gate =
        let e : inputs ws + suc j ≡ suc (inputs ws + j) = omega arith in
        h.mask l s less gate
        ∙ ap (λ (n : ℕ). ltb l (length patterns) && is_live (count s (mask_reads_from (right_in net patterns l) net.outputs n (drop (suc j) net.gates)))) e

    -- gate j's mask tells where it is seen
    pub mask_lanes : InEachLane (get_or masks (inputs ws + j) 0) (in_list patterns (λ q. mask_seen net q j))
    mask_lanes l less =
        mask-rest l (inputs ws + j) less (omega arith)
        ∙ ap (λ (b : Bool). ltb l (length patterns) && b) (sym (mask-settled net (sound-pins ws [] [] sound) (get_or patterns l 0) j few))

    same-sensitive : (l : ℕ) → l < lane_count → sensitive_in ws words j l (pin_count ws j) ≡ sensitive_pins (right_in net patterns l) (gate_at net j)
    same-sensitive l less =
        ap (pins_where (sensitive (table ws j) (map (λ (p : ℕ). lane l (get_or words p 0)) (used_pins ws j))) 0)
        (take_all (pin_count ws j) (used_pins ws j) (omega (arith, used-count ws sound j inside)))
        ∙ ap (λ (vs : List Bool). pins_where (sensitive (table ws j) vs) 0 (used_pins ws j))
        (map_same (λ p. lane l (get_or words p 0)) (λ p. get_or (right_in net patterns l) p false) (used_pins ws j)
        (λ i u. held.held l (get_or (used_pins ws j) i 0) less (omega (arith, used-below ws sound j inside i u))))
        ∙ ap (sensitive_pins (right_in net patterns l)) (sym (gate-at ws [] [] j inside))

    -- and is passed on
    pub masks-step : (passed : List ℕ) → MaskPassed ws words j (pin_count ws j) masks passed → MasksFrom net patterns j passed
    masks-step passed p =
        record {
          long = p.long;
          mask =
              λ l s less gate.
              p.mask l s less gate
              ∙ ap₂ ◌||◌
              (mask-rest l s less gate)
              (ap₂ ◌&&◌ (mask-rest l (inputs ws + j) less (omega arith)) (ap (λ (xs : List ℕ). is_live (count s xs)) (same-sensitive l less)))
              ∙ out (ltb l (length patterns)) (is_live (count s (rest l))) (is_live (count (inputs ws + j) (rest l))) (is_live (count s (sens l)))
              ∙ ap (λ (b : Bool). ltb l (length patterns) && b) (sym (reads l s));
        }
      where
        sens : ℕ → List ℕ
        sens l = sensitive_pins (right_in net patterns l) (gate_at net j)

        out : (i a b c : Bool) → (i && a) || ((i && b) && c) ≡ i && (a || (b && c))
        out true a b c = refl
        out false a b c = refl

        reads : (l s : ℕ) → is_live (count s (mask_reads_from (right_in net patterns l) net.outputs (net.inputs + j) (drop j net.gates)))
            ≡ is_live (count s (rest l)) || (is_live (count (inputs ws + j) (rest l)) && is_live (count s (sens l)))
        reads l s =
            let swap : count s (with_gate (inputs ws + j) (sens l) (rest l)) ≡ count s (rest l) + if_live (count (inputs ws + j) (rest l)) (count s (sens l))
            = omega (arith, count-with s (inputs ws + j) (sens l) (rest l)) in
            ap (λ (xs : List ℕ). is_live (count s xs)) (mask-from net (right_in net patterns l) j few)
            ∙ ap is_live swap
            ∙ live-sum (count s (rest l)) (if_live (count (inputs ws + j) (rest l)) (count s (sens l)))
            ∙ ap (λ (b : Bool). is_live (count s (rest l)) || b) (live-if-both (count (inputs ws + j) (rest l)) (count s (sens l)))
