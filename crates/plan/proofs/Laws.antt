-- The lowest live gate from a gate on, what live gates read, and the bits of a row's number that a source does not see. Assumes nothing.
use Prim.Native.Nat.{ℕ, ◌+◌, ◌-◌, ◌≤◌, ◌<◌}
use mathlib.Core.List.{List, []}
use mathlib.Core.Logic.{◌≢◌, by_cases}
use mathlib.Core.Path.{◌≡◌, refl, sym, subst, ◌∙◌}
use native.Mathlib.Decide.{dec_lt}
use native.Mathlib.Omega.{arith}
use lib.ListN.{length, get_or, set, replicate, length-set, length-replicate, get_or-replicate, get_or-eq_default}
use lib.Seq.{get_or-set_same, get_or-set_other}
use Rattle.lists.specs.Lists.{count}
use Rattle.lists.proofs.Counts.{count_at}
use Rattle.netlist.specs.Netlist.{gate_at}
use Rattle.netlist.specs.Live.{readers, output_reads, gate_reads}
use Rattle.netlist.proofs.Live.{live-readers, readers-live}
use Rattle.area.specs.Layout.{most_inputs, most_sources, inputs, gates, pin_count, pin, used_pins, output_words}
use Rattle.area.specs.Rules.{NetSound}
use Rattle.area.specs.Net.{net_of}
use Rattle.area.proofs.Net.{gate-at, gate_count, sound-pins}
use Rattle.area.proofs.Words.{pin-below, few-sources}
use Rattle.plan.specs.Plan.{row_inputs, row_bits, IsLive, LiveFrom, NextLive, InputBits, Unseen}

-- ---- live gates, from the last on

-- no gate comes after the last
pub next-none : (ws : List ℕ) → gates ws < most_sources → NextLive ws (replicate most_sources (gates ws)) (gates ws)
next-none ws few =
    record {
      long = length-replicate {A = ℕ} most_sources (gates ws);
      each =
          λ j from to.
          let here : get_or (replicate most_sources (gates ws)) j 0 ≡ gates ws = get_or-replicate most_sources j (gates ws) 0 (omega arith) in
          rw here
          (record { from = to; inside = omega arith; live = λ less. absurd (omega arith); least = λ i low less live. absurd (omega arith) });
    }

module _ (ws : List ℕ) (g : ℕ) (inside : g < gates ws) where
  live_here : IsLive ws (inputs ws + g) → LiveFrom ws g g
  live_here live = record { from = omega arith; inside = omega arith; live = λ less. live; least = λ i low less other. low }

  -- a dead gate is passed over
  dead-here : (x : ℕ) → readers (net_of ws [] []) (inputs ws + g) ≡ 0 → LiveFrom ws (g + 1) x → LiveFrom ws g x
  dead-here x dead after =
      record {
        from = omega (arith, after.from);
        inside = after.inside;
        live = after.live;
        least =
            λ i low less live.
            by_cases (dec_lt g i) (λ later. after.least i (omega arith) less live)
            (λ not-later.
            let same : i ≡ g = omega arith in
            let here : IsLive ws (inputs ws + g) = subst (λ (k : ℕ). IsLive ws (inputs ws + k)) same live in
            absurd (omega (arith, here, dead)));
      }

  -- one gate more, by its readers
  pub next_more : (next counts : List ℕ) (x : ℕ) → NetSound ws → ((s : ℕ) → get_or counts s 0 ≡ readers (net_of ws [] []) s)
      → NextLive ws next (g + 1) → (0 < get_or counts (inputs ws + g) 0 → x ≡ g)
      → (get_or counts (inputs ws + g) 0 ≡ 0 → x ≡ get_or next (g + 1) 0) → NextLive ws (set next g x) g
  next_more next counts x net counted known live dead =
      record {
        long = length-set next g x ∙ known.long;
        each =
            λ j from to.
            by_cases (dec_lt g j)
            (λ later. rw (get_or-set_other next g j x 0 (λ e. omega arith)) (known.each j (omega arith) to))
            (λ not-later.
            let same : g ≡ j = omega arith in
            subst (λ (k : ℕ). LiveFrom ws k (get_or (set next g x) k 0)) same
            (rw (get_or-set_same next g x 0 (omega (arith, known.long, net.gates_fit, net.inputs_fit))) here));
      }
    where
      here : LiveFrom ws g x
      here =
          by_cases (dec_lt 0 (get_or counts (inputs ws + g) 0))
          (λ some. rw (live some) (live_here (rw (← counted (inputs ws + g)) some)))
          (λ none.
          let zero : get_or counts (inputs ws + g) 0 ≡ 0 = omega arith in
          rw (dead zero) (dead-here (get_or next (g + 1) 0) (sym (counted (inputs ws + g)) ∙ zero) (known.each (g + 1) (omega arith) (omega arith))))

-- what holds of the live gates before b holds of those before the lowest live one from b on
pub live-passed : (ws : List ℕ) (b x : ℕ) → LiveFrom ws b x → (P : ℕ → Type 0) → ((j : ℕ) → j < b → IsLive ws (inputs ws + j) → P j)
    → (j : ℕ) → j < x → IsLive ws (inputs ws + j) → P j
live-passed ws b x found P h j less live =
    by_cases (dec_lt j b) (λ before. h j before live)
    (λ after. absurd (omega (arith, found.least j (omega arith) (omega (arith, found.inside)) live)))

-- ---- what live gates and outputs read is live

module _ (ws : List ℕ) (net : NetSound ws) where
  pub live-pin : (j i : ℕ) → j < gates ws → IsLive ws (inputs ws + j) → i < length (used_pins ws j) → IsLive ws (get_or (used_pins ws j) i 0)
  live-pin j i l live inside =
      let net-of = net_of ws [] [] in
      let below = sound-pins ws [] [] net in
      let s = get_or (used_pins ws j) i 0 in
      let reads : 0 < count s (gate_at net-of j).pins = rw (gate-at ws [] [] j l) (count_at s (used_pins ws j) i inside refl) in
      live-readers net-of below (gate_reads j (omega (arith, gate_count ws [] [])) (readers-live net-of below (inputs ws + j) live) reads)

  pub live-output : (k : ℕ) → k < length (output_words ws) → IsLive ws (get_or (output_words ws) k 0)
  live-output k inside =
      live-readers (net_of ws [] []) (sound-pins ws [] [] net) (output_reads (count_at (get_or (output_words ws) k 0) (output_words ws) k inside refl))

-- ---- bits that are not seen

-- an entry of a list that has one number everywhere
same-fits : (n b s : ℕ) → get_or (replicate n b) s 0 ≤ b
same-fits n b s =
    by_cases (dec_lt s n) (λ inside. omega (arith, get_or-replicate n s b 0 inside))
    (λ past. omega (arith, get_or-eq_default (replicate n b) 0 {n = s} (omega (arith, length-replicate {A = ℕ} n b))))

pub bits_none : InputBits (replicate most_sources row_bits) row_inputs
bits_none =
    record {
      long = length-replicate {A = ℕ} most_sources row_bits;
      few = same-fits most_sources row_bits;
      input = λ s low less. absurd (omega arith);
    }

-- a bound of every entry stays where an entry within it is stored
set-fits : (unseen : List ℕ) (k x : ℕ) → k < length unseen → x ≤ row_bits → ((s : ℕ) → get_or unseen s 0 ≤ row_bits) → (s : ℕ)
    → get_or (set unseen k x) s 0 ≤ row_bits
set-fits unseen k x inside small few s =
    by_cases (dec_lt s k) (λ less. rw (get_or-set_other unseen k s x 0 (λ e. omega arith)) (few s))
    (λ not-less.
    by_cases (dec_lt k s) (λ more. rw (get_or-set_other unseen k s x 0 (λ e. omega arith)) (few s))
    (λ neither.
    let same : k ≡ s = omega arith in
    subst (λ (t : ℕ). get_or (set unseen k x) t 0 ≤ row_bits) same (rw (get_or-set_same unseen k x 0 inside) small)))

pub bits-more : (unseen : List ℕ) (k : ℕ) → row_inputs ≤ k → k < most_inputs → InputBits unseen k → InputBits (set unseen k (k - row_inputs)) (k + 1)
bits-more unseen k low small known =
    record {
      long = length-set unseen k (k - row_inputs) ∙ known.long;
      few = set-fits unseen k (k - row_inputs) (omega (arith, known.long)) (omega arith) known.few;
      input =
          λ s from less.
          by_cases (dec_lt s k) (λ before. rw (get_or-set_other unseen k s (k - row_inputs) 0 (λ e. omega arith)) (known.input s from before))
          (λ last.
          let same : k ≡ s = omega arith in
          subst (λ (t : ℕ). get_or (set unseen k (k - row_inputs)) t 0 + row_inputs ≤ t) same
          (rw (get_or-set_same unseen k (k - row_inputs) 0 (omega (arith, known.long))) (omega arith)));
    }

pub bits-fewer : (unseen : List ℕ) (k n : ℕ) → n ≤ k → InputBits unseen k → InputBits unseen n
bits-fewer unseen k n fewer known = record { long = known.long; few = known.few; input = λ s from less. known.input s from (omega arith) }

-- one gate more
pub gate-more : (ws : List ℕ) (net : NetSound ws) (unseen : List ℕ) (j x : ℕ) → j < gates ws → Unseen ws unseen j → x ≤ row_bits
    → ((i : ℕ) → i < pin_count ws j → x ≤ get_or unseen (pin ws j i) 0) → Unseen ws (set unseen (inputs ws + j) x) (j + 1)
gate-more ws net unseen j x inside known small least =
    record {
      bits =
          record {
            long = length-set unseen (inputs ws + j) x ∙ known.bits.long;
            few = set-fits unseen (inputs ws + j) x place small known.bits.few;
            input = λ s from less. rw (other s (λ e. omega arith)) (known.bits.input s from less);
          };
      gate =
          λ k i before used.
          by_cases (dec_lt k j)
          (λ less.
          let below = pin-below ws net k (omega arith) i used in
          rw (other (inputs ws + k) (λ e. omega arith), other (pin ws k i) (λ e. omega arith)) (known.gate k i less used))
          (λ last.
          let same : j ≡ k = omega arith in
          let reads : i < pin_count ws j = subst (λ (m : ℕ). i < pin_count ws m) (sym same) used in
          let below = pin-below ws net j inside i reads in
          subst (λ (m : ℕ). get_or (set unseen (inputs ws + j) x) (inputs ws + m) 0 ≤ get_or (set unseen (inputs ws + j) x) (pin ws m i) 0) same
          (rw (get_or-set_same unseen (inputs ws + j) x 0 place, other (pin ws j i) (λ e. omega arith)) (least i reads)));
    }
  where
    place : inputs ws + j < length unseen
    place = omega (arith, known.bits.long, few-sources ws net)

    other : (s : ℕ) → s ≢ inputs ws + j → get_or (set unseen (inputs ws + j) x) s 0 ≡ get_or unseen s 0
    other s elsewhere = get_or-set_other unseen (inputs ws + j) s x 0 elsewhere
