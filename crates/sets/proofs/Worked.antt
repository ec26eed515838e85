-- What the words mean once the gates between two shared ones are worked out, and after a shared gate for both suppositions. Assumes nothing.
use Prim.Native.Nat.{ℕ, zero, suc, ◌+◌, ◌-◌, ◌*◌, ◌/◌, ◌%◌, ◌^◌, ◌≤◌, ◌<◌}
use mathlib.Core.Bool.{Bool, true, false, cond}
use mathlib.Core.List.{List, [], map}
use mathlib.Core.Logic.{by_cases}
use mathlib.Core.Path.{◌≡◌, refl, sym, ap, ap₂, subst, ◌∙◌}
use native.Mathlib.Decide.{dec_lt}
use native.Mathlib.Omega.{arith}
use lib.Dec.{eqb}
use lib.ListN.{length, get_or}
use Rattle.rounding.specs.Rounding.{units_in_one}
use Rattle.figure.specs.Figure.{bit_of, is_odd, answer, gate_failure, right_of, failure_of, gate_word}
use Rattle.netlist.specs.Netlist.{Gate, pin_values, right_values}
use Rattle.netlist.specs.Live.{readers}
use Rattle.netlist.proofs.Values.{right-input, right-gate}
use Rattle.suppose.specs.Suppose.{supposed_wrong, shared_steps}
use Rattle.area.specs.Layout.{inputs, gates, pattern, table, flip, figure, used_pins, source_word}
use Rattle.area.specs.Rules.{NetSound, Workable}
use Rattle.area.specs.Figures.{gate_word_from}
use Rattle.area.specs.Net.{net_of}
use Rattle.area.proofs.Net.{gate-at, gate_count, sound-pins}
use Rattle.area.proofs.Words.{used-below}
use Rattle.plan.specs.Plan.{IsLive}
use Rattle.work.specs.Work.{gate_figure, work_gate}
use Rattle.work.proofs.Frame.{work-gate-kept, end, next}
use Rattle.work.proofs.Sound.{workable-work-gate}
use Rattle.fresh.proofs.Sources.{source-input, source-gate, source-cases}
use Rattle.fresh.proofs.Bridge.{right-of-word, failure-of-word, map-twice}
use Rattle.fresh.proofs.WorkAll.{fresh-walk, fresh-worked}
use Rattle.plan.proofs.Laws.{live-pin}
use Rattle.sets.specs.Sets.{flip_words, units_net, shared_of, shared_to, set_of, own_failure, seen_failure, product_to}
use Rattle.sets.proofs.Laws.{to_same, not-supposed, seen-input, own-gate}
use Rattle.sets.specs.Branches.{right_bit, SeenAs, WordsSeen, Marks, MarkedFrom, Stands, SameBefore, WorkedTo}
use Rattle.sets.proofs.Same.{inputs-same, gates-same, product-same, words_same, marks-same, same_none}
use Rattle.sets.proofs.Same as same

-- ---- the gates between two shared ones, one by one

pub worked-none : (ws marks : List ℕ) (b : ℕ) → Workable ws → WorkedTo ws marks ws b b
worked-none ws marks b workable =
    record {
      same = same_none ws marks b workable;
      single = λ j from to. absurd (omega arith);
      worked = λ j from to. absurd (omega arith);
    }

-- gates without a mark are passed over
pub worked-on : (ws marks vs : List ℕ) (b c x : ℕ) → MarkedFrom marks (inputs ws) (gates ws) c x → WorkedTo ws marks vs b c → WorkedTo ws marks vs b x
worked-on ws marks vs b c x found before =
    record {
      same = before.same;
      single =
          λ j from to.
          by_cases (dec_lt j c) (λ less. before.single j from less) (λ past. omega (arith, found.none j (omega arith) to));
      worked =
          λ j from to mark.
          by_cases (dec_lt j c) (λ less. before.worked j from less mark) (λ past. absurd (omega (arith, found.none j (omega arith) to, mark)));
    }

module _ (ws marks vs : List ℕ) (b g : ℕ) (from : b ≤ g) (inside : g < gates ws) (mark : 0 < get_or marks (inputs ws + g) 0)
    (before : WorkedTo ws marks vs b g) where
  abbrev us : List ℕ
  us = work_gate vs g

  there : g < gates vs
  there = omega (arith, gates-same ws marks vs b before.same)

  -- a marked gate is worked out
  pub worked-gate : WorkedTo ws marks us b g
  worked-gate =
      record {
        same =
            record {
              size = (work-gate-kept vs g).size ∙ before.same.size;
              kept = λ i other. (work-gate-kept vs g).kept i (other g from inside mark) ∙ before.same.kept i other;
              workable = workable-work-gate vs before.same.workable g there;
            };
        single = before.single;
        worked =
            λ j low less marked.
            fresh-walk {j = g} {k = 1} {ws = vs} {vs = us} (next true end) before.same.workable.net (omega (arith, there)) j less
            (before.worked j low less marked);
      }

  pub worked-here : figure us g ≡ gate_figure us g
  worked-here = fresh-worked vs before.same.workable.net g there

  -- and is not shared
  pub worked-single : get_or marks (inputs ws + g) 0 ≤ 1 → WorkedTo ws marks us b (g + 1)
  worked-single one =
      record {
        same = worked-gate.same;
        single =
            λ j low less.
            by_cases (dec_lt j g) (λ earlier. before.single j low earlier)
            (λ last. subst (λ (k : ℕ). get_or marks (inputs ws + k) 0 ≤ 1) (omega arith) one);
        worked =
            λ j low less marked.
            by_cases (dec_lt j g) (λ earlier. worked-gate.worked j low earlier marked)
            (λ last. subst (λ (k : ℕ). figure us k ≡ gate_figure us k) (omega arith) worked-here);
      }

-- ---- what a gate is worked out to

parity : (x : ℕ) → x % 2 ≡ bit_of (is_odd x)
parity x = go (x % 2) (omega arith)
  where
    go : (r : ℕ) → r ≤ 1 → r ≡ bit_of (eqb r 1)
    go zero l = refl
    go (suc zero) l = refl
    go (suc (suc r)) l = absurd (omega arith)

module _ (ws : List ℕ) (workable : Workable ws) (m : ℕ) where
  abbrev net : NetSound ws
  net = workable.net

  abbrev vs : List Bool
  vs = right_values (units_net ws) (pattern ws)

  abbrev SourceSeen : ℕ → Type 0
  SourceSeen s = source_word ws s ≡ 2 * seen_failure ws m s + right_bit ws s

  pub input-seen : (s : ℕ) → s < inputs ws → SourceSeen s
  unfolding units_net
  input-seen s l =
      let bit = ap bit_of (right-input (units_net ws) (sound-pins ws [] (flip_words ws) net) (pattern ws) s l) in
      source-input ws s l ∙ parity (pattern ws / 2 ^ s) ∙ sym bit ∙ omega (arith, seen-input ws workable m s l)

  -- every live source before gate b, where its gates are seen
  pub source-seen : (b : ℕ) → ((j : ℕ) → j < b → IsLive ws (inputs ws + j) → SeenAs ws m j) → (s : ℕ) → s < inputs ws + b → IsLive ws s → SourceSeen s
  source-seen b seen s below live =
      source-cases (inputs ws) s (input-seen s)
      (λ j e. subst SourceSeen (sym e) (source-gate ws j ∙ seen j (omega arith) (subst (IsLive ws) e live)))

  -- gate j, where what it reads is seen
  pub own-by-pins : (j : ℕ) → j < gates ws → ((i : ℕ) → i < length (used_pins ws j) → SourceSeen (get_or (used_pins ws j) i 0))
      → gate_figure ws j ≡ 2 * own_failure ws m (inputs ws + j) + right_bit ws (inputs ws + j)
  unfolding gate_figure gate_word_from gate_word units_net
  own-by-pins j inside read =
      let ps = used_pins ws j in
      let values : map right_of (map (source_word ws) ps) ≡ pin_values vs ps
      = map-twice right_of (source_word ws) (λ (s : ℕ). get_or vs s false) ps
      (λ i used. ap right_of (read i used) ∙ right-of-word (seen_failure ws m (get_or ps i 0)) (get_or vs (get_or ps i 0) false)) in
      let fails : map failure_of (map (source_word ws) ps) ≡ map (seen_failure ws m) ps
      = map-twice failure_of (source_word ws) (seen_failure ws m) ps
      (λ i used. ap failure_of (read i used) ∙ failure-of-word (seen_failure ws m (get_or ps i 0)) (get_or vs (get_or ps i 0) false)) in
      let right : get_or vs (inputs ws + j) false ≡ answer (table ws j) (pin_values vs ps)
      = right-gate (units_net ws) (sound-pins ws [] (flip_words ws) net) (pattern ws) j (omega (arith, gate_count ws [] (flip_words ws)))
      ∙ ap (λ (g : Gate). answer g.table (pin_values vs g.pins)) (gate-at ws [] (flip_words ws) j inside) in
      ap₂ (λ (x : List Bool) (y : List ℕ). 2 * gate_failure units_in_one (table ws j) x y (flip ws j) + bit_of (answer (table ws j) x)) values fails
      ∙ sym (ap₂ (λ (f : ℕ) (v : Bool). 2 * f + bit_of v) (own-gate ws workable m j inside) right)

  pub own-word : (j : ℕ) → j < gates ws → IsLive ws (inputs ws + j) → ((k : ℕ) → k < j → IsLive ws (inputs ws + k) → SeenAs ws m k)
      → gate_figure ws j ≡ 2 * own_failure ws m (inputs ws + j) + right_bit ws (inputs ws + j)
  own-word j inside live seen =
      own-by-pins j inside (λ i used.
      source-seen j seen (get_or (used_pins ws j) i 0) (used-below ws net j inside i used) (live-pin ws net j i inside live used))

  -- a gate that is not shared is seen as it is
  pub seen-own : (j : ℕ) → j < gates ws → readers (net_of ws [] []) (inputs ws + j) ≤ 1 → seen_failure ws m (inputs ws + j) ≡ own_failure ws m (inputs ws + j)
  unfolding seen_failure
  seen-own j inside one =
      ap (λ (c : Bool). cond c (cond (supposed_wrong (shared_of ws) (set_of ws m) (inputs ws + j)) units_in_one 0) (own_failure ws m (inputs ws + j)))
      (not-supposed ws j inside one)

-- ---- a walk between two shared gates

module _ (ws marks vs : List ℕ) (b x begun met product : ℕ) (few : x ≤ gates ws) (known : Marks ws marks) (stands : Stands ws begun met b product)
    (to : WorkedTo ws marks vs b x) (from : b ≤ x) where
  abbrev kept : SameBefore ws marks vs b
  kept = to.same

  marked : Marks vs marks
  marked = marks-same ws marks vs b kept known

  at : (j : ℕ) → inputs vs + j ≡ inputs ws + j
  at j = ap (λ (n : ℕ). n + j) (inputs-same ws marks vs b kept)

  words-to : (k : ℕ) → b + k ≤ x → WordsSeen vs begun met (b + k)
  words-to zero fits m begins j less live = words_same ws marks vs b kept begun met stands.words m begins j (omega arith) live
  words-to (suc k) fits m begins j less live =
      by_cases (dec_lt j (b + k)) (λ earlier. words-to k (omega arith) m begins j earlier live)
      (λ last.
      let here : b + k ≡ j = omega arith in
      let inside : j < gates vs = omega (arith, gates-same ws marks vs b kept) in
      by_cases (dec_lt 0 (get_or marks (inputs vs + j) 0))
      (λ mark.
      let one = to.single j (omega arith) (omega arith) in
      let single = marked.single j inside (rw (at j) one) in
      to.worked j (omega arith) (omega arith) (rw (at j) at mark)
      ∙ own-word vs kept.workable m j inside live (λ i before. words-to k (omega arith) m begins i (omega arith))
      ∙ ap (λ (f : ℕ). 2 * f + right_bit vs (inputs vs + j)) (sym (seen-own vs kept.workable m j inside single)))
      (λ none. marked.held j inside (omega arith) live m))

  pub words-there : WordsSeen vs begun met x
  words-there = subst (WordsSeen vs begun met) (omega arith) (words-to (x - b) (omega arith))

  -- no shared gate lies between
  to-there : (k : ℕ) → b + k ≤ x → shared_to vs (b + k) ≡ shared_to ws b
  to-there zero fits = ap (shared_to vs) (omega arith) ∙ same.to_same ws marks vs b kept b
  to-there (suc k) fits =
      let inside : b + k < gates vs = omega (arith, gates-same ws marks vs b kept) in
      let one = to.single (b + k) (omega arith) (omega arith) in
      ap (shared_to vs) (omega arith)
      ∙ to_same vs (b + k) inside (marked.single (b + k) inside (rw (at (b + k)) one))
      ∙ to-there k (omega arith)

  shared-there : shared_to vs x ≡ shared_to ws b
  shared-there = ap (shared_to vs) (omega arith) ∙ to-there (x - b) (omega arith)

  pub stands-there : Stands vs begun met x product
  unfolding product_to
  stands-there =
      record {
        number = stands.number ∙ ap length (sym shared-there);
        small = stands.small;
        products =
            λ m begins.
            stands.products m begins
            ∙ sym (product-same ws marks vs b kept m b)
            ∙ ap (λ (ss : List ℕ). shared_steps units_in_one (own_failure vs m) units_in_one ss (set_of vs m))
            (same.to_same ws marks vs b kept b ∙ sym shared-there);
        words = words-there;
      }
