-- Gates that depend on no shared gate are worked out once for all sets, and lose their marks. Assumes nothing.
use Prim.Native.Nat.{ℕ, ◌+◌, ◌*◌, ◌≤◌, ◌<◌}
use mathlib.Core.List.{List, []}
use mathlib.Core.Logic.{by_cases}
use mathlib.Core.Path.{◌≡◌, refl, sym, ap, subst, ◌∙◌}
use native.Mathlib.Decide.{ℕ_discrete}
use native.Mathlib.Nat.{le_refl}
use native.Mathlib.Omega.{arith}
use lib.ListN.{length, get_or, set, length-set}
use lib.Seq.{get_or-set_same, get_or-set_other}
use Rattle.netlist.specs.Live.{readers}
use Rattle.area.specs.Layout.{most_sources, inputs, gates, pin_count, used_pins, source_word}
use Rattle.area.specs.Rules.{Workable}
use Rattle.area.specs.Net.{net_of}
use Rattle.area.proofs.Words.{gate-inside, used-count, used-pin, used-below, few-sources}
use Rattle.plan.specs.Plan.{IsLive}
use Rattle.plan.proofs.Laws.{live-pin}
use Rattle.work.specs.Work.{work_gate}
use Rattle.work.proofs.Frame.{work-gate-same}
use Rattle.fresh.proofs.Sources.{source-gate, source-cases}
use Rattle.sets.specs.Sets.{seen_failure}
use Rattle.sets.specs.Branches.{right_bit, SeenAs, Marks, SameBefore, ReadsUnmarked, Settled}
use Rattle.sets.proofs.Same as same
use Rattle.sets.proofs.Worked.{worked-none, worked-gate, input-seen, own-by-pins, seen-own}

pub settled-none : (ws marks : List ℕ) → Workable ws → Marks ws marks → length marks ≡ most_sources → Settled ws ws marks
settled-none ws marks workable known room =
    record {
      size = refl;
      same_inputs = refl;
      same_gates = refl;
      workable = workable;
      marked = known;
      room = room;
      same_shared = refl;
      same_answer = refl;
    }

pub settled-then : (ws vs us marks : List ℕ) {before : List ℕ} → Settled ws vs before → Settled vs us marks → Settled ws us marks
settled-then ws vs us marks first second =
    record {
      size = second.size ∙ first.size;
      same_inputs = second.same_inputs ∙ first.same_inputs;
      same_gates = second.same_gates ∙ first.same_gates;
      workable = second.workable;
      marked = second.marked;
      room = second.room;
      same_shared = second.same_shared ∙ first.same_shared;
      same_answer = second.same_answer ∙ first.same_answer;
    }

module _ (ws marks : List ℕ) (g : ℕ) (workable : Workable ws) (known : Marks ws marks) (room : length marks ≡ most_sources) (inside : g < gates ws)
    (one : get_or marks (inputs ws + g) 0 ≡ 1) (unmarked : ReadsUnmarked ws marks g) where
  abbrev vs : List ℕ
  vs = work_gate ws g

  abbrev left : List ℕ
  left = set marks (inputs ws + g) 0

  kept : SameBefore ws marks vs g
  kept = (worked-gate ws marks ws g g (le_refl g) inside (omega (arith, one)) (worked-none ws marks g workable)).same

  at : (j : ℕ) → inputs vs + j ≡ inputs ws + j
  at j = ap (λ (n : ℕ). n + j) (same.inputs-same ws marks vs g kept)

  -- what it reads is seen, in every set
  reads-seen : (m i : ℕ) → IsLive ws (inputs ws + g) → i < length (used_pins ws g)
      → source_word ws (get_or (used_pins ws g) i 0) ≡ 2 * seen_failure ws m (get_or (used_pins ws g) i 0) + right_bit ws (get_or (used_pins ws g) i 0)
  reads-seen m i live used =
      let s = get_or (used_pins ws g) i 0 in
      let below = used-below ws workable.net g inside i used in
      source-cases (inputs ws) s (input-seen ws workable m s)
      (λ k e.
      let count : i < pin_count ws g = omega (arith, used-count ws workable.net g inside) in
      let is = used-pin ws workable.net g inside i count in
      let none : get_or marks (inputs ws + k) 0 ≡ 0
      = ap (λ (x : ℕ). get_or marks x 0) (sym (is ∙ e)) ∙ unmarked i count (omega (arith, is, e)) in
      subst (λ (x : ℕ). source_word ws x ≡ 2 * seen_failure ws m x + right_bit ws x) (sym e)
      (source-gate ws k
      ∙ known.held k (omega arith) none (subst (IsLive ws) e (live-pin ws workable.net g i inside live used)) m))

  seen_here : (m : ℕ) → IsLive ws (inputs ws + g) → SeenAs vs m g
  seen_here m live =
      same.seen_as ws marks vs g kept m g
      (work-gate-same ws g (gate-inside ws workable.net g inside)
      ∙ own-by-pins ws workable m g inside (λ i used. reads-seen m i live used)
      ∙ ap (λ (f : ℕ). 2 * f + right_bit ws (inputs ws + g)) (sym (seen-own ws workable m g inside (known.single g inside (omega (arith, one))))))

  mark-here : get_or left (inputs ws + g) 0 ≡ 0
  mark-here = get_or-set_same marks (inputs ws + g) 0 0 (omega (arith, room, few-sources ws workable.net))

  mark-other : (j : ℕ) → (j ≡ g → ⊥) → get_or left (inputs ws + j) 0 ≡ get_or marks (inputs ws + j) 0
  mark-other j other = get_or-set_other marks (inputs ws + g) (inputs ws + j) 0 0 (λ e. other (omega arith))

  marks-left : Marks vs left
  marks-left =
      let moved = same.marks-same ws marks vs g kept known in
      record {
        shared =
            λ j less two.
            by_cases (ℕ_discrete j g)
            (λ e. absurd (omega (arith, mark-here, subst (λ (k : ℕ). 2 ≤ get_or left (inputs ws + k) 0) e (rw (at j) at two))))
            (λ other. moved.shared j less (rw (at j) (omega (arith, mark-other j other, rw (at j) at two))));
        single =
            λ j less few.
            by_cases (ℕ_discrete j g)
            (λ e.
            subst (λ (k : ℕ). readers (net_of vs [] []) (inputs vs + k) ≤ 1) (sym e)
            (moved.single g (omega (arith, less, e)) (rw (at g) (omega (arith, one)))))
            (λ other. moved.single j less (rw (at j) (omega (arith, mark-other j other, rw (at j) at few))));
        held =
            λ j less none live m.
            by_cases (ℕ_discrete j g)
            (λ e.
            subst (SeenAs vs m) (sym e)
            (seen_here m (same.live-gate-back ws marks vs g kept g (subst (λ (k : ℕ). IsLive vs (inputs vs + k)) e live))))
            (λ other. moved.held j less (rw (at j) (sym (mark-other j other) ∙ (rw (at j) at none))) live m);
      }

  pub settled-gate : Settled ws vs left
  settled-gate =
      record {
        size = kept.size;
        same_inputs = same.inputs-same ws marks vs g kept;
        same_gates = same.gates-same ws marks vs g kept;
        workable = kept.workable;
        marked = marks-left;
        room = length-set marks (inputs ws + g) 0 ∙ room;
        same_shared = ap length (same.shared_same ws marks vs g kept);
        same_answer = same.answer-same ws marks vs g kept;
      }
