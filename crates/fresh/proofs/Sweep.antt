-- Working out only the gates that read a marked source makes all gates fresh again, where the marks cover what has changed: what an unmarked gate reads is
-- as it was. Assumes nothing.
use Prim.Native.Nat.{ℕ, zero, suc, ◌+◌, ◌≤◌, ◌<◌}
use mathlib.Core.Bool.{Bool, true, false, ◌||◌, true≢false}
use mathlib.Core.List.{List, [], ◌∷◌}
use mathlib.Core.Logic.{◌≢◌, ⊎_elim}
use mathlib.Core.Path.{◌≡◌, refl, sym, ap, subst, ◌∙◌}
use native.Mathlib.Nat.{eq-or-lt_of_le, le_of_suc-le-suc}
use native.Mathlib.Omega.{arith}
use lib.ListN.{length, get_or, set, length-set}
use lib.Seq.{get_or-set_same, get_or-set_other}
use lib.Dec.{eqb}
use borrow.Author.Tests.{eqb-false}
use Rattle.area.specs.Layout.{most_sources, inputs, gates, flip_index, flip, figure_index, figure, used_pins, source_word}
use Rattle.area.specs.Rules.{NetSound}
use Rattle.area.proofs.Words.{used-below, few-sources}
use Rattle.work.specs.Work.{work_gate, reads_marked, work_if, mark_if, work_marked}
use Rattle.work.proofs.Frame.{SameFrame, same_inputs, same_gates, same-used-pins, same-trans, same-work-gate, work-gate-kept}
use Rattle.work.proofs.Sound.{net-same}
use Rattle.fresh.proofs.Sources.{source-gate, gate-figure-same, source-work-gate}
use Rattle.fresh.proofs.WorkAll.{FreshAt, fresh_step}

-- no pin reads a marked source
pub none-marked : (marks ps : List ℕ) → reads_marked marks ps ≡ false → (i : ℕ) → i < length ps → get_or marks (get_or ps i 0) 0 ≢ 1
none-marked marks [] e i l = absurd (omega arith)
none-marked marks (p ∷ ps) e i l = go (eqb (get_or marks p 0) 1) refl e i l (none-marked marks ps)
  where
    go : (c : Bool) → eqb (get_or marks p 0) 1 ≡ c → (c || reads_marked marks ps) ≡ false → (i : ℕ) → i < length (p ∷ ps)
        → (reads_marked marks ps ≡ false → (i : ℕ) → i < length ps → get_or marks (get_or ps i 0) 0 ≢ 1)
        → get_or marks (get_or (p ∷ ps) i 0) 0 ≢ 1
    go true t e i l ih = absurd (true≢false e)
    go false t e zero l ih = eqb-false (get_or marks p 0) 1 t
    go false t e (suc i) l ih = ih e i (omega arith)

-- half way through, before gate j: old is the area before the call, ws and marks as they are now
pub record Swept (old ws marks : List ℕ) (j : ℕ) : Type 0 where
  pub same : SameFrame old ws
  pub net : NetSound ws
  pub room : length marks ≡ most_sources
  pub fresh : (l : ℕ) → l < j → FreshAt ws l
  pub figures_kept : (l : ℕ) → j ≤ l → figure ws l ≡ figure old l
  pub flips_kept : (l : ℕ) → j ≤ l → flip ws l ≡ flip old l
  pub unmarked : (s : ℕ) → s < inputs ws + j → get_or marks s 0 ≢ 1 → source_word ws s ≡ source_word old s

module _ (old : List ℕ) (fresh-old : (l : ℕ) → l < gates old → FreshAt old l) where
  -- a gate that reads a marked source is worked out and marked
  swept-marked : (ws marks : List ℕ) (j : ℕ) → j < gates old → Swept old ws marks j → Swept old (work_gate ws j) (set marks (inputs ws + j) 1) (suc j)
  swept-marked ws marks j l before =
      let small : j < gates ws = omega (arith, same_gates old ws before.same) in
      let step = same-work-gate ws j small in
      let n = same_inputs ws (work_gate ws j) step in
      record {
        same = same-trans old ws (work_gate ws j) before.same step;
        net = net-same ws (work_gate ws j) before.net step;
        room = length-set marks (inputs ws + j) 1 ∙ before.room;
        fresh = fresh_step ws before.net j small before.fresh;
        figures_kept = λ k from. (work-gate-kept ws j).kept (figure_index k) (λ e. omega arith) ∙ before.figures_kept k (omega arith);
        flips_kept = λ k from. (work-gate-kept ws j).kept (flip_index k) (λ e. omega arith) ∙ before.flips_kept k (omega arith);
        unmarked =
            λ s below clear.
            let other : s ≢ inputs ws + j
            = λ e.
            clear
            (ap (λ (t : ℕ). get_or (set marks (inputs ws + j) 1) t 0) e
            ∙ get_or-set_same marks (inputs ws + j) 1 0 (omega (arith, before.room, few-sources ws before.net))) in
            source-work-gate ws j s small other
            ∙ before.unmarked s (omega arith) (λ e. clear (get_or-set_other marks (inputs ws + j) s 1 0 other ∙ e));
      }

  -- a gate that reads none has its old figure, and that is still right
  swept-clear : (ws marks : List ℕ) (j : ℕ) → j < gates old → reads_marked marks (used_pins ws j) ≡ false → Swept old ws marks j → Swept old ws marks (suc j)
  swept-clear ws marks j l clear before =
      let n = same_inputs old ws before.same in
      let small : j < gates ws = omega (arith, same_gates old ws before.same) in
      let ps = same-used-pins old ws before.same j in
      let right : FreshAt ws j
      = before.figures_kept j (omega arith)
      ∙ fresh-old j l
      ∙ sym
      (gate-figure-same old ws before.same j (before.flips_kept j (omega arith))
      (λ i k.
      let inside : i < length (used_pins ws j) = omega (arith, ap length ps) in
      subst (λ (xs : List ℕ). source_word ws (get_or xs i 0) ≡ source_word old (get_or xs i 0)) ps
      (before.unmarked (get_or (used_pins ws j) i 0)
      (used-below ws before.net j small i inside)
      (none-marked marks (used_pins ws j) clear i inside)))) in
      record {
        same = before.same;
        net = before.net;
        room = before.room;
        fresh = λ k below. ⊎_elim (λ e. subst (FreshAt ws) (sym e) right) (before.fresh k) (eq-or-lt_of_le (le_of_suc-le-suc below));
        figures_kept = λ k from. before.figures_kept k (omega arith);
        flips_kept = λ k from. before.flips_kept k (omega arith);
        unmarked =
            λ s below free.
            ⊎_elim
            (λ e.
            ap (source_word ws) e
            ∙ source-gate ws j
            ∙ before.figures_kept j (omega arith)
            ∙ sym (source-gate old j)
            ∙ ap (source_word old) (sym (e ∙ ap (λ (k : ℕ). k + j) n)))
            (λ k. before.unmarked s k free)
            (eq-or-lt_of_le (omega arith));
      }

  swept_step : (m : Bool) (ws marks : List ℕ) (j : ℕ) → j < gates old → reads_marked marks (used_pins ws j) ≡ m → Swept old ws marks j
      → Swept old (work_if m ws j) (mark_if m marks (inputs ws + j)) (suc j)
  swept_step true ws marks j l e before = swept-marked ws marks j l before
  swept_step false ws marks j l e before = swept-clear ws marks j l e before

  -- after the k gates from j on all gates below j + k are fresh
  pub sweep-fresh : (ws marks : List ℕ) (j k : ℕ) → j + k ≤ gates old → Swept old ws marks j
      → (l : ℕ) → l < j + k → FreshAt (work_marked ws marks j k) l
  sweep-fresh ws marks j zero l before b below = before.fresh b (omega arith)
  sweep-fresh ws marks j (suc k) l before b below =
      let m = reads_marked marks (used_pins ws j) in
      sweep-fresh (work_if m ws j) (mark_if m marks (inputs ws + j)) (suc j) k (omega arith) (swept_step m ws marks j (omega arith) refl before) b (omega arith)
