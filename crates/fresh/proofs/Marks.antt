-- Marks mean dependence: from a marked source on, a gate comes to be marked exactly if it depends on that source. Assumes nothing.
use Prim.Native.Nat.{ℕ, zero, suc, ◌+◌, ◌-◌, ◌≤◌, ◌<◌}
use mathlib.Core.Bool.{Bool, true, false, ◌||◌, true≢false, false≢true}
use mathlib.Core.List.{List, [], ◌∷◌}
use mathlib.Core.Logic.{◌≢◌, ◌↔◌, ◌⊎◌, inl, inr, ⊎_elim, by_cases}
use mathlib.Core.Path.{◌≡◌, refl, sym, ap, subst, ◌∙◌}
use native.Mathlib.Decide.{ℕ_discrete}
use native.Mathlib.Omega.{arith}
use lib.ListN.{length, get_or, set, replicate, length-set}
use lib.Seq.{get_or-set_same, get_or-set_other}
use lib.Dec.{eqb}
use borrow.Author.Tests.{eqb-true}
use Rattle.netlist.specs.Netlist.{Gate, Netlist, gate_at}
use Rattle.lists.specs.Lists.{count}
use Rattle.netlist.specs.Live.{Depends, reads, reads_further}
use Rattle.lists.proofs.Counts.{count_at, count_index, below-count}
use Rattle.netlist.proofs.Live.{depends-earlier}
use Rattle.area.specs.Layout.{most_sources, inputs, gates, used_pins}
use Rattle.area.specs.Rules.{NetSound}
use Rattle.work.specs.Work.{reads_marked, mark_if, mark_of}
use Rattle.area.specs.Net.{net_of}
use Rattle.area.proofs.Words.{used-below, few-sources}
use Rattle.area.proofs.Net.{gate-at, gate_count, sound-pins}
use Rattle.fresh.specs.Fresh.{marks_from}
use Rattle.fresh.proofs.Sweep.{none-marked}
use Rattle.fresh.proofs.Calls.{mark-room, mark_set}

-- pins read a marked source exactly if one of them is marked
some-marked : (marks ps : List ℕ) → reads_marked marks ps ≡ true → (p : ℕ) × (0 < count p ps) × (get_or marks p 0 ≡ 1)
some-marked marks [] e = absurd (false≢true e)
some-marked marks (p ∷ ps) e = go (eqb (get_or marks p 0) 1) refl e (some-marked marks ps)
  where
    go : (c : Bool) → eqb (get_or marks p 0) 1 ≡ c → (c || reads_marked marks ps) ≡ true
        → (reads_marked marks ps ≡ true → (r : ℕ) × (0 < count r ps) × (get_or marks r 0 ≡ 1))
        → (r : ℕ) × (0 < count r (p ∷ ps)) × (get_or marks r 0 ≡ 1)
    go true t e ih = (p, count_at p (p ∷ ps) 0 (omega arith) refl, eqb-true (get_or marks p 0) 1 t)
    go false t e ih =
        let w = ih e in
        (w.0, omega (arith, w.1), w.2)

marked-reads : (marks ps : List ℕ) (p : ℕ) → 0 < count p ps → get_or marks p 0 ≡ 1 → reads_marked marks ps ≡ true
marked-reads marks ps p h m = go (reads_marked marks ps) refl
  where
    go : (c : Bool) → reads_marked marks ps ≡ c → c ≡ true
    go true e = refl
    go false e =
        let w = count_index p ps h in
        absurd (none-marked marks ps e w.0 w.1 (ap (λ (r : ℕ). get_or marks r 0) w.2 ∙ m))

-- what a gate that depends on t reads: t, or something that depends on t
depends-reads : {net : Netlist} {s t : ℕ} → Depends net s t → (j : ℕ) → s ≡ net.inputs + j
    → (0 < count t (gate_at net j).pins) ⊎ ((r : ℕ) × (0 < count r (gate_at net j).pins) × Depends net r t)
depends-reads {net} {t = t} (reads k l h) j e =
    let here : k ≡ j = omega arith in
    inl (subst (λ (x : ℕ). 0 < count t (gate_at net x).pins) here h)
depends-reads {net} (reads_further k r l h more) j e =
    let here : k ≡ j = omega arith in
    inr (r, subst (λ (x : ℕ). 0 < count r (gate_at net x).pins) here h, more)

-- what depends on something is a gate
depends-gate : {net : Netlist} {s t : ℕ} → Depends net s t → net.inputs ≤ s
depends-gate (reads k l h) = omega arith
depends-gate (reads_further k r l h more) = omega arith

-- before gate j: t and the gates below j that depend on it are marked, and nothing else
pub record Marked (net : Netlist) (t : ℕ) (marks : List ℕ) (j : ℕ) : Type 0 where
  pub room : length marks ≡ most_sources
  pub behind : t < net.inputs + j
  pub own : get_or marks t 0 ≡ 1
  pub sure : (s : ℕ) → s < net.inputs + j → get_or marks s 0 ≡ 1 → (s ≡ t) ⊎ Depends net s t
  pub all : (s : ℕ) → s < net.inputs + j → Depends net s t → get_or marks s 0 ≡ 1
  pub later : (s : ℕ) → net.inputs + j ≤ s → get_or marks s 0 ≡ 0

zero-marks : (n s : ℕ) → ◌≡◌ {A = ℕ} (get_or (replicate n 0) s 0) 0
zero-marks zero s = refl
zero-marks (suc n) zero = refl
zero-marks (suc n) (suc s) = zero-marks n s

-- at the start only t is marked
pub mark-start : (net : Netlist) (t j : ℕ) → t < most_sources → t < net.inputs + j → ((s : ℕ) → s < net.inputs + j → Depends net s t → ⊥)
    → Marked net t (mark_of t) j
mark-start net t j fits behind none =
    let other : (s : ℕ) → s ≢ t → get_or (mark_of t) s 0 ≡ 0 = λ s ne. get_or-set_other (replicate most_sources 0) t s 1 0 ne ∙ zero-marks most_sources s in
    record {
      room = mark-room t;
      behind = behind;
      own = mark_set t fits;
      sure = λ s l m. by_cases (ℕ_discrete s t) inl (λ ne. absurd (omega (arith, other s ne)));
      all = λ s l d. absurd (none s l d);
      later = λ s l. other s (λ e. omega arith);
    }

module _ (ws kinds chances : List ℕ) (sound : NetSound ws) (t : ℕ) where
  pins-at : (j : ℕ) → j < gates ws → (gate_at (net_of ws kinds chances) j).pins ≡ used_pins ws j
  pins-at j l = ap (λ (g : Gate). g.pins) (gate-at ws kinds chances j l)

  -- gate j reads a marked source exactly if it depends on t
  pub reads-depends : (marks : List ℕ) (j : ℕ) → j < gates ws → Marked (net_of ws kinds chances) t marks j
      → (reads_marked marks (used_pins ws j) ≡ true) ↔ Depends (net_of ws kinds chances) (inputs ws + j) t
  reads-depends marks j l before =
      let net = net_of ws kinds chances in
      let inside : j < length net.gates = omega (arith, gate_count ws kinds chances) in
      let below : (p : ℕ) → 0 < count p (used_pins ws j) → p < inputs ws + j
      = λ p h. below-count (inputs ws + j) p (used_pins ws j) (used-below ws sound j l) h in (
        λ e.
            let w = some-marked marks (used_pins ws j) e in
            let read : 0 < count w.0 (gate_at net j).pins = rw (pins-at j l) w.1 in
            ⊎_elim
            (λ q. reads j inside (subst (λ (r : ℕ). 0 < count r (gate_at net j).pins) q read))
            (λ more. reads_further j w.0 inside read more)
            (before.sure w.0 (below w.0 w.1) w.2),
        λ d.
            ⊎_elim
            (λ h. marked-reads marks (used_pins ws j) t (rw (pins-at j l) at h) before.own)
            (λ w.
            let read : 0 < count w.0 (used_pins ws j) = rw (pins-at j l) at w.1 in
            marked-reads marks (used_pins ws j) w.0 read (before.all w.0 (below w.0 read) w.2))
            (depends-reads d j refl),
      )

  marked_step : (m : Bool) (marks : List ℕ) (j : ℕ) → j < gates ws → reads_marked marks (used_pins ws j) ≡ m → Marked (net_of ws kinds chances) t marks j
      → Marked (net_of ws kinds chances) t (mark_if m marks (inputs ws + j)) (suc j)
  marked_step true marks j l e before =
      let s₀ = inputs ws + j in
      let new : get_or (set marks s₀ 1) s₀ 0 ≡ 1
      = get_or-set_same marks s₀ 1 0 (omega (arith, before.room, few-sources ws sound)) in
      let old : (s : ℕ) → s ≢ s₀ → get_or (set marks s₀ 1) s 0 ≡ get_or marks s 0 = λ s ne. get_or-set_other marks s₀ s 1 0 ne in
      record {
        room = length-set marks s₀ 1 ∙ before.room;
        behind = omega (arith, before.behind);
        own = old t (λ q. omega (arith, before.behind)) ∙ before.own;
        sure =
            λ s k m.
            by_cases (ℕ_discrete s s₀)
            (λ q. inr (subst (λ (x : ℕ). Depends (net_of ws kinds chances) x t) (sym q) ((reads-depends marks j l before).0 e)))
            (λ ne. before.sure s (omega arith) (sym (old s ne) ∙ m));
        all =
            λ s k d.
            by_cases (ℕ_discrete s s₀) (λ q. ap (λ (x : ℕ). get_or (set marks s₀ 1) x 0) q ∙ new) (λ ne. old s ne ∙ before.all s (omega arith) d);
        later = λ s k. old s (λ q. omega arith) ∙ before.later s (omega arith);
      }
  marked_step false marks j l e before =
      let s₀ = inputs ws + j in
      record {
        room = before.room;
        behind = omega (arith, before.behind);
        own = before.own;
        sure =
            λ s k m.
            by_cases (ℕ_discrete s s₀) (λ q. absurd (omega (arith, before.later s (omega arith)))) (λ ne. before.sure s (omega arith) m);
        all =
            λ s k d.
            by_cases (ℕ_discrete s s₀)
            (λ q. absurd (true≢false (sym ((reads-depends marks j l before).1 (subst (λ (x : ℕ). Depends (net_of ws kinds chances) x t) q d)) ∙ e)))
            (λ ne. before.all s (omega arith) d);
        later = λ s k. before.later s (omega arith);
      }

  pub mark-next : (marks : List ℕ) (j : ℕ) → j < gates ws → Marked (net_of ws kinds chances) t marks j
      → Marked (net_of ws kinds chances) t (mark_if (reads_marked marks (used_pins ws j)) marks (inputs ws + j)) (suc j)
  mark-next marks j l before = marked_step (reads_marked marks (used_pins ws j)) marks j l refl before

  pub marks-end : (marks : List ℕ) (j k : ℕ) → j + k ≡ gates ws → Marked (net_of ws kinds chances) t marks j
      → Marked (net_of ws kinds chances) t (marks_from ws marks j k) (gates ws)
  marks-end marks j zero l before = subst (Marked (net_of ws kinds chances) t marks) (omega arith) before
  marks-end marks j (suc k) l before =
      marks-end (mark_if (reads_marked marks (used_pins ws j)) marks (inputs ws + j)) (suc j) k (omega arith) (mark-next marks j (omega arith) before)

-- at the start of toggling input i, and of setting gate g's flip once g is worked out
module _ (ws kinds chances : List ℕ) (sound : NetSound ws) where
  pub toggle-mark : (i : ℕ) → i < inputs ws → Marked (net_of ws kinds chances) i (mark_of i) 0
  toggle-mark i l =
      mark-start (net_of ws kinds chances) i 0 (omega (arith, sound.inputs_fit)) (omega arith) (λ s k d. omega (arith, depends-gate d))

  pub set-mark : (g : ℕ) → g < gates ws → Marked (net_of ws kinds chances) (inputs ws + g) (mark_of (inputs ws + g)) (suc g)
  set-mark g l =
      mark-start (net_of ws kinds chances) (inputs ws + g) (suc g) (omega (arith, few-sources ws sound)) (omega arith)
      (λ s k d. omega (arith, depends-earlier (net_of ws kinds chances) (sound-pins ws kinds chances sound) d))

  -- gate j is marked in the end exactly if it depends on input i
  pub toggle-marks : (i j : ℕ) → i < inputs ws → j < gates ws
      → (get_or (marks_from ws (mark_of i) 0 (gates ws)) (inputs ws + j) 0 ≡ 1) ↔ Depends (net_of ws kinds chances) (inputs ws + j) i
  toggle-marks i j l k =
      let done = marks-end ws kinds chances sound i (mark_of i) 0 (gates ws) (omega arith) (toggle-mark i l) in
      (λ m. ⊎_elim (λ e. absurd (omega arith)) (λ d. d) (done.sure (inputs ws + j) (omega arith) m), λ d. done.all (inputs ws + j) (omega arith) d)

  -- or, for gate g's flip, if it is g or depends on g
  pub set-marks : (g j : ℕ) → g < gates ws → j < gates ws
      → (get_or (marks_from ws (mark_of (inputs ws + g)) (suc g) (gates ws - suc g)) (inputs ws + j) 0 ≡ 1)
      ↔ ((j ≡ g) ⊎ Depends (net_of ws kinds chances) (inputs ws + j) (inputs ws + g))
  set-marks g j l k =
      let t = inputs ws + g in
      let last = marks_from ws (mark_of t) (suc g) (gates ws - suc g) in
      let done = marks-end ws kinds chances sound t (mark_of t) (suc g) (gates ws - suc g) (omega arith) (set-mark g l) in (
        λ m. ⊎_elim (λ e. inl (omega arith)) inr (done.sure (inputs ws + j) (omega arith) m),
        ⊎_elim
            (λ e. ap (λ (x : ℕ). get_or last (inputs ws + x) 0) e ∙ done.own)
            (λ d. done.all (inputs ws + j) (omega arith) d),
      )
