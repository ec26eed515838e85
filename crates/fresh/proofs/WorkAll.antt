-- A gate that is worked out is fresh and stays so while later gates are worked out: it reads only earlier sources, and these stay. So working out every gate
-- in order, then the reliability, makes an area fresh. Assumes nothing.
use Prim.Native.Nat.{ℕ, zero, suc, ◌+◌, ◌/◌, ◌%◌, ◌^◌, ◌≤◌, ◌<◌}
use mathlib.Core.Bool.{Bool, true, false}
use mathlib.Core.List.{List}
use mathlib.Core.Logic.{⊎_elim}
use mathlib.Core.Path.{◌≡◌, refl, sym, ap, subst, ◌∙◌}
use native.Mathlib.Nat.{eq-or-lt_of_le, le_of_suc-le-suc}
use native.Mathlib.Omega.{arith}
use Rattle.area.specs.Layout.{gates, pattern_index, flip_index, figure_index, figure, source_word}
use Rattle.area.specs.Rules.{NetSound}
use Rattle.area.proofs.Words.{gate-inside}
use Rattle.work.specs.Work.{gate_figure, work_gate, work_gates, work_reliability, work_all, work_if}
use Rattle.work.proofs.Frame.{same_inputs, same_gates, same-work-gate, same-work-if, same-walk, same-work-reliability}
use Rattle.work.proofs.Frame.{work-gate-kept, work-gate-same, work-reliability-kept, work-reliability-same, Walk, end, next, gates-walk}
use Rattle.work.proofs.Sound.{net-same}
use Rattle.fresh.specs.Fresh.{Fresh, work_chosen}
use Rattle.fresh.proofs.Sources.{source-same, gate-figure-earlier, reliability-same, source-work-gate}

-- gate l has the figure that the words held make
abbrev pub FreshAt : List ℕ → ℕ → Type 0
FreshAt ws l = figure ws l ≡ gate_figure ws l

module _ (ws : List ℕ) (net : NetSound ws) (j : ℕ) (small : j < gates ws) where
  -- working out gate j moves nothing that it or an earlier gate is worked out from
  figure-kept : (l : ℕ) → l ≤ j → gate_figure (work_gate ws j) l ≡ gate_figure ws l
  figure-kept l from =
      gate-figure-earlier ws (work_gate ws j) net (same-work-gate ws j small) l (omega arith)
      ((work-gate-kept ws j).kept (flip_index l) (λ e. omega arith))
      (λ s below. source-work-gate ws j s small (λ e. omega arith))

  pub fresh-worked : FreshAt (work_gate ws j) j
  fresh-worked = work-gate-same ws j (gate-inside ws net j small) ∙ sym (figure-kept j (omega arith))

  fresh-earlier : (m : Bool) (l : ℕ) → l < j → FreshAt ws l → FreshAt (work_if m ws j) l
  fresh-earlier true l less fresh = (work-gate-kept ws j).kept (figure_index l) (λ e. omega arith) ∙ fresh ∙ sym (figure-kept l (omega arith))
  fresh-earlier false l less fresh = fresh

  -- one gate more
  pub fresh_step : ((l : ℕ) → l < j → FreshAt ws l) → (l : ℕ) → l < suc j → FreshAt (work_gate ws j) l
  fresh_step fresh l below =
      ⊎_elim
      (λ e. subst (FreshAt (work_gate ws j)) (sym e) fresh-worked)
      (λ less. fresh-earlier true l less (fresh l less))
      (eq-or-lt_of_le (le_of_suc-le-suc below))

  net-if : (m : Bool) → NetSound (work_if m ws j)
  net-if m = net-same ws (work_if m ws j) net (same-work-if m ws j small)

  gates-if : (m : Bool) → gates (work_if m ws j) ≡ gates ws
  gates-if m = same_gates ws (work_if m ws j) (same-work-if m ws j small)

-- a walk leaves the gates before it fresh
pub fresh-walk : {j k : ℕ} {ws vs : List ℕ} → Walk j k ws vs → NetSound ws → j + k ≤ gates ws → (l : ℕ) → l < j → FreshAt ws l → FreshAt vs l
fresh-walk end net fits l less fresh = fresh
fresh-walk {j = j} {ws = ws} (next m walk) net fits l less fresh =
    fresh-walk walk (net-if ws net j (omega arith) m) (omega (arith, gates-if ws net j (omega arith) m)) l (omega arith)
    (fresh-earlier ws net j (omega arith) m l less fresh)

-- those of the k gates from j on that are chosen come out fresh
pub chosen-walk : (chosen : ℕ → Bool) (ws : List ℕ) (j k : ℕ) → Walk j k ws (work_chosen chosen ws j k)
chosen-walk chosen ws j zero = end
chosen-walk chosen ws j (suc k) = next (chosen j) (chosen-walk chosen (work_if (chosen j) ws j) (suc j) k)

pub fresh-chosen : (chosen : ℕ → Bool) (ws : List ℕ) (j k : ℕ) → NetSound ws → j + k ≤ gates ws
    → (l : ℕ) → j ≤ l → l < j + k → chosen l ≡ true → FreshAt (work_chosen chosen ws j k) l
fresh-chosen chosen ws j zero net fits l from to picked = absurd (omega arith)
fresh-chosen chosen ws j (suc k) net fits l from to picked =
    let small : j < gates ws = omega arith in
    let after = work_if (chosen j) ws j in
    let net-after = net-if ws net j small (chosen j) in
    let fits_after : suc j + k ≤ gates after = omega (arith, gates-if ws net j small (chosen j)) in
    ⊎_elim
    (λ e.
    let worked : FreshAt after j
    = subst (λ (m : Bool). FreshAt (work_if m ws j) j) (sym (ap chosen e ∙ picked)) (fresh-worked ws net j small) in
    fresh-walk (chosen-walk chosen after (suc j) k) net-after fits_after l (omega arith) (subst (FreshAt after) e worked))
    (λ less. fresh-chosen chosen after (suc j) k net-after fits_after l less (omega arith) picked)
    (eq-or-lt_of_le from)

-- all gates: each is chosen
all-chosen : (ws : List ℕ) (j k : ℕ) → work_gates ws j k ≡ work_chosen (λ l. true) ws j k
all-chosen ws j zero = refl
all-chosen ws j (suc k) = all-chosen (work_gate ws j) (suc j) k

-- word 4 is read by nothing
source-reliability : (ws : List ℕ) (s : ℕ) → source_word (work_reliability ws) s ≡ source_word ws s
source-reliability ws s =
    source-same ws (work_reliability ws) (same_inputs ws (work_reliability ws) (same-work-reliability ws)) s
    (λ small. ap (λ (q : ℕ). q / 2 ^ s % 2) ((work-reliability-kept ws).kept pattern_index (λ e. omega arith)))
    (λ k e. (work-reliability-kept ws).kept (figure_index k) (λ q. omega arith))

module _ (ws : List ℕ) (net : NetSound ws) where
  pub fresh-reliability-at : (j : ℕ) → j < gates ws → FreshAt ws j → FreshAt (work_reliability ws) j
  fresh-reliability-at j small fresh =
      (work-reliability-kept ws).kept (figure_index j) (λ e. omega arith)
      ∙ fresh
      ∙ sym
      (gate-figure-earlier ws (work_reliability ws) net (same-work-reliability ws) j small
      ((work-reliability-kept ws).kept (flip_index j) (λ e. omega arith))
      (λ s k. source-reliability ws s))

  -- so once all gates are fresh, the reliability makes the area fresh
  pub fresh-reliability : ((j : ℕ) → j < gates ws → FreshAt ws j) → Fresh (work_reliability ws)
  fresh-reliability fresh =
      let after = work_reliability ws in
      let same = same-work-reliability ws in
      record {
        figures =
            λ j l.
            let small : j < gates ws = omega (arith, same_gates ws after same) in
            fresh-reliability-at j small (fresh j small);
        product =
            work-reliability-same ws (omega (arith, net.long)) ∙ sym (reliability-same ws after net same (λ s k. source-reliability ws s));
      }

pub work-all-fresh : (ws : List ℕ) → NetSound ws → Fresh (work_all ws)
unfolding work_all
work-all-fresh ws net =
    let worked = work_gates ws 0 (gates ws) in
    let same = same-walk (gates-walk ws 0 (gates ws)) (omega arith) in
    fresh-reliability worked (net-same ws worked net same)
    (λ j l.
    rw (all-chosen ws 0 (gates ws))
    (fresh-chosen (λ k. true) ws 0 (gates ws) net (omega arith) j (omega arith) (omega (arith, same_gates ws worked same)) refl))
