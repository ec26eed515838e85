-- Without shared gates both methods see a flip in the same patterns. A flip is at most one wrong read; a gate with one wrong pin passes on at most one, and
-- does so exactly if that pin is sensitive, which is what masks tell. Assumes nothing.
use Prim.Native.Nat.{ℕ, zero, suc, ◌+◌, ◌*◌, ◌≤◌, ◌<◌}
use mathlib.Core.Bool.{Bool, true, false, not}
use mathlib.Core.List.{List, [], ◌∷◌, ◌++◌}
use mathlib.Core.Logic.{⊎_elim}
use mathlib.Core.Path.{◌≡◌, refl, sym, ap, ◌∙◌}
use native.Mathlib.Nat.{eq-zero-or-pos}
use native.Mathlib.Omega.{arith}
use lib.ListN.{length, length-append}
use Rattle.lists.specs.Lists.{count}
use Rattle.lists.proofs.Every.{AllFrom, all_head, all_tail}
use Rattle.lists.proofs.Counts.{where-same}
use Rattle.lists.proofs.Joined.{joined_same}
use Rattle.figure.specs.Figure.{bit_of, answer}
use Rattle.netlist.specs.declared.Method.{Method}
use Rattle.netlist.specs.declared.Method.TheVariants.{Flip, Mask}
use Rattle.netlist.specs.Netlist.{Gate, Netlist, no_gate, input_values, pin_values, values, right_values}
use Rattle.netlist.specs.Exact.{outputs_agree}
use Rattle.netlist.specs.Live.{is_live, if_live, with_gate, live_reads_from, live_reads, readers, SingleReaders}
use Rattle.netlist.specs.WellFormed.{GatePinsBelow, PinsBelow}
use Rattle.netlist.specs.Seen.{alone, flip_seen, sensitive, pins_where, sensitive_pins, mask_reads_from, mask_reads, mask_seen, seen_by, seen_count, seen_counts}
use Rattle.netlist.specs.Seen.{differ, MethodsAgree, DeadUnseen, MethodsDiffer}
use Rattle.netlist.proofs.Values.{inputs-length, pins-agree}
use Rattle.netlist.proofs.Live.{live-if, count-more}
use Rattle.netlist.proofs.Flipped.{values-keep}
use Rattle.netlist.proofs.Masks.{part-where, masks-live, mask-later}
use Rattle.netlist.proofs.Wrong.{differ-not, wrong, wrong_reads, none-wrong, wrong-next, wrong-with, is_live-positive, outputs-wrong, gate-wrong}

-- ---- one gate's turn: its answer is read c times and wrong if b is set, k of its pins read a wrong source, and m other reads are wrong

-- some read is wrong after its turn exactly if one was before it
passed_on : (b : Bool) (c k m : ℕ) → (0 < c → k ≡ bit_of b) → is_live (m + bit_of b * c) ≡ is_live (if_live c k + m)
passed_on b zero k m h =
    let same : m + bit_of b * 0 ≡ 0 + m = omega arith in
    ap is_live same
passed_on true (suc c) k m h = is_live-positive (m + 1 * suc c) (omega arith) ∙ sym (is_live-positive (k + m) (omega (arith, h (omega arith))))
passed_on false (suc c) k m h =
    let same : m + 0 * suc c ≡ k + m = omega (arith, h (omega arith)) in
    ap is_live same

-- no wrong read comes from none; and where the answer has one reader, there are no more of them than before
no_more : (b : Bool) (c k m : ℕ) → (0 < c → bit_of b ≤ k) → (0 < m + bit_of b * c → 0 < if_live c k + m) × (c ≤ 1 → m + bit_of b * c ≤ if_live c k + m)
no_more b zero k m h = (λ some. omega arith, λ single. omega arith)
no_more true (suc c) k m h = (λ some. omega (arith, h (omega arith)), λ single. omega (arith, h (omega arith)))
no_more false (suc c) k m h = (λ some. omega arith, λ single. omega arith)

-- ---- all gates

module _ (outputs : List ℕ) where
  -- no gate from source s on has two live readers
  abbrev Single : ℕ → List Gate → Type 0
  Single s gs = AllFrom no_gate (λ t g. count t (live_reads_from outputs s gs) ≤ 1) s gs

  module _ (s : ℕ) (g : Gate) (gs : List Gate) (single : Single s (g ∷ gs)) where
    single-first : count s (live_reads_from outputs (suc s) gs) ≤ 1
    single-first =
        omega (
          arith,
          all_head no_gate (λ t g'. count t (live_reads_from outputs s (g ∷ gs)) ≤ 1) s g gs single,
          count-more s s g.pins (live_reads_from outputs (suc s) gs),
        )

    single-others : Single (suc s) gs
    single-others j l =
        omega (
          arith,
          all_tail no_gate (λ t g'. count t (live_reads_from outputs s (g ∷ gs)) ≤ 1) s g gs single j l,
          count-more (suc s + j) s g.pins (live_reads_from outputs (suc s) gs),
        )

  -- where at most one live read is wrong, an output goes wrong exactly if a mask read is. Where none is wrong, gates may be shared
  reads-seen : (s : ℕ) (gs : List Gate) (ws vs : List Bool) → length ws ≡ s → length vs ≡ s → AllFrom no_gate GatePinsBelow s gs
      → (0 < wrong_reads ws vs (live_reads_from outputs s gs) → (wrong_reads ws vs (live_reads_from outputs s gs) ≤ 1) × Single s gs)
      → not (outputs_agree outputs (values gs [] ws) (values gs [] vs)) ≡ is_live (wrong_reads ws vs (mask_reads_from (values gs [] vs) outputs s gs))
  reads-seen s [] ws vs m n below few = outputs-wrong ws vs outputs
  reads-seen s (g ∷ gs) ws vs m n below few =
      let w = answer g.table (pin_values ws g.pins) in
      let v = answer g.table (pin_values vs g.pins) in
      let right = values (g ∷ gs) [] vs in
      let live = live_reads_from outputs (suc s) gs in
      let masked = mask_reads_from right outputs (suc s) gs in
      let all = wrong_reads ws vs (with_gate s g.pins live) in
      let part : all ≡ if_live (count s live) (wrong_reads ws vs g.pins) + wrong_reads ws vs live = wrong-with ws vs s g.pins live in
      let at_most : all ≤ 1 = ⊎_elim (λ none. omega arith) (λ some. (few some).0) (eq-zero-or-pos all) in
      let settled : pin_values vs g.pins ≡ pin_values right g.pins
      = pins-agree false s vs right g.pins (all_head no_gate GatePinsBelow s g gs below) (λ i l. values-keep (g ∷ gs) [] vs i (omega arith)) in
      let answers : 0 < count s live → wrong_reads ws vs (sensitive_pins right g) ≡ bit_of (differ w v)
      = λ some.
      ap (λ (us : List Bool). wrong_reads ws vs (pins_where (sensitive g.table us) 0 g.pins)) (sym settled)
      ∙ gate-wrong ws vs g (omega (arith, live-if (count s live) (wrong_reads ws vs g.pins) some)) in
      let fewer
      = no_more
      (differ w v)
      (count s live)
      (wrong_reads ws vs g.pins)
      (wrong_reads ws vs live)
      (λ some. omega (arith, answers some, part-where (wrong ws vs) (sensitive g.table (pin_values right g.pins)) 0 g.pins)) in
      reads-seen
      (suc s)
      gs
      (ws ++ (w ∷ []))
      (vs ++ (v ∷ []))
      (omega (arith, length-append ws (w ∷ [])))
      (omega (arith, length-append vs (v ∷ [])))
      (all_tail no_gate GatePinsBelow s g gs below)
      (λ some.
      let next = wrong-next s ws vs m n w v live in
      let before = few (omega (arith, fewer.0 (omega arith))) in
      (omega (arith, before.0, fewer.1 (single-first s g gs before.1)), single-others s g gs before.1))
      ∙ ap is_live (wrong-next s ws vs m n w v masked)
      ∙ passed_on
      (differ w v)
      (count s masked)
      (wrong_reads ws vs (sensitive_pins right g))
      (wrong_reads ws vs masked)
      (λ some. answers (omega (arith, masks-live s right outputs (suc s) gs)))
      ∙ ap is_live (sym (wrong-with ws vs s (sensitive_pins right g) masked))

  -- the flip of one gate alone: exactly its reads are wrong
  flip-seen : (s : ℕ) (gs : List Gate) (vs : List Bool) (j t : ℕ) → t ≡ s + j → j < length gs → length vs ≡ s → AllFrom no_gate GatePinsBelow s gs
      → (0 < count t (live_reads_from outputs s gs) → Single s gs)
      → not (outputs_agree outputs (values gs (alone j) vs) (values gs [] vs)) ≡ is_live (count t (mask_reads_from (values gs [] vs) outputs s gs))
  flip-seen s [] vs j t e l n below single = absurd (omega arith)
  flip-seen s (g ∷ gs) vs zero t e l n below single =
      let v = answer g.table (pin_values vs g.pins) in
      let right = values (g ∷ gs) [] vs in
      let live = live_reads_from outputs (suc s) gs in
      let here : s ≡ t = omega arith in
      let flipped : (rs : List ℕ) → wrong_reads (vs ++ (not v ∷ [])) (vs ++ (v ∷ [])) rs ≡ count t rs
      = λ rs.
      omega (
        arith,
        wrong-next s vs vs n n (not v) v rs,
        none-wrong vs rs,
        ap (λ (b : Bool). bit_of b * count s rs) (differ-not v),
        ap (λ (k : ℕ). count k rs) here,
      ) in
      reads-seen
      (suc s)
      gs
      (vs ++ (not v ∷ []))
      (vs ++ (v ∷ []))
      (omega (arith, length-append vs (not v ∷ [])))
      (omega (arith, length-append vs (v ∷ [])))
      (all_tail no_gate GatePinsBelow s g gs below)
      (λ some.
      let alone = single (omega (arith, flipped live, count-more t s g.pins live)) in
      (omega (arith, flipped live, single-first s g gs alone, ap (λ (k : ℕ). count k live) here), single-others s g gs alone))
      ∙ ap is_live (flipped (mask_reads_from right outputs (suc s) gs) ∙ sym (mask-later right outputs s g gs below t (omega arith)))
  flip-seen s (g ∷ gs) vs (suc j) t e l n below single =
      let v = answer g.table (pin_values vs g.pins) in
      let right = values (g ∷ gs) [] vs in
      flip-seen
      (suc s)
      gs
      (vs ++ (v ∷ []))
      j
      t
      (omega arith)
      (omega arith)
      (omega (arith, length-append vs (v ∷ [])))
      (all_tail no_gate GatePinsBelow s g gs below)
      (λ some. single-others s g gs (single (omega (arith, count-more t s g.pins (live_reads_from outputs (suc s) gs)))))
      ∙ ap is_live (sym (mask-later right outputs s g gs below t (omega arith)))

-- ---- the methods

module _ (net : Netlist) (below : PinsBelow net) (q j : ℕ) (l : j < length net.gates) where
  -- the methods agree on a dead gate, and on every gate if none is shared
  flip-masks : (0 < readers net (net.inputs + j) → SingleReaders net) → flip_seen net q j ≡ mask_seen net q j
  unfolding flip_seen mask_seen mask_reads right_values SingleReaders readers live_reads
  flip-masks single =
      flip-seen
      net.outputs
      net.inputs
      net.gates
      (input_values net.inputs q)
      j
      (net.inputs + j)
      refl
      l
      (inputs-length net.inputs q)
      below
      single

  dead-masks : readers net (net.inputs + j) ≡ 0 → mask_seen net q j ≡ false
  unfolding mask_seen mask_reads readers live_reads
  dead-masks dead =
      let none : count (net.inputs + j) (mask_reads_from (right_values net q) net.outputs net.inputs net.gates) ≡ 0
      = omega (arith, masks-live (net.inputs + j) (right_values net q) net.outputs net.inputs net.gates) in
      ap is_live none

pub methods-agree : MethodsAgree
methods-agree net below single q j l = sym (flip-masks net below q j l (λ some. single))

pub dead-unseen : DeadUnseen
dead-unseen net below Flip q j l dead = flip-masks net below q j l (λ some. absurd (omega arith)) ∙ dead-masks net below q j l dead
dead-unseen net below Mask q j l dead = dead-masks net below q j l dead

pub methods-differ : MethodsDiffer
unfolding seen_counts flip_seen mask_seen mask_reads right_values sensitive answer
methods-differ = record { by_flip = refl; by_mask = refl }

-- without shared gates either method has the counts of the flips
pub agreeing-counts : (net : Netlist) → PinsBelow net → SingleReaders net → (method : Method) (patterns : List ℕ)
    → seen_counts method net patterns ≡ seen_counts Flip net patterns
unfolding seen_counts
agreeing-counts net below single method patterns =
    joined_same
    (λ (j : ℕ). seen_count method net patterns j ∷ [])
    (λ (j : ℕ). seen_count Flip net patterns j ∷ [])
    (length net.gates)
    (λ j l. ap (λ (k : ℕ). k ∷ []) (where-same (λ q. seen_by method net q j) (λ q. seen_by Flip net q j) (λ q. same method q j l) patterns))
  where
    same : (method : Method) (q j : ℕ) → j < length net.gates → seen_by method net q j ≡ seen_by Flip net q j
    same Flip q j l = refl
    same Mask q j l = methods-agree net below single q j l
