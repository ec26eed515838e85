-- Masks gate by gate: mask reads are live reads, what gate j adds to those of later gates, and that its mask is settled before its turn. Assumes nothing.
use Prim.Native.Nat.{ℕ, zero, suc, ◌+◌, ◌≤◌, ◌<◌}
use mathlib.Core.Bool.{Bool, true, false, false≢true, cond}
use mathlib.Core.List.{List, [], ◌∷◌}
use mathlib.Core.Path.{◌≡◌, refl, ap, ◌∙◌}
use native.Mathlib.Nat.{le_refl}
use native.Mathlib.Omega.{arith}
use lib.Dec.{eqb}
use lib.ListN.{length, drop}
use lib.Seq.{drop-cons}
use Rattle.lists.specs.Lists.{count, count_where, Below}
use Rattle.lists.proofs.Counts.{count-where}
use Rattle.lists.proofs.Every.{AllFrom, all_head, all_tail, below-tail}
use Rattle.netlist.specs.Netlist.{Gate, Netlist, no_gate, gate_at, pin_values, right_values}
use Rattle.netlist.specs.Live.{is_live, if_live, with_gate, live_reads_from}
use Rattle.netlist.specs.WellFormed.{GatePinsBelow, PinsBelow}
use Rattle.netlist.specs.Seen.{sensitive, pins_where, sensitive_pins, mask_reads_from, mask_reads, mask_seen, MaskMeans}
use Rattle.netlist.proofs.Live.{count-with, count-later, reached-read, read-reached}

-- a test holds of a part of the pins no oftener than of all
pub part-where : (u : ℕ → Bool) (t : ℕ → Bool) (i : ℕ) (ps : List ℕ) → count_where u (pins_where t i ps) ≤ count_where u ps
part-where u t i [] = omega arith
part-where u t i (p ∷ ps) = go (t i) (part-where u t (suc i) ps)
  where
    go : (c : Bool) → count_where u (pins_where t (suc i) ps) ≤ count_where u ps
        → count_where u (cond c (p ∷ pins_where t (suc i) ps) (pins_where t (suc i) ps)) ≤ count_where u (p ∷ ps)
    go true rest = omega arith
    go false rest = omega arith

-- and a part reads no later source
part-below : (b : ℕ) (t : ℕ → Bool) (i : ℕ) (ps : List ℕ) → Below b ps → Below b (pins_where t i ps)
part-below b t i [] below = below
part-below b t i (p ∷ ps) below = go (t i) (part-below b t (suc i) ps (below-tail b p ps below))
  where
    go : (c : Bool) → Below b (pins_where t (suc i) ps) → Below b (cond c (p ∷ pins_where t (suc i) ps) (pins_where t (suc i) ps))
    go false rest k l = rest k l
    go true rest zero l = below 0 (omega arith)
    go true rest (suc k) l = rest k (omega arith)

-- a gate adds no mask read of itself or a later source
pub mask-later : (vs : List Bool) (outputs : List ℕ) (s : ℕ) (g : Gate) (gs : List Gate) → AllFrom no_gate GatePinsBelow s (g ∷ gs) → (t : ℕ) → s ≤ t
    → count t (mask_reads_from vs outputs s (g ∷ gs)) ≡ count t (mask_reads_from vs outputs (suc s) gs)
mask-later vs outputs s g gs below t l =
    let test = sensitive g.table (pin_values vs g.pins) in
    let pins = part-below s test 0 g.pins (all_head no_gate GatePinsBelow s g gs below) in
    count-later t s (sensitive_pins vs g) (mask_reads_from vs outputs (suc s) gs) pins l

-- a read that passes a wrong value on is a live read
pub masks-live : (t : ℕ) (vs : List Bool) (outputs : List ℕ) (s : ℕ) (gs : List Gate)
    → count t (mask_reads_from vs outputs s gs) ≤ count t (live_reads_from outputs s gs)
masks-live t vs outputs s [] = le_refl (count t outputs)
masks-live t vs outputs s (g ∷ gs) =
    let test = sensitive g.table (pin_values vs g.pins) in
    let masked = mask_reads_from vs outputs (suc s) gs in
    let later = live_reads_from outputs (suc s) gs in
    let pins : count t (sensitive_pins vs g) ≤ count t g.pins
    = omega (arith, part-where (eqb t) test 0 g.pins, count-where t (sensitive_pins vs g), count-where t g.pins) in
    omega (
      arith,
      count-with t s (sensitive_pins vs g) masked,
      count-with t s g.pins later,
      masks-live t vs outputs (suc s) gs,
      more (count s masked) (count s later) (count t (sensitive_pins vs g)) (count t g.pins) (masks-live s vs outputs (suc s) gs) pins,
    )
  where
    more : (a b k m : ℕ) → a ≤ b → k ≤ m → if_live a k ≤ if_live b m
    more zero b k m l h = omega arith
    more (suc a) zero k m l h = absurd (omega arith)
    more (suc a) (suc b) k m l h = h

-- the mask reads by gate j and what follows it
pub mask-from : (net : Netlist) (vs : List Bool) (j : ℕ) → j < length net.gates
    → mask_reads_from vs net.outputs (net.inputs + j) (drop j net.gates)
    ≡ with_gate
    (net.inputs + j)
    (sensitive_pins vs (gate_at net j))
    (mask_reads_from vs net.outputs (suc (net.inputs + j)) (drop (suc j) net.gates))
mask-from net vs j l = ap (mask_reads_from vs net.outputs (net.inputs + j)) (drop-cons net.gates j no_gate l)

-- gates up to gate j do not read it
settled : (vs : List Bool) (outputs : List ℕ) (s : ℕ) (gs : List Gate) → AllFrom no_gate GatePinsBelow s gs → (j t : ℕ) → j < length gs → t ≡ s + j
    → count t (mask_reads_from vs outputs s gs) ≡ count t (mask_reads_from vs outputs (suc t) (drop (suc j) gs))
settled vs outputs s [] below j t l e = absurd (omega arith)
settled vs outputs s (g ∷ gs) below zero t l e =
    let here : s ≡ t = omega arith in
    mask-later vs outputs s g gs below t (omega arith) ∙ ap (λ (k : ℕ). count t (mask_reads_from vs outputs (suc k) gs)) here
settled vs outputs s (g ∷ gs) below (suc j) t l e =
    mask-later vs outputs s g gs below t (omega arith)
    ∙ settled vs outputs (suc s) gs (all_tail no_gate GatePinsBelow s g gs below) j t (omega arith) (omega arith)

pub mask-settled : (net : Netlist) → PinsBelow net → (q j : ℕ) → j < length net.gates
    → mask_seen net q j
    ≡ is_live (count (net.inputs + j) (mask_reads_from (right_values net q) net.outputs (suc (net.inputs + j)) (drop (suc j) net.gates)))
unfolding mask_seen mask_reads
mask-settled net below q j l = ap is_live (settled (right_values net q) net.outputs net.inputs net.gates below j (net.inputs + j) l refl)

-- a mask is 1 exactly where the gate is reached through sensitive pins
pub mask-means : MaskMeans
unfolding mask_seen mask_reads
mask-means net below q j =
    let pick = sensitive_pins (right_values net q) in
    let picked : (k : ℕ) → k < length net.gates → Below (net.inputs + k) (pick (gate_at net k))
    = λ k l.
    let g = gate_at net k in
    part-below (net.inputs + k) (sensitive g.table (pin_values (right_values net q) g.pins)) 0 g.pins (below k l) in (
      λ e. read-reached net pick picked (net.inputs + j) (some-live _ e),
      λ reached. is_live-positive _ (reached-read net pick picked reached),
    )
  where
    some-live : (n : ℕ) → is_live n ≡ true → 0 < n
    some-live zero e = absurd (false≢true e)
    some-live (suc n) e = omega arith

    is_live-positive : (n : ℕ) → 0 < n → is_live n ≡ true
    is_live-positive zero h = absurd (omega arith)
    is_live-positive (suc n) h = refl
