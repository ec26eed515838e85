-- The counts of live reads meet document 01's sentences: a source has a live reader exactly if it is live, and its readers are the outputs that read it
-- and the pins of live gates that do. Assumes nothing.
use Prim.Native.Nat.{ℕ, zero, suc, ◌+◌, ◌≤◌, ◌<◌}
use mathlib.Core.Bool.{cond}
use mathlib.Core.List.{List, [], ◌∷◌, ◌++◌}
use mathlib.Core.Path.{◌≡◌, refl, sym, ap, ap₂, ◌∙◌}
use mathlib.Core.Logic.{◌⊎◌, inl, inr, ⊎_elim}
use native.Mathlib.Nat.{le_refl, add-zero, zero-add, eq-zero-or-pos}
use native.Mathlib.Omega.{arith}
use lib.ListN.{length, get_or, drop}
use lib.Seq.{drop-cons}
use Rattle.figure.specs.Figure.{bit_of}
use Rattle.netlist.specs.Netlist.{Gate, Netlist, no_gate, gate_at}
use Rattle.lists.specs.Lists.{count, sum_below, Below}
use Rattle.lists.proofs.Counts.{count-append, count-below, below-count}
use Rattle.lists.proofs.Every.{AllFrom, all_head, all_tail}
use Rattle.lists.proofs.Sums.{sum_first, sum_same, sum-term, sum-some}
use Rattle.netlist.specs.WellFormed.{PinsBelow}
use Rattle.netlist.specs.Live.{is_live, if_live, with_gate, reads_from, live_reads_from, live_reads, readers, live_among}
use Rattle.netlist.specs.Live.{Reached, output_reads, gate_reads, Live, Depends, reads, reads_further}

-- whatever is counted of reads, a gate adds what its pins have if it is live
pub reads-with : (size : List ℕ → ℕ) → ((xs ys : List ℕ) → size (xs ++ ys) ≡ size xs + size ys) → (s : ℕ) (ps rs : List ℕ)
    → size (with_gate s ps rs) ≡ if_live (count s rs) (size ps) + size rs
reads-with size adds s ps rs = go (count s rs)
  where
    go : (c : ℕ) → size (cond (is_live c) (ps ++ rs) rs) ≡ if_live c (size ps) + size rs
    go zero = sym (zero-add (size rs))
    go (suc c) = adds ps rs

pub count-with : (t s : ℕ) (ps rs : List ℕ) → count t (with_gate s ps rs) ≡ if_live (count s rs) (count t ps) + count t rs
count-with t = reads-with (count t) (count-append t)

-- a gate adds no read of itself or a later gate
pub count-later : (t s : ℕ) (ps rs : List ℕ) → Below s ps → s ≤ t → count t (with_gate s ps rs) ≡ count t rs
count-later t s ps rs below l = count-with t s ps rs ∙ go (count s rs)
  where
    go : (c : ℕ) → if_live c (count t ps) + count t rs ≡ count t rs
    go zero = omega arith
    go (suc c) = omega (arith, count-below s t l ps below)

-- no gate takes a read away
pub count-more : (t s : ℕ) (ps rs : List ℕ) → count t rs ≤ count t (with_gate s ps rs)
count-more t s ps rs = omega (arith, count-with t s ps rs)

pub count-outputs : (t : ℕ) (outputs : List ℕ) (s : ℕ) (gs : List Gate) → count t outputs ≤ count t (live_reads_from outputs s gs)
count-outputs t outputs s [] = le_refl (count t outputs)
count-outputs t outputs s (g ∷ gs) =
    omega (arith, count-outputs t outputs (suc s) gs, count-more t s g.pins (live_reads_from outputs (suc s) gs))

-- how many are live, one gate more
among_same : (xs ys : List ℕ) (k s : ℕ) → ((t : ℕ) → s ≤ t → count t xs ≡ count t ys) → live_among xs s k ≡ live_among ys s k
among_same xs ys zero s h = refl
among_same xs ys (suc k) s h =
    ap₂ ◌+◌ (ap (λ (c : ℕ). bit_of (is_live c)) (h s (le_refl s))) (among_same xs ys k (suc s) (λ t l. h t (omega arith)))

pub among-step : (s k : ℕ) (ps rs : List ℕ) → Below s ps
    → live_among (with_gate s ps rs) s (suc k) ≡ bit_of (is_live (count s rs)) + live_among rs (suc s) k
among-step s k ps rs below =
    ap₂
    ◌+◌
    (ap (λ (c : ℕ). bit_of (is_live c)) (count-later s s ps rs below (le_refl s)))
    (among_same (with_gate s ps rs) rs k (suc s) (λ t l. count-later t s ps rs below (omega arith)))

-- the live reads by gate j and what follows it
pub reads-from : (net : Netlist) (j : ℕ) → j < length net.gates
    → live_reads_from net.outputs (net.inputs + j) (drop j net.gates)
    ≡ with_gate (net.inputs + j) (gate_at net j).pins (live_reads_from net.outputs (suc (net.inputs + j)) (drop (suc j) net.gates))
reads-from net j l = ap (live_reads_from net.outputs (net.inputs + j)) (drop-cons net.gates j no_gate l)

-- the reads by the picked pins of the gates that have a read, added up
reads-sum : (pick : Gate → List ℕ) (t : ℕ) (outputs : List ℕ) (s : ℕ) (gs : List Gate) → AllFrom no_gate (λ r g. Below r (pick g)) s gs
    → count t (reads_from pick outputs s gs)
    ≡ count t outputs + sum_below (length gs) (λ j. if_live (count (s + j) (reads_from pick outputs s gs)) (count t (pick (get_or gs j no_gate))))
reads-sum pick t outputs s [] below = sym (add-zero (count t outputs))
reads-sum pick t outputs s (g ∷ gs) below =
    let later = reads_from pick outputs (suc s) gs in
    let all = with_gate s (pick g) later in
    let F : ℕ → ℕ = λ j. if_live (count (s + j) all) (count t (pick (get_or (g ∷ gs) j no_gate))) in
    let H : ℕ → ℕ = λ j. if_live (count (suc s + j) later) (count t (pick (get_or gs j no_gate))) in
    let pins = all_head no_gate (λ r g. Below r (pick g)) s g gs below in
    let first : F 0 ≡ if_live (count s later) (count t (pick g))
    = ap (λ (k : ℕ). if_live (count k all) (count t (pick g))) (add-zero s)
    ∙ ap (λ (k : ℕ). if_live k (count t (pick g))) (count-later s s (pick g) later pins (le_refl s)) in
    let others : sum_below (length gs) (λ j. F (suc j)) ≡ sum_below (length gs) H
    = sum_same _ _ (length gs) (λ j l.
    ap (λ (k : ℕ). if_live (count k all) (count t (pick (get_or gs j no_gate)))) (omega arith)
    ∙ ap (λ (k : ℕ). if_live k (count t (pick (get_or gs j no_gate)))) (count-later (suc s + j) s (pick g) later pins (omega arith))) in
    omega (
      arith,
      count-with t s (pick g) later,
      reads-sum pick t outputs (suc s) gs (all_tail no_gate (λ r g. Below r (pick g)) s g gs below),
      sum_first F (length gs),
    )

if-live : (r k : ℕ) → 0 < if_live r k → (0 < r) × (0 < k)
if-live zero k h = absurd (omega arith)
if-live (suc r) k h = (omega arith, h)

pub live-if : (r k : ℕ) → 0 < r → if_live r k ≡ k
live-if zero k h = absurd (omega arith)
live-if (suc r) k h = refl

-- ---- whichever pins are picked, a source is reached exactly if it has a read

module _ (net : Netlist) (pick : Gate → List ℕ) (below : (j : ℕ) → j < length net.gates → Below (net.inputs + j) (pick (gate_at net j))) where
  abbrev pub reads_of : ℕ → ℕ
  reads_of s = count s (reads_from pick net.outputs net.inputs net.gates)

  pub reads-are : (s : ℕ)
      → reads_of s ≡ count s net.outputs + sum_below (length net.gates) (λ j. if_live (reads_of (net.inputs + j)) (count s (pick (gate_at net j))))
  reads-are s = reads-sum pick s net.outputs net.inputs net.gates below

  pub reached-read : {s : ℕ} → Reached net pick s → 0 < reads_of s
  reached-read {s} (output_reads h) = omega (arith, reads-are s)
  reached-read {s} (gate_reads j l reached h) =
      let F : ℕ → ℕ = λ j. if_live (reads_of (net.inputs + j)) (count s (pick (gate_at net j))) in
      let here : F j ≡ count s (pick (gate_at net j)) = live-if (reads_of (net.inputs + j)) _ (reached-read reached) in
      omega (arith, reads-are s, sum-term F (length net.gates) j l)

  some_read : (s : ℕ) → 0 < reads_of s
      → (0 < count s net.outputs)
      ⊎ ((j : ℕ) × (j < length net.gates) × (0 < reads_of (net.inputs + j)) × (0 < count s (pick (gate_at net j))))
  some_read s h =
      let F : ℕ → ℕ = λ j. if_live (reads_of (net.inputs + j)) (count s (pick (gate_at net j))) in
      ⊎_elim
      (λ z.
      let w = sum-some F (length net.gates) (omega (arith, reads-are s)) in
      let both = if-live (reads_of (net.inputs + w.0)) (count s (pick (gate_at net w.0))) w.2 in
      inr (w.0, w.1, both.0, both.1))
      inl
      (eq-zero-or-pos (count s net.outputs))

  -- a reader is a later source, so the way to an output ends
  reads-fuel : (k s : ℕ) → net.inputs + length net.gates ≤ s + k → 0 < reads_of s → Reached net pick s
  reads-fuel zero s fuel h =
      ⊎_elim
      output_reads
      (λ w. absurd (omega (arith, w.1, below-count (net.inputs + w.0) s (pick (gate_at net w.0)) (below w.0 w.1) w.3)))
      (some_read s h)
  reads-fuel (suc k) s fuel h =
      ⊎_elim
      output_reads
      (λ w.
      let later = below-count (net.inputs + w.0) s (pick (gate_at net w.0)) (below w.0 w.1) w.3 in
      gate_reads w.0 w.1 (reads-fuel k (net.inputs + w.0) (omega arith) w.2) w.3)
      (some_read s h)

  pub read-reached : (s : ℕ) → 0 < reads_of s → Reached net pick s
  read-reached s h = reads-fuel (net.inputs + length net.gates) s (omega arith) h

module _ (net : Netlist) (below : PinsBelow net) where
  -- readers are outputs and pins of live gates, each counted
  pub readers-are : (s : ℕ)
      → readers net s
      ≡ count s net.outputs + sum_below (length net.gates) (λ j. if_live (readers net (net.inputs + j)) (count s (gate_at net j).pins))
  unfolding readers live_reads
  readers-are = reads-are net (λ g. g.pins) below

  -- what is live has a live reader, and what has one is live
  pub live-readers : {s : ℕ} → Live net s → 0 < readers net s
  unfolding readers live_reads
  live-readers = reached-read net (λ g. g.pins) below

  pub readers-live : (s : ℕ) → 0 < readers net s → Live net s
  unfolding readers live_reads
  readers-live = read-reached net (λ g. g.pins) below

  -- a gate depends only on earlier sources
  pub depends-earlier : {s t : ℕ} → Depends net s t → t < s
  depends-earlier (reads {t = t} j l h) = below-count (net.inputs + j) t (gate_at net j).pins (below j l) h
  depends-earlier (reads_further j r l h more) =
      omega (arith, depends-earlier more, below-count (net.inputs + j) r (gate_at net j).pins (below j l) h)
