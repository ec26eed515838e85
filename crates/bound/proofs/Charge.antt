-- The half units add up to three for each live gate: two of its own and one where it is read, for each live gate is read once. Assumes nothing.
use Prim.Native.Nat.{ℕ, zero, suc, ◌+◌, ◌-◌, ◌*◌, ◌≤◌, ◌<◌}
use mathlib.Core.Bool.{Bool, true, false, cond}
use mathlib.Core.List.{List, [], ◌∷◌, ◌++◌}
use mathlib.Core.Path.{◌≡◌, refl, sym, ap, ap₂, subst, fun_ext, ◌∙◌}
use mathlib.Core.Logic.{by_cases, ⊎_elim}
use native.Mathlib.Nat.{le_refl, eq-or-lt_of_le, add-zero}
use native.Mathlib.Decide.{dec_le}
use native.Mathlib.Omega.{arith}
use lib.ListN.{length, get_or}
use lib.Dec.{eqb, leb}
use borrow.Author.Tests.{le-leb, lt-leb, eq-eqb, ne_eqb}
use Rattle.figure.specs.Figure.{bit_of}
use Rattle.lists.specs.Lists.{count, Below, sum_below}
use Rattle.lists.proofs.Sums.{sum_first, sum_same}
use Rattle.lists.proofs.Every.{below-tail, AllFrom, all_head, all_tail}
use Rattle.netlist.specs.Netlist.{Gate, Netlist, no_gate}
use Rattle.netlist.specs.WellFormed.{GatePinsBelow, WellFormed}
use Rattle.netlist.specs.Live.{is_live, if_live, with_gate, live_reads_from, live_reads, readers, live_among, live_gates, SingleReaders}
use Rattle.bound.specs.Sharp.{how_many, further_gates, gate_halves, error_halves}
use Rattle.netlist.proofs.Live.{reads-with, count-later, among-step}
use Rattle.bound.proofs.Replace.{charges}

many-append : (m : ℕ → Bool) (xs ys : List ℕ) → how_many m (xs ++ ys) ≡ how_many m xs + how_many m ys
many-append m [] ys = omega arith
many-append m (x ∷ xs) ys = omega (arith, many-append m xs ys)

pub many-with : (m : ℕ → Bool) (s : ℕ) (ps rs : List ℕ) → how_many m (with_gate s ps rs) ≡ if_live (count s rs) (how_many m ps) + how_many m rs
many-with m = reads-with (how_many m) (many-append m)

-- two half units for each live gate and one for each live read of a source that may fail
pub charge-total : (m : ℕ → Bool) (outputs : List ℕ) (s : ℕ) (gs : List Gate)
    → charges outputs (λ g. 2 + how_many m g.pins) s gs + how_many m outputs
    ≡ 2 * charges outputs (λ g. 1) s gs + how_many m (live_reads_from outputs s gs)
charge-total m outputs s [] = omega arith
charge-total m outputs s (g ∷ gs) =
    let later = live_reads_from outputs (suc s) gs in
    omega (
      arith,
      charge-total m outputs (suc s) gs,
      many-with m s g.pins later,
      twice (count s later) (how_many m g.pins),
    )
  where
    twice : (c k : ℕ) → if_live c (2 + k) ≡ 2 * if_live c 1 + if_live c k
    twice zero k = refl
    twice (suc c) k = refl

-- a charge of one for each live gate is the number of live gates
pub live-total : (outputs : List ℕ) (s : ℕ) (gs : List Gate) → AllFrom no_gate GatePinsBelow s gs
    → charges outputs (λ g. 1) s gs ≡ live_among (live_reads_from outputs s gs) s (length gs)
live-total outputs s [] below = refl
live-total outputs s (g ∷ gs) below =
    let later = live_reads_from outputs (suc s) gs in
    ap (λ (k : ℕ). bit_of (is_live (count s later)) + k) (live-total outputs (suc s) gs (all_tail no_gate GatePinsBelow s g gs below))
    ∙ sym (among-step s (length gs) g.pins later (all_head no_gate GatePinsBelow s g gs below))

-- m says of a source that it may fail
module _ (m : ℕ → Bool) where
  -- the sources of m from s on
  abbrev pub sources_from : ℕ → ℕ → Bool
  sources_from s t = cond (leb s t) (m t) false

  -- the live ones of these gates that m has
  abbrev pub live_where : List ℕ → ℕ → List Gate → ℕ
  live_where outputs s [] = 0
  live_where outputs s (g ∷ gs) = cond (m s) (if_live (count s (live_reads_from outputs (suc s) gs)) 1) 0 + live_where outputs (suc s) gs

  from-below : (s : ℕ) (ps : List ℕ) → Below s ps → how_many (sources_from s) ps ≡ 0
  from-below s [] below = refl
  from-below s (p ∷ ps) below =
      ap₂ ◌+◌ (ap (λ (c : Bool). bit_of (cond c (m p) false)) (lt-leb s p (below 0 (omega arith)))) (from-below s ps (below-tail s p ps below))

  none : (c : Bool) → ◌≡◌ {A = ℕ} (cond c 0 0) 0
  none true = refl
  none false = refl

  -- the reads from s on are those of s and those from s + 1 on
  from_next : (s : ℕ) (rs : List ℕ) → how_many (sources_from s) rs ≡ cond (m s) (count s rs) 0 + how_many (sources_from (suc s)) rs
  from_next s [] = omega (arith, none (m s))
  from_next s (r ∷ rs) = omega (arith, from_next s rs, one, add (m s))
    where
      add : (c : Bool) → cond c (bit_of (eqb s r) + count s rs) 0 ≡ cond c (bit_of (eqb s r)) 0 + cond c (count s rs) 0
      add true = refl
      add false = refl

      at : (a b e : Bool) → leb s r ≡ a → leb (suc s) r ≡ b → eqb s r ≡ e
          → bit_of (cond a (m r) false) ≡ cond (m s) (bit_of e) 0 + bit_of (cond b (m r) false)
          → bit_of (sources_from s r) ≡ cond (m s) (bit_of (eqb s r)) 0 + bit_of (sources_from (suc s) r)
      at a b e p q k h =
          ap (λ (x : Bool). bit_of (cond x (m r) false)) p
          ∙ h
          ∙ sym (ap₂ (λ (x y : Bool). cond (m s) (bit_of x) 0 + bit_of (cond y (m r) false)) k q)

      one : bit_of (sources_from s r) ≡ cond (m s) (bit_of (eqb s r)) 0 + bit_of (sources_from (suc s) r)
      one =
          by_cases
          (dec_le s r)
          (λ l.
          ⊎_elim
          (λ q. at true false true (le-leb s r l) (lt-leb (suc s) r (omega arith)) (eq-eqb s r q) (omega (arith, ap (λ (t : ℕ). bit_of (m t)) q)))
          (λ k. at true true false (le-leb s r l) (le-leb (suc s) r k) (ne_eqb s r (λ q. omega arith)) (omega (arith, none (m s))))
          (eq-or-lt_of_le l))
          (λ h.
          at false false false (lt-leb s r (omega arith)) (lt-leb (suc s) r (omega arith)) (ne_eqb s r (λ q. omega arith)) (omega (arith, none (m s))))

  -- where each gate that may fail is read at most once, there is at most one read of such a gate for each live one
  pub one-each-where : (outputs : List ℕ) (s : ℕ) (gs : List Gate) → AllFrom no_gate GatePinsBelow s gs → Below (s + length gs) outputs
      → ((t : ℕ) → s ≤ t → t < s + length gs → m t ≡ true → count t (live_reads_from outputs s gs) ≤ 1)
      → how_many (sources_from s) (live_reads_from outputs s gs) ≤ live_where outputs s gs
  one-each-where outputs s [] below outs single = omega (arith, from-below s outputs (λ i l. omega (arith, outs i l)))
  one-each-where outputs s (g ∷ gs) below outs single =
      let later = live_reads_from outputs (suc s) gs in
      let pins = all_head no_gate GatePinsBelow s g gs below in
      let same : (t : ℕ) → s ≤ t → count t (with_gate s g.pins later) ≡ count t later = λ t l. count-later t s g.pins later pins l in
      let others =
      one-each-where
      outputs
      (suc s)
      gs
      (all_tail no_gate GatePinsBelow s g gs below)
      (λ i l. omega (arith, outs i l))
      (λ t l k h. omega (arith, single t (omega arith) (omega arith) h, same t (omega arith))) in
      omega (
        arith,
        many-with (sources_from s) s g.pins later,
        nothing (count s later) (how_many (sources_from s) g.pins) (from-below s g.pins pins),
        from_next s later,
        once (m s) (count s later) (λ h. omega (arith, single s (le_refl s) (omega arith) h, same s (le_refl s))),
      )
    where
      nothing : (c k : ℕ) → k ≡ 0 → if_live c k ≡ 0
      nothing zero k e = refl
      nothing (suc c) k e = e

      once : (b : Bool) (c : ℕ) → (b ≡ true → c ≤ 1) → cond b c 0 ≤ cond b (if_live c 1) 0
      once true zero l = omega arith
      once true (suc c) l = l refl
      once false c l = omega arith

-- where each gate is read at most once, there is at most one read for each live gate
pub one_each : (outputs : List ℕ) (s : ℕ) (gs : List Gate) → AllFrom no_gate GatePinsBelow s gs → Below (s + length gs) outputs
    → ((j : ℕ) → j < length gs → count (s + j) (live_reads_from outputs s gs) ≤ 1)
    → how_many (leb s) (live_reads_from outputs s gs) ≤ charges outputs (λ g. 1) s gs
one_each outputs s gs below outs single =
    let rs = live_reads_from outputs s gs in
    let all : how_many (sources_from (λ t. true) s) rs ≡ how_many (leb s) rs = ap (λ (m : ℕ → Bool). how_many m rs) (fun_ext (λ t. same (leb s t))) in
    omega (arith, live s gs, one-each-where (λ t. true) outputs s gs below outs (λ t l k h. at t (t - s) (omega arith) (omega arith)))
  where
    same : (b : Bool) → cond b true false ≡ b
    same true = refl
    same false = refl

    live : (s : ℕ) (gs : List Gate) → live_where (λ t. true) outputs s gs ≡ charges outputs (λ g. 1) s gs
    live s [] = refl
    live s (g ∷ gs) = ap (λ (k : ℕ). if_live (count s (live_reads_from outputs (suc s) gs)) 1 + k) (live (suc s) gs)

    at : (t j : ℕ) → s + j ≡ t → j < length gs → count t (live_reads_from outputs s gs) ≤ 1
    at t j e l = subst (λ (i : ℕ). count i (live_reads_from outputs s gs) ≤ 1) e (single j l)

-- ---- of a netlist

-- the charges of the live gates, added up by their numbers
charges-sum : (outputs : List ℕ) (charge : Gate → ℕ) (s : ℕ) (gs : List Gate) → AllFrom no_gate GatePinsBelow s gs
    → charges outputs charge s gs ≡ sum_below (length gs) (λ j. if_live (count (s + j) (live_reads_from outputs s gs)) (charge (get_or gs j no_gate)))
charges-sum outputs charge s [] below = refl
charges-sum outputs charge s (g ∷ gs) below =
    let later = live_reads_from outputs (suc s) gs in
    let pins = all_head no_gate GatePinsBelow s g gs below in
    let same : (t : ℕ) → s ≤ t → count t (with_gate s g.pins later) ≡ count t later = λ t l. count-later t s g.pins later pins l in
    let here : if_live (count s later) (charge g) ≡ if_live (count (s + 0) (with_gate s g.pins later)) (charge g)
    = ap (λ (c : ℕ). if_live c (charge g)) (sym (ap (λ (t : ℕ). count t (with_gate s g.pins later)) (add-zero s) ∙ same s (le_refl s))) in
    let others =
    charges-sum outputs charge (suc s) gs (all_tail no_gate GatePinsBelow s g gs below)
    ∙ sum_same _ _ (length gs) (λ j l.
    let at : s + suc j ≡ suc s + j = omega arith in
    ap (λ (c : ℕ). if_live c (charge (get_or gs j no_gate)))
    (sym (ap (λ (t : ℕ). count t (with_gate s g.pins later)) at ∙ same (suc s + j) (omega arith)))) in
    ap₂ ◌+◌ here others
    ∙ sym (sum_first (λ j. if_live (count (s + j) (with_gate s g.pins later)) (charge (get_or (g ∷ gs) j no_gate))) (length gs))

pub charges-most : (outputs : List ℕ) (less more : Gate → ℕ) → ((g : Gate) → less g ≤ more g) → (s : ℕ) (gs : List Gate)
    → charges outputs less s gs ≤ charges outputs more s gs
charges-most outputs less more h s [] = omega arith
charges-most outputs less more h s (g ∷ gs) =
    omega (arith, charges-most outputs less more h (suc s) gs, most (count s (live_reads_from outputs (suc s) gs)) (h g))
  where
    most : (c : ℕ) {a b : ℕ} → a ≤ b → if_live c a ≤ if_live c b
    most zero l = omega arith
    most (suc c) l = l

module _ {d : ℕ} (net : Netlist) (well : WellFormed d net) where
  pub halves_are : error_halves net
      ≡ charges net.outputs (gate_halves net.inputs) net.inputs net.gates + further_gates net.inputs net.outputs
  unfolding error_halves readers live_reads
  halves_are =
      ap (λ (k : ℕ). k + further_gates net.inputs net.outputs)
      (sym (charges-sum net.outputs (gate_halves net.inputs) net.inputs net.gates well.pins_below))

  -- where a gate costs at most two and one for each pin that reads a gate, it is three for each live gate at most
  pub three-each : SingleReaders net → (charge : Gate → ℕ) → ((g : Gate) → charge g ≤ 2 + how_many (leb net.inputs) g.pins)
      → charges net.outputs charge net.inputs net.gates + further_gates net.inputs net.outputs ≤ 3 * live_gates net
  unfolding live_gates live_reads SingleReaders readers
  three-each single charge h =
      omega (
        arith,
        charges-most net.outputs charge (λ g. 2 + how_many (leb net.inputs) g.pins) h net.inputs net.gates,
        charge-total (leb net.inputs) net.outputs net.inputs net.gates,
        live-total net.outputs net.inputs net.gates well.pins_below,
        one_each net.outputs net.inputs net.gates well.pins_below well.outputs_below single,
      )
