-- The figure of one set of suppositions as one fold, and its distance from the sum for that set. Assumes nothing.
use Prim.Native.Nat.{ℕ, zero, suc, ◌+◌, ◌-◌, ◌*◌, ◌^◌, ◌≤◌, ◌<◌}
use mathlib.Core.Bool.{Bool, true, false, cond, beq}
use mathlib.Core.List.{List, [], ◌∷◌, ◌++◌, map}
use mathlib.Core.Path.{◌≡◌, refl, sym, ap, fun_ext, ◌∙◌}
use mathlib.Core.Logic.{by_cases}
use native.Mathlib.Nat.{mul-pos, mul-zero, le_refl, mul-le-mul_right}
use native.Mathlib.Decide.{dec_le}
use native.Mathlib.Omega.{arith}
use lib.ListN.{length, get_or, length-map}
use lib.Dec.{leb}
use Rattle.rounding.specs.Rounding.{blend, to_units, Near}
use Rattle.rounding.proofs.Laws.{blend-none, blend-all}
use Rattle.figure.specs.Figure.{bit_of, difference, gate_step, gate_failure}
use Rattle.figure.proofs.Fold.{fold_over}
use Rattle.netlist.specs.Netlist.{Gate, Netlist, no_gate, gate_at, pin_values, right_values, first_flip, other_flips}
use Rattle.lists.specs.Lists.{count, Below}
use Rattle.netlist.specs.WellFormed.{GatePinsBelow, WellFormed}
use Rattle.netlist.specs.Live.{live_reads_from, live_reads, readers, live_among, live_gates}
use Rattle.suppose.specs.Suppose.{shared_gates, is_supposed, supposed_wrong, seen, supposed_failures, shared_steps, output_steps, supposed_figure}
use Rattle.lists.proofs.Every.{AllFrom}
use Rattle.netlist.proofs.Failures.{start-fold}
use Rattle.suppose.proofs.Supposed.{pins_seen, supposed-input, supposed-outside, supposed-gate, supposed-at-most}
use Rattle.bound.specs.Sharp.{how_many}
use Rattle.bound.proofs.Near.{near-at, near-weaken}
use Rattle.bound.proofs.Bits.{fold_bits}
use Rattle.bound.proofs.Sources as sources
use Rattle.bound.proofs.Replace.{charges, sum_from, Local, replaced}
use Rattle.bound.proofs.Rounded.{right-share, wrong-share, shares_sum, whole-near}
use Rattle.bound.proofs.Local.{blend-zero, outputs-fold, right-times, step-near}
use Rattle.bound.proofs.Charge.{charges-most, charge-total, live-total, one_each}
use Rattle.bound.proofs.Shares.{right-at-most, right-map, if_right, unmoved, right_given, wrong_given, given-sum}
use Rattle.bound.proofs.Suppose.{checks, checks-map, checks-at-most, kept, fill, cut, given, Agrees, fixed-sum}
use Rattle.suppose.proofs.Sharing.{Shared, shared-is, is_shared, shared-once, shared-below}
use Rattle.bound.proofs.Readers.{kept-below, reads-cut, among-cut, cut_all}

-- what pins on supposed sources see is exact: those pins leave the fold
module _ (u : ℕ) (pos : 0 < u) (sh σ : ℕ → Bool) (f : ℕ → ℕ) (small : (s : ℕ) → f s ≤ u) where
  abbrev pub viewed : ℕ → ℕ
  viewed p = cond (sh p) (cond (σ p) u 0) (f p)

  viewed-most : (p : ℕ) → viewed p ≤ u
  viewed-most p = go (sh p) (σ p)
    where
      go : (a b : Bool) → cond a (cond b u 0) (f p) ≤ u
      go true true = le_refl u
      go true false = omega arith
      go false b = small p

  pub fold-kept : (ps : List ℕ) (W : List Bool → ℕ) → fold_over u (map viewed ps) W ≡ fold_over u (map f (kept sh σ ps)) (λ bs. W (fill sh σ ps bs))
  fold-kept [] W = refl
  fold-kept (p ∷ ps) W = fold-kept ps (λ es. blend u (W (false ∷ es)) (W (true ∷ es)) (viewed p)) ∙ go (sh p) (σ p)
    where
      go : (a b : Bool)
          → fold_over u (map f (kept sh σ ps)) (λ bs. blend u (W (false ∷ fill sh σ ps bs)) (W (true ∷ fill sh σ ps bs)) (cond a (cond b u 0) (f p)))
          ≡ fold_over
          u
          (map f (cond a (kept sh σ ps) (p ∷ kept sh σ ps)))
          (λ bs. W (cond a (b ∷ fill sh σ ps bs) (first_flip bs ∷ fill sh σ ps (other_flips bs))))
      go true true = ap (fold_over u (map f (kept sh σ ps))) (fun_ext (λ bs. blend-all u (W (false ∷ fill sh σ ps bs)) (W (true ∷ fill sh σ ps bs)) pos))
      go true false = ap (fold_over u (map f (kept sh σ ps))) (fun_ext (λ bs. blend-none u (W (false ∷ fill sh σ ps bs)) (W (true ∷ fill sh σ ps bs)) pos))
      go false b = refl

  -- the product over the shared gates and the outputs
  pub product-fold : (outputs ss : List ℕ) (bs : List Bool) (s : ℕ)
      → output_steps u viewed (shared_steps u f s ss bs) outputs
      ≡ fold_over u (map f (ss ++ kept sh σ outputs)) (checks ss bs (λ xs. if_right s (fill sh σ outputs xs)))
  product-fold outputs [] bs s = outputs-fold u pos viewed viewed-most outputs s ∙ fold-kept outputs (if_right s)
  product-fold outputs (p ∷ ss) bs s =
      product-fold outputs ss (other_flips bs) (cond (first_flip bs) (blend u 0 s (f p)) (blend u s 0 (f p)))
      ∙ ap (fold_over u (map f (ss ++ kept sh σ outputs))) (fun_ext (go (first_flip bs)))
    where
      scaled : (φ : ℕ → ℕ) → φ 0 ≡ 0 → (es : List Bool)
          → checks ss (other_flips bs) (λ xs. if_right (φ s) (fill sh σ outputs xs)) es
          ≡ φ (checks ss (other_flips bs) (λ xs. if_right s (fill sh σ outputs xs)) es)
      scaled φ z es =
          ap (λ (T : List Bool → ℕ). checks ss (other_flips bs) T es) (fun_ext (λ xs. right-map φ z s (fill sh σ outputs xs)))
          ∙ checks-map φ z ss (other_flips bs) (λ xs. if_right s (fill sh σ outputs xs)) es

      go : (b : Bool) (es : List Bool)
          → checks ss (other_flips bs) (λ xs. if_right (cond b (blend u 0 s (f p)) (blend u s 0 (f p))) (fill sh σ outputs xs)) es
          ≡ blend
          u
          (cond (beq b false) (checks ss (other_flips bs) (λ xs. if_right s (fill sh σ outputs xs)) es) 0)
          (cond (beq b true) (checks ss (other_flips bs) (λ xs. if_right s (fill sh σ outputs xs)) es) 0)
          (f p)
      go true es = scaled (λ x. blend u 0 x (f p)) (blend-zero u (f p) pos (small p)) es
      go false es = scaled (λ x. blend u x 0 (f p)) (blend-zero u (f p) pos (small p)) es

append-below : (b : ℕ) (xs ys : List ℕ) → Below b xs → Below b ys → Below b (xs ++ ys)
append-below b [] ys hx hy = hy
append-below b (x ∷ xs) ys hx hy = longer (append-below b xs ys (λ i l. hx (suc i) (omega arith)) hy)
  where
    longer : Below b (xs ++ ys) → Below b (x ∷ xs ++ ys)
    longer ih zero l = hx 0 (omega arith)
    longer ih (suc i) l = ih i (omega arith)

module _ (u d : ℕ) (posu : 0 < u) (posd : 0 < d) (net : Netlist) (well : WellFormed d net) (q : ℕ) (bs : List Bool) where
  abbrev n : ℕ
  n = net.inputs

  abbrev G : ℕ
  G = length net.gates

  abbrev vs : List Bool
  vs = right_values net q

  abbrev ss : List ℕ
  ss = shared_gates net

  abbrev sh : ℕ → Bool
  sh = is_supposed ss

  abbrev σ : ℕ → Bool
  σ = supposed_wrong ss bs

  abbrev fs : List ℕ
  fs = supposed_failures u d net q bs

  abbrev f : ℕ → ℕ
  f s = get_or fs s 0

  f-most : (s : ℕ) → f s ≤ u
  f-most s = supposed-at-most u d net q bs posu posd well s

  abbrev r : ℕ → ℕ
  r = right-share u d f

  abbrev w : ℕ → ℕ
  w = wrong-share u d f

  sums : (s : ℕ) → r s + w s ≡ u * d
  sums = shares_sum u d f f-most

  pos : 0 < u * d
  pos = mul-pos posu posd

  abbrev gate_of : ℕ → Gate
  gate_of t = get_or net.gates (t - n) no_gate

  abbrev gates : List Gate
  gates = map (cut sh σ) net.gates

  abbrev outs : List ℕ
  outs = ss ++ kept sh σ net.outputs

  abbrev met : List Bool → ℕ
  met = checks ss bs (λ xs. if_right 1 (fill sh σ net.outputs xs))

  abbrev R : ℕ → Gate → List Bool → ℕ
  R t = right_given u d vs

  abbrev W : ℕ → Gate → List Bool → ℕ
  W t = wrong_given u d vs

  same_gates : length gates ≡ G
  same_gates = length-map net.gates (cut sh σ)

  -- a source that is supposed is a gate that is read twice
  is-twice : (t : ℕ) → sh t ≡ true → Shared (λ x. count x (live_reads_from net.outputs n net.gates)) n G t
  unfolding shared_gates readers live_reads
  is-twice t h = shared-is (λ x. count x (live_reads_from net.outputs n net.gates)) G n t h

  counts : (t : ℕ) → count t (live_reads_from outs n gates) ≡ cond (sh t) 1 (count t (live_reads_from net.outputs n net.gates))
  unfolding shared_gates readers live_reads
  counts =
      reads-cut
      sh
      σ
      ss
      net.outputs
      (shared-once (λ x. count x (live_reads_from net.outputs n net.gates)) G n)
      n
      net.gates
      well.pins_below
      (λ t l h. omega (arith, (is-twice t h).twice))

  single : (t : ℕ) → n ≤ t → t < n + G → count t (live_reads_from outs n gates) ≤ 1
  unfolding shared_gates readers live_reads
  single t l k = go (sh t) refl (counts t)
    where
      go : (c : Bool) → sh t ≡ c → count t (live_reads_from outs n gates) ≡ cond c 1 (count t (live_reads_from net.outputs n net.gates))
          → count t (live_reads_from outs n gates) ≤ 1
      go true h e = omega arith
      go false h e =
          by_cases
          (dec_le 2 (count t (live_reads_from net.outputs n net.gates)))
          (λ two.
          absurd
          (omega (
            arith,
            ap bit_of h,
            ap bit_of (is_shared (λ x. count x (live_reads_from net.outputs n net.gates)) G n t (record { from = l; to = k; twice = two })),
          )))
          (λ one. omega arith)

  input-sure : (i : ℕ) → i < n → f i ≡ 0
  input-sure = supposed-input u d net q bs well.pins_below

  outside-sure : (i : ℕ) → n + G ≤ i → f i ≡ 0
  outside-sure = supposed-outside u d net q bs well.pins_below

  abbrev is_gate : ℕ → Bool
  is_gate s = leb n s

  never : (s : ℕ) → is_gate s ≡ false → f s ≡ 0
  never = sources.never u d fs n G input-sure outside-sure

  abbrev charge : Gate → ℕ
  charge g = 2 + (how_many is_gate g.pins - 1)

  gate-local : AllFrom no_gate (λ t g. Local u (u * d) r w (given sh σ gate_of W) charge t (cut sh σ g)) n net.gates
  unfolding gate_failure difference
  gate-local j l =
      let g = gate_at net j in
      let ps = kept sh σ g.pins in
      let p = to_units u d g.chance in
      let at : gate_of (n + j) ≡ g = ap (λ (k : ℕ). get_or net.gates k no_gate) (omega arith) in
      let same : length (pin_values vs g.pins) ≡ length (pins_seen u ss bs fs g.pins)
      = length-map g.pins (λ (p : ℕ). get_or vs p false) ∙ sym (length-map g.pins (λ (p : ℕ). seen u ss bs p (get_or fs p 0))) in
      let fold : fold_over u (pins_seen u ss bs fs g.pins) (difference u g.table (pin_values vs g.pins))
      ≡ fold_over u (map f ps) (λ xs. cond (unmoved vs g (fill sh σ g.pins xs)) 0 u)
      = fold-kept u posu sh σ f f-most g.pins (difference u g.table (pin_values vs g.pins)) in
      let figure : f (n + j) ≡ gate_step u (fold_over u (map f ps) (λ xs. cond (unmoved vs g (fill sh σ g.pins xs)) 0 u)) p
      = supposed-gate u d net q bs well.pins_below j l
      ∙ ap (λ (m : ℕ). gate_step u m p) (start-fold u g.table (pin_values vs g.pins) (pins_seen u ss bs fs g.pins) same ∙ fold) in
      near-at
      refl
      (ap (λ (z : ℕ). 2 * (u * ((u * d) ^ length ps * (d * z)))) (sym figure))
      (ap (λ (h : Gate). 2 * (u * fold_bits r w ps (λ xs. wrong_given u d vs h (fill sh σ h.pins xs)))) (sym at))
      (step-near u d posu posd fs f-most is_gate never ps (λ xs. unmoved vs g (fill sh σ g.pins xs)) g.chance (well.chances j l))

  gates-near : AllFrom no_gate (Local u (u * d) r w (given sh σ gate_of W) charge) n gates
  gates-near =
      cut_all
      sh
      σ
      (λ t g. Local u (u * d) r w (given sh σ gate_of W) charge t (cut sh σ g))
      (Local u (u * d) r w (given sh σ gate_of W) charge)
      (λ t g h. h)
      n
      net.gates
      gate-local

  outs-near : Near
      ((how_many is_gate outs - 1) * (u * d) ^ length outs)
      (2 * (supposed_figure u d net q bs * (u * d) ^ length outs))
      (2 * (u * fold_bits r w outs met))
  unfolding supposed_figure
  outs-near =
      near-at
      refl
      (ap (λ (z : ℕ). 2 * (z * (u * d) ^ length outs)) (sym (product-fold u posu sh σ f f-most net.outputs ss bs u)))
      refl
      (whole-near u d posu f f-most is_gate never outs (checks ss bs (λ xs. if_right u (fill sh σ net.outputs xs))) met scaled)
    where
      scaled : (xs : List Bool) → checks ss bs (λ xs. if_right u (fill sh σ net.outputs xs)) xs ≡ u * met xs
      scaled xs =
          ap (λ (T : List Bool → ℕ). checks ss bs T xs) (fun_ext (λ xs. right-times u (fill sh σ net.outputs xs)))
          ∙ checks-map (λ x. u * x) (mul-zero u) ss bs (λ xs. if_right 1 (fill sh σ net.outputs xs)) xs

  outs-below : Below (n + G) outs
  unfolding shared_gates readers live_reads
  outs-below =
      append-below
      (n + G)
      ss
      (kept sh σ net.outputs)
      (shared-below (λ x. count x (live_reads_from net.outputs n net.gates)) G n)
      (kept-below sh σ (n + G) net.outputs well.outputs_below)

  pins-left : AllFrom no_gate GatePinsBelow n gates
  pins-left = cut_all sh σ GatePinsBelow GatePinsBelow (λ t g h. kept-below sh σ t g.pins h) n net.gates well.pins_below

  -- three half units for each live gate
  total : charges outs charge n gates + (how_many is_gate outs - 1) ≤ 3 * live_gates net
  unfolding live_gates live_reads
  total =
      let live : charges outs (λ g. 1) n gates ≡ live_gates net
      = live-total outs n gates pins-left
      ∙ ap (live_among (live_reads_from outs n gates) n) same_gates
      ∙ among-cut
      sh
      σ
      (live_reads_from outs n gates)
      (live_reads_from net.outputs n net.gates)
      counts
      (λ t h. omega (arith, (is-twice t h).twice))
      n
      G in
      omega (
        arith,
        charges-most outs charge (λ g. 2 + how_many is_gate g.pins) (λ g. omega arith) n gates,
        charge-total is_gate outs n gates,
        one_each outs n gates pins-left (λ i l. omega (arith, outs-below i l, same_gates)) (λ j l. single (n + j) (omega arith) (omega (arith, same_gates))),
      )

  -- the sum for this set of suppositions, times u * d for each gate
  abbrev pub set_sum : ℕ
  set_sum = sum_from (ss ++ net.outputs) (checks ss bs (if_right 1)) R W n net.gates (λ t. false)

  pub set-bound : Near (3 * live_gates net * (u * d) ^ G) (2 * (supposed_figure u d net q bs * (u * d) ^ G)) (2 * (u * set_sum))
  set-bound =
      let rel = supposed_figure u d net q bs in
      let c = charges outs charge n gates in
      let out = how_many is_gate outs - 1 in
      let left : (ℕ → Bool) → ℕ = sum_from outs met (given sh σ gate_of R) (given sh σ gate_of W) n gates in
      let all : Near ((c + out) * (u * d) ^ length gates) (2 * (rel * (u * d) ^ length gates)) (2 * (u * left (λ t. false)))
      = replaced
      outs
      met
      (given sh σ gate_of R)
      (given sh σ gate_of W)
      (u * d)
      (λ t g xs. given-sum u d vs (gate_of t) (fill sh σ (gate_of t).pins xs))
      r
      w
      sums
      pos
      u
      (checks-at-most ss bs (λ xs. if_right 1 (fill sh σ net.outputs xs)) (λ xs. right-at-most (fill sh σ net.outputs xs)))
      charge
      n
      gates
      out
      rel
      (sources.sure u d fs n G input-sure outside-sure)
      pins-left
      (λ i l. omega (arith, outs-below i l, same_gates))
      gates-near
      (sources.once u d fs n G input-sure outside-sure (live_reads_from outs n gates) single)
      outs-near in
      let agrees : Agrees sh σ n (λ t. false) = λ t l h. absurd (omega (arith, (is-twice t h).from)) in
      let are : AllFrom no_gate (λ t g. gate_of t ≡ g) n net.gates = λ j l. ap (λ (k : ℕ). get_or net.gates k no_gate) (omega arith) in
      let same : left (λ t. false) ≡ set_sum
      = sym (fixed-sum R W gate_of ss bs net.outputs (if_right 1) n net.gates (λ t. false) agrees well.pins_below are well.outputs_below) in
      near-weaken
      (mul-le-mul_right ((u * d) ^ G) total)
      (near-at
      (ap (λ (k : ℕ). (c + out) * (u * d) ^ k) same_gates)
      (ap (λ (k : ℕ). 2 * (rel * (u * d) ^ k)) same_gates)
      (ap (λ (z : ℕ). 2 * (u * z)) same)
      all)
