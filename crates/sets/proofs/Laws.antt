-- Shared gates and the figures of a set, gate by gate: what readers see, a gate's own failure, the products so far; and the figures at the end.
-- Assumes nothing.
use Prim.Native.Nat.{ℕ, suc, ◌+◌, ◌-◌, ◌^◌, ◌≤◌, ◌<◌}
use mathlib.Core.Bool.{Bool, true, false, cond}
use mathlib.Core.List.{List, [], ◌∷◌, ◌++◌, map}
use mathlib.Core.Path.{◌≡◌, refl, sym, ap, ap₂, fun_ext, ◌∙◌}
use native.Mathlib.Nat.{le_refl}
use native.Mathlib.Omega.{arith}
use borrow.Author.Tests.{le-leb}
use lib.ListN.{length, get_or, length-append}
use Rattle.lists.specs.Lists.{sum_below}
use Rattle.lists.proofs.Joined.{listed_at}
use Rattle.rounding.specs.Rounding.{units_in_one, to_units, blend}
use Rattle.rounding.proofs.Laws.{exact, blend-at-most}
use Rattle.figure.specs.Figure.{gate_failure, output_step, failure_of}
use Rattle.netlist.specs.Netlist.{Gate, pin_values, right_values, first_flip, other_flips}
use Rattle.netlist.specs.WellFormed.{WellFormed}
use Rattle.netlist.specs.Live.{readers}
use Rattle.netlist.proofs.Values.{input-value}
use Rattle.suppose.specs.Suppose.{shared_from, shared_gates, is_supposed, supposed_wrong, supposed_failures, shared_steps, output_steps, supposed_figure}
use Rattle.suppose.specs.Suppose.{at_most, shared_reliability}
use Rattle.suppose.proofs.Sharing.{shared-is, shared-below, shared-split, shared_same, shared-more, supposed-at, wrong-at, steps-last}
use Rattle.suppose.proofs.Sharing.{sets-sum}
use Rattle.suppose.proofs.Supposed.{supposed_step, supposed-input, supposed-gate, supposed-at-most, wrong-step}
use Rattle.area.specs.Layout.{inputs, gates, pattern, table, flip, used_pins, output_words}
use Rattle.area.specs.Rules.{NetSound, Workable}
use Rattle.area.specs.Figures.{product_from}
use Rattle.area.specs.Net.{net_of}
use Rattle.area.proofs.Net.{gate-at, gate_count, sound-pins, sound-net, same-readers}
use Rattle.sets.specs.Sets.{flip_words, units_net, shared_of, shared_to, is_wrong, set_of, own_failure, seen_failure, product_to, set_figure, shared_units}

-- the step of a shared gate is an output step, with the failure to be as supposed
pub step-either : (wrong : Bool) (p f : ℕ) → f ≤ units_in_one
    → output_step units_in_one p (cond wrong (units_in_one - f) f) ≡ cond wrong (blend units_in_one 0 p f) (blend units_in_one p 0 f)
unfolding output_step
step-either true p f fits = sym (wrong-step units_in_one p f fits)
step-either false p f fits = refl

-- ---- shared gates

pub shared-are : (ws : List ℕ) → shared_of ws ≡ shared_to ws (gates ws)
unfolding units_net shared_gates shared_to
shared-are ws =
    ap₂ (λ (reads : ℕ → ℕ) (k : ℕ). shared_from reads (inputs ws) k) (fun_ext (same-readers ws [] (flip_words ws) [] [])) (gate_count ws [] (flip_words ws))

-- the counts have them
pub shared-counted : (ws counts : List ℕ) → ((s : ℕ) → get_or counts s 0 ≡ readers (net_of ws [] []) s)
    → shared_from (λ s. get_or counts s 0) (inputs ws) (gates ws) ≡ shared_of ws
unfolding shared_to
shared-counted ws counts counted = ap (λ (reads : ℕ → ℕ). shared_from reads (inputs ws) (gates ws)) (fun_ext counted) ∙ sym (shared-are ws)

module _ (ws : List ℕ) (j : ℕ) (inside : j < gates ws) where
  abbrev reads : ℕ → ℕ
  reads = readers (net_of ws [] [])

  -- those after gate j
  abbrev after : List ℕ
  after = shared_from reads (inputs ws + j) (gates ws - j)

  parts : shared_of ws ≡ shared_to ws j ++ after
  unfolding shared_to
  parts =
      let whole : j + (gates ws - j) ≡ gates ws = omega arith in
      shared-are ws ∙ ap (shared_from reads (inputs ws)) (sym whole) ∙ shared-split reads (inputs ws) j (gates ws - j)

  module _ (few : reads (inputs ws + j) ≤ 1) where
    -- a gate that is not shared
    pub to_same : shared_to ws (j + 1) ≡ shared_to ws j
    unfolding shared_to
    to_same = shared_same reads (inputs ws) j few

    pub not-supposed : is_supposed (shared_of ws) (inputs ws + j) ≡ false
    unfolding shared_to
    not-supposed = go (is_supposed (shared_of ws) (inputs ws + j)) refl
      where
        go : (c : Bool) → is_supposed (shared_of ws) (inputs ws + j) ≡ c → c ≡ false
        go false e = refl
        go true e =
            let is = shared-is reads (gates ws) (inputs ws) (inputs ws + j) (ap (λ (ss : List ℕ). is_supposed ss (inputs ws + j)) (sym (shared-are ws)) ∙ e) in
            absurd (omega (arith, is.twice))

  module _ (two : 2 ≤ reads (inputs ws + j)) where
    -- one that is
    to-more : shared_to ws (j + 1) ≡ shared_to ws j ++ ((inputs ws + j) ∷ [])
    unfolding shared_to
    to-more = shared-more reads (inputs ws) j two

    abbrev rest : List ℕ
    rest = shared_from reads (suc (inputs ws + j)) (gates ws - suc j)

    here : shared_of ws ≡ shared_to ws j ++ ((inputs ws + j) ∷ rest)
    here =
        let one : gates ws - j ≡ suc (gates ws - suc j) = omega arith in
        parts
        ∙ ap (λ (k : ℕ). shared_to ws j ++ shared_from reads (inputs ws + j) k) one
        ∙ ap (λ (c : Bool). shared_to ws j ++ cond c ((inputs ws + j) ∷ rest) rest) (le-leb 2 (reads (inputs ws + j)) two)

    pub number-inside : length (shared_to ws j) < length (shared_of ws)
    number-inside = omega (arith, ap length here, length-append (shared_to ws j) ((inputs ws + j) ∷ rest))

    -- its supposition in set m is the bit of its number
    bit : (m : ℕ) → get_or (set_of ws m) (length (shared_to ws j)) false ≡ is_wrong m (length (shared_to ws j))
    bit m = input-value (length (shared_of ws)) m (length (shared_to ws j)) number-inside

    pub seen-shared : (m : ℕ) → seen_failure ws m (inputs ws + j) ≡ cond (is_wrong m (length (shared_to ws j))) units_in_one 0
    unfolding seen_failure shared_to
    seen-shared m =
        let p = inputs ws + j in
        let xs = shared_to ws j in
        ap₂ (λ (c w : Bool). cond c (cond w units_in_one 0) (own_failure ws m p))
        (ap (λ (ss : List ℕ). is_supposed ss p) here ∙ supposed-at xs rest p)
        (ap (λ (ss : List ℕ). supposed_wrong ss (set_of ws m) p) here ∙ wrong-at xs rest p (set_of ws m) (shared-below reads j (inputs ws)) ∙ bit m)

    -- the product takes its step
    pub product-more : (m : ℕ)
        → product_to ws m (j + 1)
        ≡ cond (is_wrong m (length (shared_to ws j)))
        (blend units_in_one 0 (product_to ws m j) (own_failure ws m (inputs ws + j)))
        (blend units_in_one (product_to ws m j) 0 (own_failure ws m (inputs ws + j)))
    unfolding product_to
    product-more m =
        let p = inputs ws + j in
        let xs = shared_to ws j in
        let r = shared_steps units_in_one (own_failure ws m) units_in_one xs (set_of ws m) in
        ap (λ (ss : List ℕ). shared_steps units_in_one (own_failure ws m) units_in_one ss (set_of ws m)) to-more
        ∙ steps-last units_in_one (own_failure ws m) units_in_one p xs (set_of ws m)
        ∙ ap (λ (c : Bool). cond c (blend units_in_one 0 r (own_failure ws m p)) (blend units_in_one r 0 (own_failure ws m p))) (bit m)

    pub number_more : suc (length (shared_to ws j)) ≡ length (shared_to ws (j + 1))
    number_more = omega (arith, ap length to-more, length-append (shared_to ws j) ((inputs ws + j) ∷ []))

-- no input is shared
input-not : (ws : List ℕ) (s : ℕ) → s < inputs ws → is_supposed (shared_of ws) s ≡ false
unfolding shared_to
input-not ws s l = go (is_supposed (shared_of ws) s) refl
  where
    go : (c : Bool) → is_supposed (shared_of ws) s ≡ c → c ≡ false
    go false e = refl
    go true e =
        let is = shared-is (readers (net_of ws [] [])) (gates ws) (inputs ws) s (ap (λ (ss : List ℕ). is_supposed ss s) (sym (shared-are ws)) ∙ e) in
        absurd (omega (arith, is.from))

-- a product over outputs, by what they see
pub steps-are : (read f : ℕ → ℕ) (s : ℕ) (os : List ℕ) → ((i : ℕ) → i < length os → failure_of (read (get_or os i 0)) ≡ f (get_or os i 0))
    → product_from read s os ≡ output_steps units_in_one f s os
unfolding output_step
steps-are read f s [] e = refl
steps-are read f s (o ∷ os) e =
    ap (λ (x : ℕ). product_from read (blend units_in_one s 0 x) os) (e 0 (omega arith))
    ∙ steps-are read f (blend units_in_one s 0 (f o)) os (λ i l. e (suc i) (omega arith))

-- the figure of a set, from words in which the outputs' sources are as readers see them
pub figure-by : (ws : List ℕ) (m : ℕ) (read : ℕ → ℕ) (product : ℕ)
    → ((k : ℕ) → k < length (output_words ws) → failure_of (read (get_or (output_words ws) k 0)) ≡ seen_failure ws m (get_or (output_words ws) k 0))
    → product ≡ product_to ws m (gates ws) → product_from read product (output_words ws) ≡ set_figure ws m
unfolding set_figure supposed_figure product_to seen_failure units_net own_failure
figure-by ws m read product sees is =
    steps-are read (seen_failure ws m) product (output_words ws) sees
    ∙ ap (λ (s : ℕ). output_steps units_in_one (seen_failure ws m) s (output_words ws)) is
    ∙ ap
    (λ (ss : List ℕ).
    output_steps units_in_one (seen_failure ws m) (shared_steps units_in_one (own_failure ws m) units_in_one ss (set_of ws m)) (output_words ws))
    (sym (shared-are ws))

-- ---- failures

module _ (ws : List ℕ) (workable : Workable ws) where
  abbrev net : NetSound ws
  net = workable.net

  flip-at : (j : ℕ) → j < gates ws → get_or (flip_words ws) j 0 ≡ flip ws j
  flip-at j l = listed_at (flip ws) (gates ws) j l

  pub well : WellFormed units_in_one (units_net ws)
  unfolding units_net
  well = sound-net units_in_one ws [] (flip_words ws) net (λ j l. omega (arith, flip-at j l, workable.figures.flip_fits j l))

  pub own-at-most : (m s : ℕ) → own_failure ws m s ≤ units_in_one
  unfolding own_failure
  own-at-most m s = supposed-at-most units_in_one units_in_one (units_net ws) (pattern ws) (set_of ws m) (omega arith) (omega arith) well s

  pub seen-at-most : (m s : ℕ) → seen_failure ws m s ≤ units_in_one
  unfolding seen_failure
  seen-at-most m s = go (is_supposed (shared_of ws) s) (supposed_wrong (shared_of ws) (set_of ws m) s)
    where
      go : (a b : Bool) → cond a (cond b units_in_one 0) (own_failure ws m s) ≤ units_in_one
      go true true = le_refl units_in_one
      go true false = omega arith
      go false b = own-at-most m s

  steps-at-most : (m : ℕ) (ss : List ℕ) (bs : List Bool) → shared_steps units_in_one (own_failure ws m) units_in_one ss bs ≤ units_in_one
  steps-at-most m ss bs = go ss bs units_in_one (le_refl units_in_one)
    where
      go : (ss : List ℕ) (bs : List Bool) (s : ℕ) → s ≤ units_in_one → shared_steps units_in_one (own_failure ws m) s ss bs ≤ units_in_one
      go [] bs s l = l
      go (p ∷ ss) bs s l =
          go ss (other_flips bs) (cond (first_flip bs) (blend units_in_one 0 s (own_failure ws m p)) (blend units_in_one s 0 (own_failure ws m p)))
          (either (first_flip bs))
        where
          either : (c : Bool) → cond c (blend units_in_one 0 s (own_failure ws m p)) (blend units_in_one s 0 (own_failure ws m p)) ≤ units_in_one
          either true = blend-at-most units_in_one 0 s (own_failure ws m p) units_in_one (omega arith) (own-at-most m p) (omega arith) l
          either false = blend-at-most units_in_one s 0 (own_failure ws m p) units_in_one (omega arith) (own-at-most m p) l (omega arith)

  pub product-at-most : (m j : ℕ) → product_to ws m j ≤ units_in_one
  unfolding product_to
  product-at-most m j = steps-at-most m (shared_to ws j) (set_of ws m)

  pub seen-input : (m s : ℕ) → s < inputs ws → seen_failure ws m s ≡ 0
  unfolding seen_failure own_failure units_net
  seen-input m s l =
      ap (λ (c : Bool). cond c (cond (supposed_wrong (shared_of ws) (set_of ws m) s) units_in_one 0) (own_failure ws m s)) (input-not ws s l)
      ∙ supposed-input units_in_one units_in_one (units_net ws) (pattern ws) (set_of ws m) (sound-pins ws [] (flip_words ws) net) s l

  -- a gate's own failure from what its pins see
  pub own-gate : (m j : ℕ) → j < gates ws
      → own_failure ws m (inputs ws + j)
      ≡ gate_failure units_in_one (table ws j) (pin_values (right_values (units_net ws) (pattern ws)) (used_pins ws j)) (map (seen_failure ws m) (used_pins ws j))
      (flip ws j)
  unfolding own_failure seen_failure units_net to_units
  own-gate m j l =
      let fs = supposed_failures units_in_one units_in_one (units_net ws) (pattern ws) (set_of ws m) in
      let vs = right_values (units_net ws) (pattern ws) in
      supposed-gate units_in_one units_in_one (units_net ws) (pattern ws) (set_of ws m) (sound-pins ws [] (flip_words ws) net) j
      (omega (arith, gate_count ws [] (flip_words ws)))
      ∙ ap (λ (g : Gate). supposed_step units_in_one units_in_one vs (shared_of ws) (set_of ws m) g fs) (gate-at ws [] (flip_words ws) j l)
      ∙ ap (λ (p : ℕ). gate_failure units_in_one (table ws j) (pin_values vs (used_pins ws j)) (map (seen_failure ws m) (used_pins ws j)) p)
      (exact (get_or (flip_words ws) j 0) units_in_one (omega arith) ∙ flip-at j l)

-- ---- all sets

-- no figure passes U
pub figure-at-most : (ws : List ℕ) → Workable ws → (m : ℕ) → set_figure ws m ≤ units_in_one
unfolding set_figure supposed_figure seen_failure own_failure
figure-at-most ws workable m =
    go (units_net ws).outputs (shared_steps units_in_one (own_failure ws m) units_in_one (shared_of ws) (set_of ws m))
    (steps-at-most ws workable m (shared_of ws) (set_of ws m))
  where
    go : (os : List ℕ) (s : ℕ) → s ≤ units_in_one → output_steps units_in_one (seen_failure ws m) s os ≤ units_in_one
    go [] s l = l
    go (o ∷ os) s l = go os _ (blend-at-most units_in_one s 0 (seen_failure ws m o) units_in_one (omega arith) (seen-at-most ws workable m o) l (omega arith))

-- the figures of all sets are the sum over their suppositions
pub all-added : (ws : List ℕ) → at_most units_in_one (sum_below (2 ^ length (shared_of ws)) (set_figure ws)) ≡ shared_units ws
unfolding shared_units shared_reliability set_figure
all-added ws =
    ap (at_most units_in_one)
    (sym (sets-sum (length (shared_of ws)) (supposed_figure units_in_one units_in_one (units_net ws) (pattern ws))))
