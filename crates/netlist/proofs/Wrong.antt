-- Wrong values beside right ones: how many of some reads are wrong, and what one wrong pin does to a gate's answer. Assumes nothing.
use Prim.Native.Nat.{ℕ, zero, suc, ◌+◌, ◌*◌, ◌≤◌, ◌<◌}
use mathlib.Core.Bool.{Bool, true, false, cond, not, ◌&&◌, beq}
use mathlib.Core.List.{List, [], ◌∷◌, ◌++◌}
use mathlib.Core.Logic.{⊎_elim}
use mathlib.Core.Path.{◌≡◌, refl, sym, ap, ap₂, ◌∙◌}
use native.Mathlib.Nat.{add-zero, zero-add, eq-zero-or-pos}
use native.Mathlib.Omega.{arith}
use lib.Dec.{eqb}
use lib.ListN.{length, get_or, get_or-eq_default}
use Rattle.lists.specs.Lists.{count, count_where}
use Rattle.lists.proofs.Parts.{snoc-at}
use Rattle.lists.proofs.Counts.{where-append, where-never, where-changed}
use Rattle.figure.specs.Figure.{bit_of, answer, invert_if, inverted}
use Rattle.netlist.specs.Netlist.{Gate, pin_values}
use Rattle.netlist.specs.Exact.{outputs_agree}
use Rattle.netlist.specs.Live.{is_live, if_live, with_gate}
use Rattle.netlist.specs.Seen.{alone, differ, sensitive, pins_where, sensitive_pins}
use Rattle.netlist.proofs.Live.{reads-with}
use Rattle.netlist.proofs.Masks.{part-where}

-- ---- wrong values

invert-back : (w v : Bool) → w ≡ invert_if (differ w v) v
invert-back true true = refl
invert-back true false = refl
invert-back false true = refl
invert-back false false = refl

pub differ_self : (v : Bool) → differ v v ≡ false
differ_self true = refl
differ_self false = refl

pub differ-not : (v : Bool) → differ (not v) v ≡ true
differ-not true = refl
differ-not false = refl

-- whether a source is wrong that has its value in ws, and its right one in vs; past the end of both none is
abbrev pub wrong : List Bool → List Bool → ℕ → Bool
wrong ws vs t = differ (get_or ws t false) (get_or vs t false)

-- ---- wrong reads

abbrev pub wrong_reads : List Bool → List Bool → List ℕ → ℕ
wrong_reads ws vs rs = count_where (wrong ws vs) rs

pub none-wrong : (vs : List Bool) (rs : List ℕ) → wrong_reads vs vs rs ≡ 0
none-wrong vs = where-never (wrong vs vs) (λ i. differ_self (get_or vs i false))

-- one source more: its reads are wrong if its value is
pub wrong-next : (s : ℕ) (ws vs : List Bool) → length ws ≡ s → length vs ≡ s → (w v : Bool) (rs : List ℕ)
    → wrong_reads (ws ++ (w ∷ [])) (vs ++ (v ∷ [])) rs ≡ wrong_reads ws vs rs + bit_of (differ w v) * count s rs
wrong-next s ws vs m n w v =
    where-changed
    (wrong ws vs)
    (wrong (ws ++ (w ∷ [])) (vs ++ (v ∷ [])))
    s
    (differ w v)
    (ap₂ differ (get_or-eq_default ws false (omega arith)) (get_or-eq_default vs false (omega arith)))
    (λ t. ap₂ differ (snoc-at ws w false s m t) (snoc-at vs v false s n t) ∙ go (eqb s t) (get_or ws t false) (get_or vs t false))
  where
    go : (c a b : Bool) → differ (cond c w a) (cond c v b) ≡ cond c (differ w v) (differ a b)
    go true a b = refl
    go false a b = refl

pub wrong-with : (ws vs : List Bool) (s : ℕ) (ps rs : List ℕ)
    → wrong_reads ws vs (with_gate s ps rs) ≡ if_live (count s rs) (wrong_reads ws vs ps) + wrong_reads ws vs rs
wrong-with ws vs = reads-with (wrong_reads ws vs) (where-append (wrong ws vs))

pub is_live-positive : (k : ℕ) → 0 < k → is_live k ≡ true
is_live-positive zero h = absurd (omega arith)
is_live-positive (suc k) h = refl

-- outputs disagree where one of their reads is wrong
pub outputs-wrong : (ws vs : List Bool) (os : List ℕ) → not (outputs_agree os ws vs) ≡ is_live (wrong_reads ws vs os)
outputs-wrong ws vs [] = refl
outputs-wrong ws vs (o ∷ os) = go (beq (get_or ws o false) (get_or vs o false)) (outputs-wrong ws vs os)
  where
    go : (c : Bool) → not (outputs_agree os ws vs) ≡ is_live (wrong_reads ws vs os)
        → not (c && outputs_agree os ws vs) ≡ is_live (bit_of (not c) + wrong_reads ws vs os)
    go true rest = rest ∙ ap is_live (sym (zero-add (wrong_reads ws vs os)))
    go false rest = sym (is_live-positive (1 + wrong_reads ws vs os) (omega arith))

-- ---- the pins of a gate

inverted-none : (bs : List Bool) → inverted bs [] ≡ bs
inverted-none [] = refl
inverted-none (b ∷ bs) = refl

module _ (ws vs : List Bool) where
  -- a pin reads the right value, inverted if its source is wrong
  pin-value : (p : ℕ) (c : Bool) → wrong ws vs p ≡ c → get_or ws p false ≡ invert_if c (get_or vs p false)
  pin-value p c e = invert-back (get_or ws p false) (get_or vs p false) ∙ ap (λ (b : Bool). invert_if b (get_or vs p false)) e

  pins-right : (ps : List ℕ) → wrong_reads ws vs ps ≡ 0 → pin_values ws ps ≡ pin_values vs ps
  pins-right [] none = refl
  pins-right (p ∷ ps) none = go (wrong ws vs p) refl (pins-right ps)
    where
      go : (c : Bool) → wrong ws vs p ≡ c → (wrong_reads ws vs ps ≡ 0 → pin_values ws ps ≡ pin_values vs ps) → pin_values ws (p ∷ ps) ≡ pin_values vs (p ∷ ps)
      go true e rest = absurd (omega (arith, ap bit_of e))
      go false e rest = ap₂ ◌∷◌ (pin-value p false e) (rest (omega (arith, ap bit_of e)))

  -- pin i is the one that reads a wrong source: what the pins read, and whether a choice of pins, made from number k on, has a wrong read
  record OneWrong (ps : List ℕ) : Type 0 where
    i : ℕ
    inverts : pin_values ws ps ≡ inverted (pin_values vs ps) (alone i)
    chosen : (t : ℕ → Bool) (k : ℕ) → wrong_reads ws vs (pins_where t k ps) ≡ bit_of (t (k + i))

  one-wrong : (ps : List ℕ) → wrong_reads ws vs ps ≡ 1 → OneWrong ps
  one-wrong [] one = absurd (omega arith)
  one-wrong (p ∷ ps) one = go (wrong ws vs p) refl (one-wrong ps)
    where
      first : (t : ℕ → Bool) (k : ℕ) (c b : Bool) → wrong ws vs p ≡ b
          → wrong_reads ws vs (cond c (p ∷ pins_where t (suc k) ps) (pins_where t (suc k) ps))
          ≡ bit_of c * bit_of b + wrong_reads ws vs (pins_where t (suc k) ps)
      first t k true b e = omega (arith, ap bit_of e)
      first t k false b e = omega arith

      go : (b : Bool) → wrong ws vs p ≡ b → (wrong_reads ws vs ps ≡ 1 → OneWrong ps) → OneWrong (p ∷ ps)
      go true e rest =
          let none : wrong_reads ws vs ps ≡ 0 = omega (arith, ap bit_of e) in
          record {
            i = 0;
            inverts = ap₂ ◌∷◌ (pin-value p true e) (pins-right ps none ∙ sym (inverted-none (pin_values vs ps)));
            chosen =
                λ t k.
                omega (arith, first t k (t k) true e, part-where (wrong ws vs) t (suc k) ps, ap (λ (n : ℕ). bit_of (t n)) (add-zero k));
          }
      go false e rest =
          let more = rest (omega (arith, ap bit_of e)) in
          record {
            i = suc more.i;
            inverts = ap₂ ◌∷◌ (pin-value p false e) more.inverts;
            chosen =
                λ t k.
                let at : suc k + more.i ≡ k + suc more.i = omega arith in
                omega (arith, first t k (t k) false e, more.chosen t (suc k), ap (λ (n : ℕ). bit_of (t n)) at);
          }

  -- with at most one wrong pin, the answer is wrong exactly if that pin is sensitive
  pub gate-wrong : (g : Gate) → wrong_reads ws vs g.pins ≤ 1
      → wrong_reads ws vs (sensitive_pins vs g) ≡ bit_of (differ (answer g.table (pin_values ws g.pins)) (answer g.table (pin_values vs g.pins)))
  unfolding sensitive
  gate-wrong g few =
      let v = answer g.table (pin_values vs g.pins) in
      let test = sensitive g.table (pin_values vs g.pins) in
      let wrong_from : List Bool → ℕ = λ us. bit_of (differ (answer g.table us) v) in
      ⊎_elim
      (λ none. omega (arith, part-where (wrong ws vs) test 0 g.pins, ap wrong_from (pins-right g.pins none), ap bit_of (differ_self v)))
      (λ some.
      let pin = one-wrong g.pins (omega arith) in
      pin.chosen test 0 ∙ ap (λ (k : ℕ). bit_of (test k)) (zero-add pin.i) ∙ sym (ap wrong_from pin.inverts))
      (eq-zero-or-pos (wrong_reads ws vs g.pins))
