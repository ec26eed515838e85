-- With the pins on shared gates left out and each shared gate checked once, every gate has the live readers that the error argument wants, and the same
-- gates are live. Assumes nothing.
use Prim.Native.Nat.{ℕ, zero, suc, ◌+◌, ◌≤◌, ◌<◌}
use mathlib.Core.Bool.{Bool, true, false, cond}
use mathlib.Core.List.{List, [], ◌∷◌, ◌++◌, map}
use mathlib.Core.Path.{◌≡◌, refl, sym, ap, ap₂, subst, ◌∙◌}
use native.Mathlib.Nat.{le_refl, add-zero}
use native.Mathlib.Omega.{arith}
use lib.ListN.{get_or}
use lib.Dec.{eqb}
use borrow.Author.Tests.{eqb-true}
use Rattle.figure.specs.Figure.{bit_of}
use Rattle.netlist.specs.Netlist.{Gate, no_gate}
use Rattle.lists.specs.Lists.{count, Below}
use Rattle.netlist.specs.Live.{is_live, if_live, with_gate, live_reads_from, live_among}
use Rattle.lists.proofs.Counts.{count-append}
use Rattle.netlist.specs.WellFormed.{GatePinsBelow}
use Rattle.lists.proofs.Every.{below-tail, AllFrom, all_head, all_tail}
use Rattle.netlist.proofs.Live.{count-with, count-later}
use Rattle.bound.proofs.Suppose.{kept, cut}

-- the readers that are left
module _ (sh σ : ℕ → Bool) where
  count_kept : (t : ℕ) (ps : List ℕ) → count t (kept sh σ ps) ≡ cond (sh t) 0 (count t ps)
  count_kept t [] = none (sh t)
    where
      none : (c : Bool) → ◌≡◌ {A = ℕ} 0 (cond c 0 0)
      none true = refl
      none false = refl
  count_kept t (p ∷ ps) = go (sh p) refl (sh t) refl (eqb t p) refl (count_kept t ps)
    where
      clash : (a b : Bool) → a ≡ true → b ≡ false → a ≡ b → ⊥
      clash a b x y z = omega (arith, ap bit_of x, ap bit_of y, ap bit_of z)

      go : (a : Bool) → sh p ≡ a → (b : Bool) → sh t ≡ b → (c : Bool) → eqb t p ≡ c → count t (kept sh σ ps) ≡ cond (sh t) 0 (count t ps)
          → count t (cond a (kept sh σ ps) (p ∷ kept sh σ ps)) ≡ cond b 0 (bit_of c + count t ps)
      go true x true y c z ih = ih ∙ ap (λ (k : Bool). cond k 0 (count t ps)) y
      go true x false y true z ih = absurd (clash (sh p) (sh t) x y (ap sh (sym (eqb-true t p z))))
      go true x false y false z ih = omega (arith, ih ∙ ap (λ (k : Bool). cond k 0 (count t ps)) y)
      go false x true y true z ih = absurd (clash (sh t) (sh p) y x (ap sh (eqb-true t p z)))
      go false x true y false z ih = omega (arith, ih ∙ ap (λ (k : Bool). cond k 0 (count t ps)) y, ap bit_of z)
      go false x false y c z ih = omega (arith, ih ∙ ap (λ (k : Bool). cond k 0 (count t ps)) y, ap bit_of z)

  pub kept-below : (b : ℕ) (ps : List ℕ) → Below b ps → Below b (kept sh σ ps)
  kept-below b [] below = below
  kept-below b (p ∷ ps) below = go (sh p) (kept-below b ps (below-tail b p ps below))
    where
      go : (c : Bool) → Below b (kept sh σ ps) → Below b (cond c (kept sh σ ps) (p ∷ kept sh σ ps))
      go true ih = ih
      go false ih = longer
        where
          longer : Below b (p ∷ kept sh σ ps)
          longer zero l = below 0 (omega arith)
          longer (suc i) l = ih i (omega arith)

  module _ (ss outputs : List ℕ) (once : (t : ℕ) → count t ss ≡ bit_of (sh t)) where
    pub reads-cut : (s : ℕ) (gs : List Gate) → AllFrom no_gate GatePinsBelow s gs
        → ((t : ℕ) → s ≤ t → sh t ≡ true → 0 < count t (live_reads_from outputs s gs))
        → (t : ℕ) → count t (live_reads_from (ss ++ kept sh σ outputs) s (map (cut sh σ) gs)) ≡ cond (sh t) 1 (count t (live_reads_from outputs s gs))
    reads-cut s [] below live t = count-append t ss (kept sh σ outputs) ∙ go (sh t) (once t) (count_kept t outputs)
      where
        go : (c : Bool) → count t ss ≡ bit_of c → count t (kept sh σ outputs) ≡ cond c 0 (count t outputs)
            → count t ss + count t (kept sh σ outputs) ≡ cond c 1 (count t outputs)
        go true a b = omega arith
        go false a b = omega arith
    reads-cut s (g ∷ gs) below live t =
        let later = live_reads_from outputs (suc s) gs in
        let left = live_reads_from (ss ++ kept sh σ outputs) (suc s) (map (cut sh σ) gs) in
        let pins = all_head no_gate GatePinsBelow s g gs below in
        let same : (r : ℕ) → s ≤ r → count r (with_gate s g.pins later) ≡ count r later = λ r l. count-later r s g.pins later pins l in
        let ih : (r : ℕ) → count r left ≡ cond (sh r) 1 (count r later)
        = reads-cut (suc s) gs (all_tail no_gate GatePinsBelow s g gs below) (λ r l h. omega (arith, live r (omega arith) h, same r (omega arith))) in
        count-with t s (kept sh σ g.pins) left
        ∙ ap₂ ◌+◌ (ap₂ if_live (ih s) (count_kept t g.pins)) (ih t)
        ∙ go (sh s) (count s later) (λ h. omega (arith, live s (le_refl s) h, same s (le_refl s))) (sh t)
        ∙ ap (cond (sh t) 1) (sym (count-with t s g.pins later))
      where
        go : (a : Bool) (c : ℕ) → (a ≡ true → 0 < c) → (b : Bool)
            → if_live (cond a 1 c) (cond b 0 (count t g.pins)) + cond b 1 (count t (live_reads_from outputs (suc s) gs))
            ≡ cond b 1 (if_live c (count t g.pins) + count t (live_reads_from outputs (suc s) gs))
        go true zero h b = absurd (omega (arith, h refl))
        go true (suc c) h true = refl
        go true (suc c) h false = refl
        go false zero h true = refl
        go false zero h false = refl
        go false (suc c) h true = refl
        go false (suc c) h false = refl

  pub among-cut : (xs ys : List ℕ) → ((t : ℕ) → count t xs ≡ cond (sh t) 1 (count t ys)) → ((t : ℕ) → sh t ≡ true → 0 < count t ys)
      → (s k : ℕ) → live_among xs s k ≡ live_among ys s k
  among-cut xs ys h live s zero = refl
  among-cut xs ys h live s (suc k) =
      ap₂ ◌+◌ (ap (λ (c : ℕ). bit_of (is_live c)) (h s) ∙ go (sh s) (count s ys) (live s)) (among-cut xs ys h live (suc s) k)
    where
      go : (a : Bool) (c : ℕ) → (a ≡ true → 0 < c) → bit_of (is_live (cond a 1 c)) ≡ bit_of (is_live c)
      go true zero l = absurd (omega (arith, l refl))
      go true (suc c) l = refl
      go false c l = refl

  pub cut_all : (P Q : ℕ → Gate → Type 0) → ((t : ℕ) (g : Gate) → P t g → Q t (cut sh σ g)) → (s : ℕ) (gs : List Gate)
      → AllFrom no_gate P s gs → AllFrom no_gate Q s (map (cut sh σ) gs)
  cut_all P Q h s [] all j l = absurd (omega arith)
  cut_all P Q h s (g ∷ gs) all zero l = subst (λ (t : ℕ). Q t (cut sh σ g)) (sym (add-zero s)) (h s g (all_head no_gate P s g gs all))
  cut_all P Q h s (g ∷ gs) all (suc j) l =
      let at : suc s + j ≡ s + suc j = omega arith in
      subst (λ (t : ℕ). Q t (get_or (map (cut sh σ) gs) j no_gate)) at (cut_all P Q h (suc s) gs (all_tail no_gate P s g gs all) j (omega arith))
