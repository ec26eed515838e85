-- Fixed suppositions: sources that are supposed right or wrong. sh says which sources are supposed, σ which of them wrong. The sum over errors, where
-- every supposed source is as supposed, is that of gates whose pins on supposed sources are left out. Assumes nothing.
use Prim.Native.Nat.{ℕ, zero, suc, ◌+◌, ◌*◌, ◌≤◌, ◌<◌}
use mathlib.Core.Bool.{Bool, true, false, cond, not, beq}
use mathlib.Core.List.{List, [], ◌∷◌, ◌++◌, map}
use mathlib.Core.Path.{◌≡◌, refl, sym, ap, ap₂, subst, fun_ext, ◌∙◌}
use mathlib.Core.Logic.{⊎_elim}
use native.Mathlib.Nat.{eq-or-lt_of_le, le_of_suc-le-suc}
use native.Mathlib.Omega.{arith}
use lib.ListN.{length}
use lib.Dec.{eqb}
use borrow.Author.Tests.{eqb-true}
use Rattle.figure.specs.Figure.{bit_of}
use Rattle.netlist.specs.Netlist.{Gate, no_gate, first_flip, other_flips}
use Rattle.lists.specs.Lists.{Below}
use Rattle.netlist.specs.Exact.{sum_over_flips}
use Rattle.suppose.specs.Suppose.{is_supposed, supposed_wrong}
use Rattle.netlist.specs.WellFormed.{GatePinsBelow}
use Rattle.lists.proofs.Every.{below-tail, AllFrom, all_head, all_tail}
use Rattle.bound.proofs.Mix.{upd, upd_same, upd_other}
use Rattle.bound.proofs.Replace.{sum_from}

-- the sum over the flips of these gates with any last factor F of the errors
module _ (R W : ℕ → Gate → List Bool → ℕ) where
  abbrev pub sum_of : ((ℕ → Bool) → ℕ) → ℕ → List Gate → (ℕ → Bool) → ℕ
  sum_of F s [] e = F e
  sum_of F s (g ∷ gs) e = R s g (map e g.pins) * sum_of F (suc s) gs (upd e s false) + W s g (map e g.pins) * sum_of F (suc s) gs (upd e s true)

  pub sum_is : (outputs : List ℕ) (all_right : List Bool → ℕ) (s : ℕ) (gs : List Gate) (e : ℕ → Bool)
      → sum_from outputs all_right R W s gs e ≡ sum_of (λ e. all_right (map e outputs)) s gs e
  sum_is outputs all_right s [] e = refl
  sum_is outputs all_right s (g ∷ gs) e =
      ap₂
      (λ (x y : ℕ). R s g (map e g.pins) * x + W s g (map e g.pins) * y)
      (sum_is outputs all_right (suc s) gs (upd e s false))
      (sum_is outputs all_right (suc s) gs (upd e s true))

  pub sum-add : (F H : (ℕ → Bool) → ℕ) (s : ℕ) (gs : List Gate) (e : ℕ → Bool) → sum_of (λ e. F e + H e) s gs e ≡ sum_of F s gs e + sum_of H s gs e
  sum-add F H s [] e = refl
  sum-add F H s (g ∷ gs) e =
      let r = R s g (map e g.pins) in
      let w = W s g (map e g.pins) in
      ap₂ (λ (x y : ℕ). r * x + w * y) (sum-add F H (suc s) gs (upd e s false)) (sum-add F H (suc s) gs (upd e s true)) ∙ omega arith

  -- all sets of k suppositions, outside and inside
  pub sum-swap : (k : ℕ) (F : List Bool → (ℕ → Bool) → ℕ) (s : ℕ) (gs : List Gate) (e : ℕ → Bool)
      → sum_over_flips k (λ bs. sum_of (F bs) s gs e) ≡ sum_of (λ e. sum_over_flips k (λ bs. F bs e)) s gs e
  sum-swap zero F s gs e = refl
  sum-swap (suc k) F s gs e =
      ap₂ ◌+◌ (sum-swap k (λ bs. F (false ∷ bs)) s gs e) (sum-swap k (λ bs. F (true ∷ bs)) s gs e)
      ∙ sym (sum-add (λ e. sum_over_flips k (λ bs. F (false ∷ bs) e)) (λ e. sum_over_flips k (λ bs. F (true ∷ bs) e)) s gs e)

-- T of the errors that are left, if the first ones are as supposed
abbrev pub checks : List ℕ → List Bool → (List Bool → ℕ) → List Bool → ℕ
checks [] bs T xs = T xs
checks (s ∷ ss) bs T xs = cond (beq (first_flip bs) (first_flip xs)) (checks ss (other_flips bs) T (other_flips xs)) 0

-- exactly one set of suppositions is met
pub checks-part : (ss : List ℕ) (T : List Bool → ℕ) (e : ℕ → Bool) (os : List ℕ)
    → sum_over_flips (length ss) (λ bs. checks ss bs T (map e (ss ++ os))) ≡ T (map e os)
checks-part [] T e os = refl
checks-part (s ∷ ss) T e os = go (e s) (checks-part ss T e os)
  where
    none : (k : ℕ) → sum_over_flips k (λ bs. 0) ≡ 0
    none zero = refl
    none (suc k) = ap₂ ◌+◌ (none k) (none k)

    go : (b : Bool) → sum_over_flips (length ss) (λ bs. checks ss bs T (map e (ss ++ os))) ≡ T (map e os)
        → sum_over_flips (length ss) (λ bs. cond (beq false b) (checks ss bs T (map e (ss ++ os))) 0)
        + sum_over_flips (length ss) (λ bs. cond (beq true b) (checks ss bs T (map e (ss ++ os))) 0)
        ≡ T (map e os)
    go false ih = omega (arith, none (length ss))
    go true ih = omega (arith, none (length ss))

-- the partition of the sum: by the errors of the sources ss
module _ (R W : ℕ → Gate → List Bool → ℕ) where
  pub partition : (ss outputs : List ℕ) (all_right : List Bool → ℕ) (s : ℕ) (gs : List Gate) (e : ℕ → Bool)
      → sum_over_flips (length ss) (λ bs. sum_from (ss ++ outputs) (checks ss bs all_right) R W s gs e) ≡ sum_from outputs all_right R W s gs e
  partition ss outputs all_right s gs e =
      ap (sum_over_flips (length ss)) (fun_ext (λ bs. sum_is R W (ss ++ outputs) (checks ss bs all_right) s gs e))
      ∙ sum-swap R W (length ss) (λ bs e. checks ss bs all_right (map e (ss ++ outputs))) s gs e
      ∙ ap (λ (F : (ℕ → Bool) → ℕ). sum_of R W F s gs e) (fun_ext (λ e. checks-part ss all_right e outputs))
      ∙ sym (sum_is R W outputs all_right s gs e)

module _ (sh σ : ℕ → Bool) where
  -- a source's error as its readers see it
  abbrev pub view : (ℕ → Bool) → ℕ → Bool
  view e p = cond (sh p) (σ p) (e p)

  -- the sources that are not supposed, and the errors of all from theirs
  abbrev pub kept : List ℕ → List ℕ
  kept [] = []
  kept (p ∷ ps) = cond (sh p) (kept ps) (p ∷ kept ps)

  abbrev pub fill : List ℕ → List Bool → List Bool
  fill [] bs = []
  fill (p ∷ ps) bs = cond (sh p) (σ p ∷ fill ps bs) (first_flip bs ∷ fill ps (other_flips bs))

  pub fill-kept : (e : ℕ → Bool) (ps : List ℕ) → fill ps (map e (kept ps)) ≡ map (view e) ps
  fill-kept e [] = refl
  fill-kept e (p ∷ ps) = go (sh p) (fill-kept e ps)
    where
      go : (c : Bool) → fill ps (map e (kept ps)) ≡ map (view e) ps
          → cond
          c
          (σ p ∷ fill ps (map e (cond c (kept ps) (p ∷ kept ps))))
          (first_flip (map e (cond c (kept ps) (p ∷ kept ps))) ∷ fill ps (other_flips (map e (cond c (kept ps) (p ∷ kept ps)))))
          ≡ cond c (σ p) (e p) ∷ map (view e) ps
      go true ih = ap (◌∷◌ (σ p)) ih
      go false ih = ap (◌∷◌ (e p)) ih

  -- the errors of sources below s are as supposed
  abbrev pub Agrees : ℕ → (ℕ → Bool) → Type 0
  Agrees s e = (t : ℕ) → t < s → sh t ≡ true → e t ≡ σ t

  view-same : (s : ℕ) (e : ℕ → Bool) → Agrees s e → (ps : List ℕ) → Below s ps → map (view e) ps ≡ map e ps
  view-same s e agrees [] below = refl
  view-same s e agrees (p ∷ ps) below = ap₂ ◌∷◌ (go (sh p) refl) (view-same s e agrees ps (below-tail s p ps below))
    where
      go : (c : Bool) → sh p ≡ c → cond c (σ p) (e p) ≡ e p
      go true q = sym (agrees p (below 0 (omega arith)) q)
      go false q = refl

  -- F is nothing where a supposed source is not as supposed
  abbrev pub Vanishes : ((ℕ → Bool) → ℕ) → Type 0
  Vanishes F = (t : ℕ) → sh t ≡ true → (e : ℕ → Bool) → e t ≡ not (σ t) → F e ≡ 0

  vanish : (R W : ℕ → Gate → List Bool → ℕ) (F : (ℕ → Bool) → ℕ) → Vanishes F → (t : ℕ) → sh t ≡ true → (s : ℕ) → t < s → (gs : List Gate) (e : ℕ → Bool)
      → e t ≡ not (σ t) → sum_of R W F s gs e ≡ 0
  vanish R W F v t h s l [] e q = v t h e q
  vanish R W F v t h s l (g ∷ gs) e q =
      let next : (b : Bool) → sum_of R W F (suc s) gs (upd e s b) ≡ 0
      = λ b. vanish R W F v t h (suc s) (omega arith) gs (upd e s b) (upd_other e s t b (λ z. omega arith) ∙ q) in
      ap₂ (λ (x y : ℕ). R s g (map e g.pins) * x + W s g (map e g.pins) * y) (next false) (next true) ∙ omega arith

  agrees-next : (s : ℕ) (e : ℕ → Bool) (b : Bool) → Agrees s e → (sh s ≡ true → b ≡ σ s) → Agrees (suc s) (upd e s b)
  agrees-next s e b agrees here t l h = ⊎_elim last earlier (eq-or-lt_of_le (le_of_suc-le-suc l))
    where
      last : t ≡ s → upd e s b t ≡ σ t
      last z = subst (λ (k : ℕ). upd e s b k ≡ σ k) (sym z) (upd_same e s b ∙ here (subst (λ (k : ℕ). sh k ≡ true) z h))

      earlier : t < s → upd e s b t ≡ σ t
      earlier k = upd_other e s t b (λ z. omega arith) ∙ agrees t k h

  -- a gate without its pins on supposed sources
  abbrev pub cut : Gate → Gate
  cut g = record { pins = kept g.pins; table = g.table; kind = g.kind; chance = g.chance }

  -- what it does with the errors of the pins that are left: gate_of has the gate itself
  abbrev pub given : (ℕ → Gate) → (ℕ → Gate → List Bool → ℕ) → ℕ → Gate → List Bool → ℕ
  given gate_of X s g bs = X s (gate_of s) (fill (gate_of s).pins bs)

  module _ (gate_of : ℕ → Gate) (R W : ℕ → Gate → List Bool → ℕ) where
    pub cut_sum : (F : (ℕ → Bool) → ℕ) → Vanishes F → (s : ℕ) (gs : List Gate) (e : ℕ → Bool) → Agrees s e
        → AllFrom no_gate GatePinsBelow s gs → AllFrom no_gate (λ t g. gate_of t ≡ g) s gs
        → sum_of R W F s gs e ≡ sum_of (given gate_of R) (given gate_of W) F s (map cut gs) e
    cut_sum F v s [] e agrees below are = refl
    cut_sum F v s (g ∷ gs) e agrees below are =
        let next : (b : Bool) → (sh s ≡ true → b ≡ σ s)
        → sum_of R W F (suc s) gs (upd e s b) ≡ sum_of (given gate_of R) (given gate_of W) F (suc s) (map cut gs) (upd e s b)
        = λ b h.
        cut_sum
        F
        v
        (suc s)
        gs
        (upd e s b)
        (agrees-next s e b agrees h)
        (all_tail no_gate GatePinsBelow s g gs below)
        (all_tail no_gate (λ t g. gate_of t ≡ g) s g gs are) in
        ap₂ ◌+◌ (ap₂ ◌*◌ (same R) (branch false (next false) (sh s) refl)) (ap₂ ◌*◌ (same W) (branch true (next true) (sh s) refl))
      where
        same : (X : ℕ → Gate → List Bool → ℕ) → X s g (map e g.pins) ≡ given gate_of X s (cut g) (map e (kept g.pins))
        same X =
            subst
            (λ (h : Gate). X s g (map e g.pins) ≡ X s h (fill h.pins (map e (kept g.pins))))
            (sym (all_head no_gate (λ t g. gate_of t ≡ g) s g gs are))
            (ap (X s g) (sym (fill-kept e g.pins ∙ view-same s e agrees g.pins (all_head no_gate GatePinsBelow s g gs below))))

        Same : Bool → Type 0
        Same b = sum_of R W F (suc s) gs (upd e s b) ≡ sum_of (given gate_of R) (given gate_of W) F (suc s) (map cut gs) (upd e s b)

        other : (b : Bool) → sh s ≡ true → b ≡ not (σ s) → Same b
        other b h q =
            vanish R W F v s h (suc s) (omega arith) gs (upd e s b) (upd_same e s b ∙ q)
            ∙ sym (vanish (given gate_of R) (given gate_of W) F v s h (suc s) (omega arith) (map cut gs) (upd e s b) (upd_same e s b ∙ q))

        either : (b : Bool) → ((sh s ≡ true → b ≡ σ s) → Same b) → (c : Bool) → σ s ≡ c → sh s ≡ true → Same b
        either true next true q h = next (λ k. sym q)
        either false next false q h = next (λ k. sym q)
        either true next false q h = other true h (ap not (sym q))
        either false next true q h = other false h (ap not (sym q))

        branch : (b : Bool) → ((sh s ≡ true → b ≡ σ s) → Same b) → (c : Bool) → sh s ≡ c → Same b
        branch b next true h = either b next (σ s) refl h
        branch b next false h = next (λ k. absurd (no (sym h ∙ k)))
          where
            no : false ≡ true → ⊥
            no z = subst (λ (x : Bool). cond x ⊥ (Unit {0})) z tt

-- every source of ss has the error that is supposed
abbrev pub Meets : List ℕ → List Bool → (ℕ → Bool) → Type 0
Meets ss bs e = (t : ℕ) → is_supposed ss t ≡ true → e t ≡ supposed_wrong ss bs t

meets-more : (s : ℕ) (ss : List ℕ) (bs : List Bool) (e : ℕ → Bool) → first_flip bs ≡ e s → Meets ss (other_flips bs) e → Meets (s ∷ ss) bs e
meets-more s ss bs e here others t = go (eqb t s) refl
  where
    go : (c : Bool) → eqb t s ≡ c → cond c true (is_supposed ss t) ≡ true → e t ≡ cond c (first_flip bs) (supposed_wrong ss (other_flips bs) t)
    go true q h = ap e (eqb-true t s q) ∙ sym here
    go false q h = others t h

-- checks look at what is left only where the sources are as supposed
pub checks-where : (ss : List ℕ) (bs : List Bool) (e : ℕ → Bool) (T H : List Bool → ℕ) (os ks : List ℕ) → (Meets ss bs e → T (map e os) ≡ H (map e ks))
    → checks ss bs T (map e (ss ++ os)) ≡ checks ss bs H (map e (ss ++ ks))
checks-where [] bs e T H os ks same = same (λ t h. absurd (omega (arith, ap bit_of h)))
checks-where (s ∷ ss) bs e T H os ks same =
    go (first_flip bs) (e s) refl refl (λ q. checks-where ss (other_flips bs) e T H os ks (λ others. same (meets-more s ss bs e q others)))
  where
    go : (a b : Bool) → first_flip bs ≡ a → e s ≡ b
        → (first_flip bs ≡ e s → checks ss (other_flips bs) T (map e (ss ++ os)) ≡ checks ss (other_flips bs) H (map e (ss ++ ks)))
        → cond (beq a b) (checks ss (other_flips bs) T (map e (ss ++ os))) 0 ≡ cond (beq a b) (checks ss (other_flips bs) H (map e (ss ++ ks))) 0
    go true true p q ih = ih (p ∙ sym q)
    go false false p q ih = ih (p ∙ sym q)
    go true false p q ih = refl
    go false true p q ih = refl

pub checks-map : (φ : ℕ → ℕ) → φ 0 ≡ 0 → (ss : List ℕ) (bs : List Bool) (T : List Bool → ℕ) (xs : List Bool)
    → checks ss bs (λ xs. φ (T xs)) xs ≡ φ (checks ss bs T xs)
checks-map φ z [] bs T xs = refl
checks-map φ z (s ∷ ss) bs T xs = go (beq (first_flip bs) (first_flip xs)) (checks-map φ z ss (other_flips bs) T (other_flips xs))
  where
    go : (c : Bool) → checks ss (other_flips bs) (λ xs. φ (T xs)) (other_flips xs) ≡ φ (checks ss (other_flips bs) T (other_flips xs))
        → cond c (checks ss (other_flips bs) (λ xs. φ (T xs)) (other_flips xs)) 0 ≡ φ (cond c (checks ss (other_flips bs) T (other_flips xs)) 0)
    go true ih = ih
    go false ih = sym z

pub checks-vanish : (ss : List ℕ) (bs : List Bool) (T : List Bool → ℕ) (os : List ℕ)
    → Vanishes (is_supposed ss) (supposed_wrong ss bs) (λ e. checks ss bs T (map e (ss ++ os)))
checks-vanish ss bs T os t h e q =
    checks-where ss bs e T (λ xs. 0) os os (λ meets. absurd (no (e t) (supposed_wrong ss bs t) (meets t h) q))
    ∙ checks-map (λ x. 0) refl ss bs T (map e (ss ++ os))
  where
    no : (a b : Bool) → a ≡ b → a ≡ not b → ⊥
    no a true x y = omega (arith, ap bit_of x, ap bit_of y)
    no a false x y = omega (arith, ap bit_of x, ap bit_of y)

pub checks-at-most : (ss : List ℕ) (bs : List Bool) (T : List Bool → ℕ) → ((xs : List Bool) → T xs ≤ 1) → (xs : List Bool) → checks ss bs T xs ≤ 1
checks-at-most [] bs T h xs = h xs
checks-at-most (s ∷ ss) bs T h xs = go (beq (first_flip bs) (first_flip xs)) (checks-at-most ss (other_flips bs) T h (other_flips xs))
  where
    go : (c : Bool) → checks ss (other_flips bs) T (other_flips xs) ≤ 1 → cond c (checks ss (other_flips bs) T (other_flips xs)) 0 ≤ 1
    go true l = l
    go false l = omega arith

-- THE SUM FOR ONE SET OF SUPPOSITIONS: every output right and every source of ss as supposed. It is the sum of the gates without their pins on ss,
-- with each source of ss checked once and the outputs on ss settled
pub fixed-sum : (R W : ℕ → Gate → List Bool → ℕ) (gate_of : ℕ → Gate) (ss : List ℕ) (bs : List Bool) (outputs : List ℕ) (T : List Bool → ℕ)
    (s : ℕ) (gs : List Gate) (e : ℕ → Bool)
    → Agrees (is_supposed ss) (supposed_wrong ss bs) s e → AllFrom no_gate GatePinsBelow s gs → AllFrom no_gate (λ t g. gate_of t ≡ g) s gs
    → Below (s + length gs) outputs
    → sum_from (ss ++ outputs) (checks ss bs T) R W s gs e
    ≡ sum_from
    (ss ++ kept (is_supposed ss) (supposed_wrong ss bs) outputs)
    (checks ss bs (λ xs. T (fill (is_supposed ss) (supposed_wrong ss bs) outputs xs)))
    (given (is_supposed ss) (supposed_wrong ss bs) gate_of R)
    (given (is_supposed ss) (supposed_wrong ss bs) gate_of W)
    s
    (map (cut (is_supposed ss) (supposed_wrong ss bs)) gs)
    e
fixed-sum R W gate_of ss bs outputs T s gs e agrees below are outs =
    let sh = is_supposed ss in
    let σ = supposed_wrong ss bs in
    let F : (ℕ → Bool) → ℕ = λ e. checks ss bs T (map e (ss ++ outputs)) in
    let leaf : (e : ℕ → Bool) → F e ≡ checks ss bs (λ xs. T (fill sh σ outputs xs)) (map e (ss ++ kept sh σ outputs))
    = λ e.
    checks-where ss bs e T (λ xs. T (fill sh σ outputs xs)) outputs (kept sh σ outputs) (λ meets.
    ap T (sym (fill-kept sh σ e outputs ∙ view-same sh σ (s + length gs) e (λ t l h. meets t h) outputs outs))) in
    sum_is R W (ss ++ outputs) (checks ss bs T) s gs e
    ∙ cut_sum sh σ gate_of R W F (checks-vanish ss bs T outputs) s gs e agrees below are
    ∙ ap (λ (H : (ℕ → Bool) → ℕ). sum_of (given sh σ gate_of R) (given sh σ gate_of W) H s (map (cut sh σ) gs) e) (fun_ext leaf)
    ∙ sym
    (sum_is
    (given sh σ gate_of R)
    (given sh σ gate_of W)
    (ss ++ kept sh σ outputs)
    (checks ss bs (λ xs. T (fill sh σ outputs xs)))
    s
    (map (cut sh σ) gs)
    e)
