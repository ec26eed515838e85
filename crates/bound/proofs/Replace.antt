-- The error argument: one gate after another is replaced by an independent bit that is wrong with its rounded failure. Replacing a live gate moves
-- the sum by that gate's own rounding at most, its charge in half units; replacing a dead gate moves nothing. No error is carried through gates.
-- What a gate does is abstract here: at source s, with the pins' errors bs, it is right with the share right_given s g bs and wrong with the share
-- wrong_given s g bs. Assumes nothing.
use Prim.Native.Nat.{ℕ, zero, suc, ◌+◌, ◌*◌, ◌^◌, ◌≤◌, ◌<◌}
use mathlib.Core.Bool.{Bool, true, false, cond}
use mathlib.Core.List.{List, [], ◌∷◌, ◌++◌, map, append-nil}
use mathlib.Core.Path.{◌≡◌, refl, sym, ap, ap₂, fun_ext, ◌∙◌}
use native.Mathlib.Nat.{pow-zero, pow-succ', mul-one, mul-le-mul_left, add-zero, one-le-pow}
use native.Mathlib.Omega.{arith}
use lib.ListN.{length}
use lib.Pow.{pow-add}
use lib.Dec.{eqb}
use Rattle.rounding.specs.Rounding.{Near}
use Rattle.lists.specs.Lists.{count, Below}
use Rattle.lists.proofs.Counts.{count-append}
use Rattle.lists.proofs.Every.{AllFrom, all_head, all_tail}
use Rattle.netlist.specs.Netlist.{Gate, no_gate}
use Rattle.netlist.specs.WellFormed.{GatePinsBelow}
use Rattle.netlist.specs.Live.{is_live, if_live, live_reads_from}
use Rattle.netlist.proofs.Live.{count-outputs}
use Rattle.bound.proofs.Near.{near-at, near-trans, near-scale, near-cancel, replace-mean}
use Rattle.bound.proofs.Mix.{upd, mix, mix-same, mix-linear, mix-add, mix-const, mix-at-most, mix-sure}
use Rattle.bound.proofs.Bits.{ReadsOnly, unread, map-agree, fold_bits, bits-add, bits-const, Once, fold_law}

-- the charges of the live ones of these gates
abbrev pub charges : List ℕ → (Gate → ℕ) → ℕ → List Gate → ℕ
charges outputs charge s [] = 0
charges outputs charge s (g ∷ gs) = if_live (count s (live_reads_from outputs (suc s) gs)) (charge g) + charges outputs charge (suc s) gs

-- a gate at source s by itself: with independent pins it is wrong with the share wrong_given, nearly that of its bit; `charge` in half units, u units in one
abbrev pub Local : ℕ → ℕ → (ℕ → ℕ) → (ℕ → ℕ) → (ℕ → Gate → List Bool → ℕ) → (Gate → ℕ) → ℕ → Gate → Type 0
Local u mass w₀ w₁ wrong_given charge s g =
    Near
    (charge g * (mass ^ length g.pins * mass))
    (2 * (u * (mass ^ length g.pins * w₁ s)))
    (2 * (u * fold_bits w₀ w₁ g.pins (wrong_given s g)))

-- the outputs are folded like a gate's pins; rel is the rounded fold, `charge` half units away at most
module _ (w₀ w₁ : ℕ → ℕ) (mass : ℕ) (sums : (s : ℕ) → w₀ s + w₁ s ≡ mass) (pos : 0 < mass) where
  pub replace-outputs : (u end charge rel : ℕ) (outputs : List ℕ) (all_right : List Bool → ℕ) → Below end outputs → Once w₁ outputs
      → Near (charge * mass ^ length outputs) (2 * (rel * mass ^ length outputs)) (2 * (u * fold_bits w₀ w₁ outputs all_right))
      → Near (charge * mass ^ end) (2 * (rel * mass ^ end)) (2 * (u * mix w₀ w₁ end (λ e. all_right (map e outputs))))
  replace-outputs u end charge rel outputs all_right below once near =
      let P = mass ^ length outputs in
      let φ = fold_bits w₀ w₁ outputs all_right in
      let X = mix w₀ w₁ end (λ e. all_right (map e outputs)) in
      let alone : Once w₁ (outputs ++ []) = λ p h. omega (arith, once p h, ap (count p) (append-nil outputs)) in
      let law : P * mix w₀ w₁ end (λ e. all_right (map e outputs) * 1) ≡ φ * mix w₀ w₁ end (λ e. 1)
      = fold_law w₀ w₁ mass sums end [] (λ e. 1) (λ e e' h. refl) outputs below alone all_right in
      let all : mix w₀ w₁ end (λ e. 1) ≡ mass ^ end = mix-const w₀ w₁ mass sums end 1 ∙ mul-one (mass ^ end) in
      let whole : P * X ≡ φ * mass ^ end
      = ap (λ (z : ℕ). P * z) (mix-same w₀ w₁ end _ _ (λ e. omega arith)) ∙ law ∙ ap (λ (z : ℕ). φ * z) all in
      let e : mass ^ end * (charge * P) ≡ P * (charge * mass ^ end) = omega arith in
      let a : mass ^ end * (2 * (rel * P)) ≡ P * (2 * (rel * mass ^ end)) = omega arith in
      let b : mass ^ end * (2 * (u * φ)) ≡ P * (2 * (u * X)) = omega (arith, ap (λ (z : ℕ). u * z) whole) in
      near-cancel
      P
      (charge * mass ^ end)
      (2 * (rel * mass ^ end))
      (2 * (u * X))
      (one-le-pow (length outputs) mass pos)
      (near-at e a b (near-scale (mass ^ end) near))

module _ (outputs : List ℕ) (all_right : List Bool → ℕ) (right_given wrong_given : ℕ → Gate → List Bool → ℕ) where
  -- the sum over the flips of these gates, from the errors e of the sources before them
  abbrev pub sum_from : ℕ → List Gate → (ℕ → Bool) → ℕ
  sum_from s [] e = all_right (map e outputs)
  sum_from s (g ∷ gs) e =
      right_given s g (map e g.pins) * sum_from (suc s) gs (upd e s false) + wrong_given s g (map e g.pins) * sum_from (suc s) gs (upd e s true)

  module _ (mass : ℕ) (gate-sums : (s : ℕ) (g : Gate) (bs : List Bool) → right_given s g bs + wrong_given s g bs ≡ mass) where
    pub sum-at-most : ((bs : List Bool) → all_right bs ≤ 1) → (s : ℕ) (gs : List Gate) (e : ℕ → Bool) → sum_from s gs e ≤ mass ^ length gs
    sum-at-most one s [] e = omega (arith, pow-zero mass, one (map e outputs))
    sum-at-most one s (g ∷ gs) e =
        let bs = map e g.pins in
        omega (
          arith,
          mul-le-mul_left (right_given s g bs) (sum-at-most one (suc s) gs (upd e s false)),
          mul-le-mul_left (wrong_given s g bs) (sum-at-most one (suc s) gs (upd e s true)),
          ap (λ (z : ℕ). z * mass ^ length gs) (gate-sums s g bs),
          pow-succ' mass (length gs),
        )

    -- a gate that nothing reads leaves its factor alone
    dead-sum : (s : ℕ) (g : Gate) (gs : List Gate) (e : ℕ → Bool) (z : ℕ) → sum_from (suc s) gs (upd e s false) ≡ z → sum_from (suc s) gs (upd e s true) ≡ z
        → sum_from s (g ∷ gs) e ≡ mass * z
    dead-sum s g gs e z f t =
        let bs = map e g.pins in
        ap₂ (λ (x y : ℕ). right_given s g bs * x + wrong_given s g bs * y) f t ∙ omega (arith, ap (λ (k : ℕ). k * z) (gate-sums s g bs))

    -- what follows a dead gate reads it nowhere, and so none of its pins
    reads-dead : (s : ℕ) (g : Gate) (gs : List Gate) (later : List ℕ) → ReadsOnly later (sum_from (suc s) gs) → count s later ≡ 0
        → ReadsOnly later (sum_from s (g ∷ gs))
    reads-dead s g gs later only none e e' h =
        let Z : (ℕ → Bool) → ℕ = sum_from (suc s) gs in
        let f : Z (upd e s false) ≡ Z e = unread later Z only s none e false in
        let t : Z (upd e s true) ≡ Z e = unread later Z only s none e true in
        let f' : Z (upd e' s false) ≡ Z e = unread later Z only s none e' false ∙ sym (only e e' h) in
        let t' : Z (upd e' s true) ≡ Z e = unread later Z only s none e' true ∙ sym (only e e' h) in
        (dead-sum s g gs e (Z e) f t) ∙ sym (dead-sum s g gs e' (Z e) f' t')

    reads_live : (s : ℕ) (g : Gate) (gs : List Gate) (later : List ℕ) → ReadsOnly later (sum_from (suc s) gs)
        → ReadsOnly (g.pins ++ later) (sum_from s (g ∷ gs))
    reads_live s g gs later only e e' h =
        let Z : (ℕ → Bool) → ℕ = sum_from (suc s) gs in
        let pins : map e g.pins ≡ map e' g.pins = map-agree e e' g.pins (λ t k. h t (omega (arith, count-append t g.pins later))) in
        let after : (b : Bool) → Z (upd e s b) ≡ Z (upd e' s b)
        = λ b. only (upd e s b) (upd e' s b) (λ t k. ap (cond (eqb t s) b) (h t (omega (arith, count-append t g.pins later)))) in
        ap₂ ◌+◌ (ap₂ ◌*◌ (ap (right_given s g) pins) (after false)) (ap₂ ◌*◌ (ap (wrong_given s g) pins) (after true))

    -- what follows a gate reads only the live reads after it
    pub sum-reads : (s : ℕ) (gs : List Gate) → ReadsOnly (live_reads_from outputs s gs) (sum_from s gs)
    sum-reads s [] = λ e e' h. ap all_right (map-agree e e' outputs h)
    sum-reads s (g ∷ gs) = go (count s (live_reads_from outputs (suc s) gs)) refl (sum-reads (suc s) gs)
      where
        go : (c : ℕ) → count s (live_reads_from outputs (suc s) gs) ≡ c → ReadsOnly (live_reads_from outputs (suc s) gs) (sum_from (suc s) gs)
            → ReadsOnly (cond (is_live c) (g.pins ++ live_reads_from outputs (suc s) gs) (live_reads_from outputs (suc s) gs)) (sum_from s (g ∷ gs))
        go zero q ih = reads-dead s g gs (live_reads_from outputs (suc s) gs) ih q
        go (suc c) q ih = reads_live s g gs (live_reads_from outputs (suc s) gs) ih

    module _ (w₀ w₁ : ℕ → ℕ) (sums : (s : ℕ) → w₀ s + w₁ s ≡ mass) where
      dead-step : (s : ℕ) (g : Gate) (gs : List Gate) → count s (live_reads_from outputs (suc s) gs) ≡ 0
          → mix w₀ w₁ (suc s) (sum_from (suc s) gs) ≡ mix w₀ w₁ s (sum_from s (g ∷ gs))
      dead-step s g gs none =
          let Z : (ℕ → Bool) → ℕ = sum_from (suc s) gs in
          let free : (b : Bool) (e : ℕ → Bool) → Z (upd e s b) ≡ Z e = λ b e. unread (live_reads_from outputs (suc s) gs) Z (sum-reads (suc s) gs) s none e b in
          let one : mix w₀ w₁ s (sum_from s (g ∷ gs)) ≡ mass * mix w₀ w₁ s Z + 0 * mix w₀ w₁ s Z
          = mix-same w₀ w₁ s _ _ (λ e. dead-sum s g gs e (Z e) (free false e) (free true e) ∙ omega arith) ∙ mix-linear w₀ w₁ s mass 0 Z Z in
          let two : mix w₀ w₁ (suc s) Z ≡ w₀ s * mix w₀ w₁ s Z + w₁ s * mix w₀ w₁ s Z
          = ap₂ (λ (x y : ℕ). w₀ s * x + w₁ s * y) (mix-same w₀ w₁ s _ _ (free false)) (mix-same w₀ w₁ s _ _ (free true)) in
          omega (arith, ap (λ (z : ℕ). z * mix w₀ w₁ s Z) (sums s))

      module _ (pos : 0 < mass) (u : ℕ) (one : (bs : List Bool) → all_right bs ≤ 1) (charge : Gate → ℕ) where
        live-step : (s : ℕ) (g : Gate) (gs : List Gate) → Below s g.pins → Once w₁ (g.pins ++ live_reads_from outputs (suc s) gs)
            → Local u mass w₀ w₁ wrong_given charge s g
            → Near
            (charge g * (mass * (mass ^ s * mass ^ length gs)))
            (2 * (u * mix w₀ w₁ (suc s) (sum_from (suc s) gs)))
            (2 * (u * mix w₀ w₁ s (sum_from s (g ∷ gs))))
        live-step s g gs below once near =
            let ps = g.pins in
            let M : ((ℕ → Bool) → ℕ) → ℕ = mix w₀ w₁ s in
            let A : (ℕ → Bool) → ℕ = λ e. sum_from (suc s) gs (upd e s false) in
            let B : (ℕ → Bool) → ℕ = λ e. sum_from (suc s) gs (upd e s true) in
            let reads : (b : Bool) → ReadsOnly (live_reads_from outputs (suc s) gs) (λ e. sum_from (suc s) gs (upd e s b))
            = λ b e e' h. sum-reads (suc s) gs (upd e s b) (upd e' s b) (λ t k. ap (cond (eqb t s) b) (h t k)) in
            let low : mass ^ length ps * M (λ e. right_given s g (map e ps) * A e) ≡ fold_bits w₀ w₁ ps (right_given s g) * M A
            = fold_law w₀ w₁ mass sums s (live_reads_from outputs (suc s) gs) A (reads false) ps below once (right_given s g) in
            let high : mass ^ length ps * M (λ e. wrong_given s g (map e ps) * B e) ≡ fold_bits w₀ w₁ ps (wrong_given s g) * M B
            = fold_law w₀ w₁ mass sums s (live_reads_from outputs (suc s) gs) B (reads true) ps below once (wrong_given s g) in
            let parts : M (sum_from s (g ∷ gs)) ≡ M (λ e. right_given s g (map e ps) * A e) + M (λ e. wrong_given s g (map e ps) * B e)
            = mix-add w₀ w₁ s (λ e. right_given s g (map e ps) * A e) (λ e. wrong_given s g (map e ps) * B e) in
            let whole : fold_bits w₀ w₁ ps (right_given s g) + fold_bits w₀ w₁ ps (wrong_given s g) ≡ mass ^ length ps * mass
            = sym (bits-add w₀ w₁ ps (right_given s g) (wrong_given s g))
            ∙ ap (fold_bits w₀ w₁ ps) (fun_ext (gate-sums s g))
            ∙ bits-const w₀ w₁ mass sums ps mass in
            replace-mean
            u
            (charge g)
            (mass ^ length ps)
            mass
            (mass ^ s * mass ^ length gs)
            (w₀ s)
            (w₁ s)
            (fold_bits w₀ w₁ ps (right_given s g))
            (fold_bits w₀ w₁ ps (wrong_given s g))
            (M A)
            (M B)
            (M (sum_from s (g ∷ gs)))
            (mix w₀ w₁ (suc s) (sum_from (suc s) gs))
            (one-le-pow (length ps) mass pos)
            (sums s)
            whole
            near
            (mix-at-most w₀ w₁ mass sums s (mass ^ length gs) A (λ e. sum-at-most one (suc s) gs (upd e s false)))
            (mix-at-most w₀ w₁ mass sums s (mass ^ length gs) B (λ e. sum-at-most one (suc s) gs (upd e s true)))
            (omega (arith, ap (λ (z : ℕ). mass ^ length ps * z) parts))
            refl

        -- a live gate costs its charge, a dead one nothing
        step : (s : ℕ) (g : Gate) (gs : List Gate) (end : ℕ) → s + suc (length gs) ≡ end → Below s g.pins → Local u mass w₀ w₁ wrong_given charge s g
            → (c : ℕ) → count s (live_reads_from outputs (suc s) gs) ≡ c
            → Once w₁ (cond (is_live c) (g.pins ++ live_reads_from outputs (suc s) gs) (live_reads_from outputs (suc s) gs))
            → Near
            (if_live c (charge g) * mass ^ end)
            (2 * (u * mix w₀ w₁ (suc s) (sum_from (suc s) gs)))
            (2 * (u * mix w₀ w₁ s (sum_from s (g ∷ gs))))
        step s g gs end e below near zero none once =
            let same = ap (λ (z : ℕ). u * z) (dead-step s g gs none) in
            omega arith
        step s g gs end e below near (suc c) some once =
            let full : mass * (mass ^ s * mass ^ length gs) ≡ mass ^ end
            = omega (arith, pow-add mass s (suc (length gs)), ap (λ (k : ℕ). mass ^ k) e, ap (λ (z : ℕ). mass ^ s * z) (pow-succ' mass (length gs))) in
            near-at (ap (λ (z : ℕ). charge g * z) full) refl refl (live-step s g gs below once near)

        later-once : (c : ℕ) (ps rs : List ℕ) → Once w₁ (cond (is_live c) (ps ++ rs) rs) → Once w₁ rs
        later-once zero ps rs once p h = once p h
        later-once (suc c) ps rs once p h = omega (arith, once p h, count-append p ps rs)

        -- all gates replaced, the first first
        pub replace-all : (s : ℕ) (gs : List Gate) (end : ℕ) → s + length gs ≡ end → AllFrom no_gate GatePinsBelow s gs
            → AllFrom no_gate (Local u mass w₀ w₁ wrong_given charge) s gs → Once w₁ (live_reads_from outputs s gs)
            → Near
            (charges outputs charge s gs * mass ^ end)
            (2 * (u * mix w₀ w₁ end (λ e. all_right (map e outputs))))
            (2 * (u * mix w₀ w₁ s (sum_from s gs)))
        replace-all s [] end e below near once =
            let same : mix w₀ w₁ end (λ e. all_right (map e outputs)) ≡ mix w₀ w₁ s (λ e. all_right (map e outputs))
            = ap (λ (k : ℕ). mix w₀ w₁ k (λ e. all_right (map e outputs))) (sym e ∙ add-zero s) in
            omega (arith, ap (λ (z : ℕ). u * z) same)
        replace-all s (g ∷ gs) end e below near once =
            let c = count s (live_reads_from outputs (suc s) gs) in
            let pins = all_head no_gate GatePinsBelow s g gs below in
            let own = all_head no_gate (Local u mass w₀ w₁ wrong_given charge) s g gs near in
            let first = step s g gs end e pins own c refl once in
            let others =
            replace-all
            (suc s)
            gs
            end
            (omega arith)
            (all_tail no_gate GatePinsBelow s g gs below)
            (all_tail no_gate (Local u mass w₀ w₁ wrong_given charge) s g gs near)
            (later-once c g.pins (live_reads_from outputs (suc s) gs) once) in
            near-at (omega arith) refl refl (near-trans others first)

        -- the general bound: n inputs that are never wrong, then these gates, then the outputs, each with a charge that it keeps by itself
        pub replaced : (n : ℕ) (gs : List Gate) (out rel : ℕ) → ((t : ℕ) → t < n → w₁ t ≡ 0) → AllFrom no_gate GatePinsBelow n gs → Below (n + length gs) outputs
            → AllFrom no_gate (Local u mass w₀ w₁ wrong_given charge) n gs → Once w₁ (live_reads_from outputs n gs)
            → Near (out * mass ^ length outputs) (2 * (rel * mass ^ length outputs)) (2 * (u * fold_bits w₀ w₁ outputs all_right))
            → Near
            ((charges outputs charge n gs + out) * mass ^ length gs)
            (2 * (rel * mass ^ length gs))
            (2 * (u * sum_from n gs (λ t. false)))
        replaced n gs out rel sure below outs near once outs-near =
            let G = length gs in
            let c = charges outputs charge n gs in
            let M : ℕ = mass ^ (n + G) in
            let K : ℕ = mass ^ n in
            let all : ℕ = mix w₀ w₁ (n + G) (λ e. all_right (map e outputs)) in
            let outs-once : Once w₁ outputs = λ p h. omega (arith, once p h, count-outputs p outputs n gs) in
            let last : Near (out * M) (2 * (rel * M)) (2 * (u * all))
            = replace-outputs w₀ w₁ mass sums pos u (n + G) out rel outputs all_right outs outs-once outs-near in
            let first : Near (c * M) (2 * (u * all)) (2 * (u * mix w₀ w₁ n (sum_from n gs))) = replace-all n gs (n + G) refl below near once in
            let scale : M ≡ K * mass ^ G = pow-add mass n G in
            let e : out * M + c * M ≡ K * ((c + out) * mass ^ G) = ap (λ (z : ℕ). out * z + c * z) scale ∙ omega arith in
            let a : 2 * (rel * M) ≡ K * (2 * (rel * mass ^ G)) = ap (λ (z : ℕ). 2 * (rel * z)) scale ∙ omega arith in
            let b : 2 * (u * mix w₀ w₁ n (sum_from n gs)) ≡ K * (2 * (u * sum_from n gs (λ t. false)))
            = ap (λ (z : ℕ). 2 * (u * z)) (mix-sure w₀ w₁ mass sums n sure (sum_from n gs)) ∙ omega arith in
            near-cancel
            K
            ((c + out) * mass ^ G)
            (2 * (rel * mass ^ G))
            (2 * (u * sum_from n gs (λ t. false)))
            (one-le-pow n mass pos)
            (near-at e a b (near-trans last first))
