-- The sum over flip patterns is the sum over errors: a gate's value is its right value, inverted where the gate is wrong. Assumes nothing.
use Prim.Native.Nat.{ℕ, zero, suc, ◌+◌, ◌-◌, ◌*◌, ◌^◌, ◌≤◌, ◌<◌}
use mathlib.Core.Bool.{Bool, true, false, cond, not, ◌&&◌, beq}
use mathlib.Core.List.{List, [], ◌∷◌, ◌++◌, map}
use mathlib.Core.Path.{◌≡◌, refl, sym, ap, ap₂, subst, fun_ext, ◌∙◌}
use mathlib.Core.Logic.{⊎_elim}
use native.Mathlib.Nat.{pow-zero, pow-succ', mul-zero, eq-or-lt_of_le, le_of_suc-le-suc}
use native.Mathlib.Omega.{arith}
use lib.ListN.{length, get_or, length-append, get_or-append}
use lib.Seq.{get_or_at}
use lib.Arith.{sub-sub_self}
use Rattle.figure.specs.Figure.{invert_if, inverted, answer}
use Rattle.lists.specs.Lists.{Below}
use Rattle.lists.proofs.Every.{below-tail, AllFrom, all_head, all_tail}
use Rattle.netlist.specs.Netlist.{Gate, no_gate, pin_values, values}
use Rattle.netlist.specs.WellFormed.{GatePinsBelow}
use Rattle.netlist.specs.Exact.{sum_over_flips, pattern_chance, outputs_agree}
use Rattle.bound.proofs.Mix.{upd, upd_same, upd_other}
use Rattle.bound.proofs.Replace.{sum_from}
use Rattle.bound.proofs.Shares.{if_right, unmoved, keep_share, flip_share, right_given, wrong_given}

pub sum-scale : (k c : ℕ) (F : List Bool → ℕ) → sum_over_flips k (λ flips. c * F flips) ≡ c * sum_over_flips k F
sum-scale zero c F = refl
sum-scale (suc k) c F = omega (arith, sum-scale k c (λ flips. F (false ∷ flips)), sum-scale k c (λ flips. F (true ∷ flips)))

cond-scale : (b : Bool) (c x : ℕ) → cond b (c * x) 0 ≡ c * cond b x 0
cond-scale true c x = refl
cond-scale false c x = sym (mul-zero c)

spread : (u p k c f t : ℕ) → u * p * (k * f + c * t) ≡ u * k * (p * f) + u * c * (p * t)
spread u p k c f t = omega arith

-- vs are the values of the sources below s, right ones in rs inverted where e says wrong
abbrev pub Wrong : List Bool → ℕ → List Bool → (ℕ → Bool) → Type 0
Wrong rs s vs e = (i : ℕ) → i < s → get_or vs i false ≡ invert_if (e i) (get_or rs i false)

pins-wrong : (rs : List Bool) (s : ℕ) (vs : List Bool) (e : ℕ → Bool) → Wrong rs s vs e → (ps : List ℕ) → Below s ps
    → pin_values vs ps ≡ inverted (pin_values rs ps) (map e ps)
pins-wrong rs s vs e h [] below = refl
pins-wrong rs s vs e h (p ∷ ps) below = ap₂ ◌∷◌ (h p (below 0 (omega arith))) (pins-wrong rs s vs e h ps (below-tail s p ps below))

outputs-wrong : (rs : List Bool) (s : ℕ) (vs : List Bool) (e : ℕ → Bool) → Wrong rs s vs e → (os : List ℕ) → Below s os
    → cond (outputs_agree os vs rs) 1 0 ≡ if_right 1 (map e os)
outputs-wrong rs s vs e h [] below = refl
outputs-wrong rs s vs e h (o ∷ os) below =
    ap (λ (v : Bool). cond (beq v (get_or rs o false) && outputs_agree os vs rs) 1 0) (h o (below 0 (omega arith)))
    ∙ go (e o) (get_or rs o false) (outputs-wrong rs s vs e h os (below-tail s o os below))
  where
    go : (b r : Bool) → cond (outputs_agree os vs rs) 1 0 ≡ if_right 1 (map e os)
        → cond (beq (invert_if b r) r && outputs_agree os vs rs) 1 0 ≡ cond b 0 (if_right 1 (map e os))
    go true true ih = refl
    go true false ih = refl
    go false true ih = ih
    go false false ih = ih

-- rs has at source t the right value of gate g
abbrev pub RightAt : List Bool → ℕ → Gate → Type 0
RightAt rs t g = get_or rs t false ≡ answer g.table (pin_values rs g.pins)

-- a gate is wrong if it flips and its answer is unmoved, or does not flip and its answer is moved
abbrev wrong_bit : Bool → Bool → Bool
wrong_bit true flip = flip
wrong_bit false flip = not flip

bit-value : (flip a r : Bool) → invert_if flip a ≡ invert_if (wrong_bit (beq a r) flip) r
bit-value true true true = refl
bit-value true true false = refl
bit-value true false true = refl
bit-value true false false = refl
bit-value false true true = refl
bit-value false true false = refl
bit-value false false true = refl
bit-value false false false = refl

wrong-next : (rs : List Bool) (s : ℕ) (vs : List Bool) (e : ℕ → Bool) → length vs ≡ s → Wrong rs s vs e → (v b : Bool) → v ≡ invert_if b (get_or rs s false)
    → Wrong rs (suc s) (vs ++ (v ∷ [])) (upd e s b)
wrong-next rs s vs e size h v b here i l = ⊎_elim last earlier (eq-or-lt_of_le (le_of_suc-le-suc l))
  where
    last : i ≡ s → get_or (vs ++ (v ∷ [])) i false ≡ invert_if (upd e s b i) (get_or rs i false)
    last q =
        subst
        (λ (t : ℕ). get_or (vs ++ (v ∷ [])) t false ≡ invert_if (upd e s b t) (get_or rs t false))
        (sym q)
        (get_or_at vs v [] false s size ∙ here ∙ ap (λ (c : Bool). invert_if c (get_or rs s false)) (sym (upd_same e s b)))

    earlier : i < s → get_or (vs ++ (v ∷ [])) i false ≡ invert_if (upd e s b i) (get_or rs i false)
    earlier k =
        get_or-append vs (v ∷ []) false i (omega arith)
        ∙ h i k
        ∙ ap (λ (c : Bool). invert_if c (get_or rs i false)) (sym (upd_other e s i b (λ q. omega arith)))

module _ (u d : ℕ) (outputs : List ℕ) (rs : List Bool) where
  abbrev pub outputs_right : List Gate → List Bool → List Bool → Bool
  outputs_right gs vs flips = outputs_agree outputs (values gs flips vs) rs

  -- the chances of the flip patterns of these gates under which every output is right, from the values vs
  abbrev pub flip_sum : List Gate → List Bool → ℕ
  flip_sum gs vs = sum_over_flips (length gs) (λ flips. cond (outputs_right gs vs flips) (pattern_chance d gs flips) 0)

  -- the sum over errors of the gates from source s on, from errors of the sources before them
  abbrev pub errors_from : ℕ → List Gate → (ℕ → Bool) → ℕ
  errors_from = sum_from outputs (if_right 1) (λ t. right_given u d rs) (λ t. wrong_given u d rs)

  flips-scale : (gs : List Gate) (vs : List Bool) (c : ℕ)
      → sum_over_flips (length gs) (λ flips. cond (outputs_right gs vs flips) (c * pattern_chance d gs flips) 0) ≡ c * flip_sum gs vs
  flips-scale gs vs c =
      ap (sum_over_flips (length gs)) (fun_ext (λ flips. cond-scale (outputs_right gs vs flips) c (pattern_chance d gs flips))) ∙ sum-scale (length gs) c _

  flips-first : (g : Gate) (gs : List Gate) (vs : List Bool)
      → flip_sum (g ∷ gs) vs
      ≡ (d - g.chance) * flip_sum gs (vs ++ (answer g.table (pin_values vs g.pins) ∷ []))
      + g.chance * flip_sum gs (vs ++ (not (answer g.table (pin_values vs g.pins)) ∷ []))
  flips-first g gs vs =
      let a = answer g.table (pin_values vs g.pins) in
      ap₂ ◌+◌ (flips-scale gs (vs ++ (a ∷ [])) (d - g.chance)) (flips-scale gs (vs ++ (not a ∷ [])) g.chance)

  by-case : (m : Bool) (keep flip x y : ℕ) (F : Bool → ℕ) → x ≡ F (wrong_bit m false) → y ≡ F (wrong_bit m true)
      → keep * x + flip * y ≡ cond m keep flip * F false + cond m flip keep * F true
  by-case true keep flip x y F p q = ap₂ (λ (a b : ℕ). keep * a + flip * b) p q
  by-case false keep flip x y F p q = ap₂ (λ (a b : ℕ). keep * a + flip * b) p q ∙ omega arith

  pub literal : (s : ℕ) (gs : List Gate) (vs : List Bool) (e : ℕ → Bool) → length vs ≡ s → Wrong rs s vs e
      → AllFrom no_gate GatePinsBelow s gs → AllFrom no_gate (λ t g. g.chance ≤ d) s gs
      → AllFrom no_gate (RightAt rs) s gs
      → Below (s + length gs) outputs
      → u ^ length gs * flip_sum gs vs ≡ errors_from s gs e
  literal s [] vs e size wrong below chances right outs =
      ap₂ ◌*◌ (pow-zero u) (outputs-wrong rs s vs e wrong outputs (λ i l. omega (arith, outs i l))) ∙ omega arith
  literal s (g ∷ gs) vs e size wrong below chances right outs =
      let a = answer g.table (pin_values vs g.pins) in
      let r = answer g.table (pin_values rs g.pins) in
      let pins : pin_values vs g.pins ≡ inverted (pin_values rs g.pins) (map e g.pins)
      = pins-wrong rs s vs e wrong g.pins (all_head no_gate GatePinsBelow s g gs below) in
      let m = unmoved rs g (map e g.pins) in
      let moved : beq a r ≡ m = ap (λ (ws : List Bool). beq (answer g.table ws) r) pins in
      let value : (flip : Bool) → invert_if flip a ≡ invert_if (wrong_bit m flip) (get_or rs s false)
      = λ flip. bit-value flip a r ∙ ap₂ (λ (c v : Bool). invert_if (wrong_bit c flip) v) moved (sym (all_head no_gate (RightAt rs) s g gs right)) in
      let next : (flip : Bool) → u ^ length gs * flip_sum gs (vs ++ (invert_if flip a ∷ [])) ≡ errors_from (suc s) gs (upd e s (wrong_bit m flip))
      = λ flip.
      literal
      (suc s)
      gs
      (vs ++ (invert_if flip a ∷ []))
      (upd e s (wrong_bit m flip))
      (omega (arith, length-append vs (invert_if flip a ∷ [])))
      (wrong-next rs s vs e size wrong (invert_if flip a) (wrong_bit m flip) (value flip))
      (all_tail no_gate GatePinsBelow s g gs below)
      (all_tail no_gate (λ t g. g.chance ≤ d) s g gs chances)
      (all_tail no_gate (RightAt rs) s g gs right)
      (λ i l. omega (arith, outs i l)) in
      let chance : g.chance ≤ d = all_head no_gate (λ t g. g.chance ≤ d) s g gs chances in
      let p = u ^ length gs in
      let f = flip_sum gs (vs ++ (a ∷ [])) in
      let t = flip_sum gs (vs ++ (not a ∷ [])) in
      ap₂ ◌*◌ (pow-succ' u (length gs)) (flips-first g gs vs)
      ∙ spread u p (d - g.chance) g.chance f t
      ∙ ap (λ (z : ℕ). u * (d - g.chance) * (p * f) + u * z * (p * t)) (sym (sub-sub_self chance))
      ∙ by-case m (keep_share u d g.chance) (flip_share u d g.chance) (p * f) (p * t) (λ b. errors_from (suc s) gs (upd e s b)) (next false) (next true)
