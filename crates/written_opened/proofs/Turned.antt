-- Toggling the inputs that are 1, in any order, turns a fresh area to pattern 0. Assumes nothing.
use Prim.Native.Nat.{ℕ, zero, suc, ◌+◌, ◌-◌, ◌*◌, ◌/◌, ◌%◌, ◌^◌, ◌<◌}
use mathlib.Core.Bool.{Bool, true, false, cond}
use mathlib.Core.List.{List, [], ◌∷◌}
use mathlib.Core.Path.{◌≡◌, refl, sym, ap, subst, ◌∙◌}
use native.Mathlib.Nat.{div-add-mod', mod-lt, div-lt_iff_lt-mul, pow-suc}
use native.Mathlib.Omega.{arith}
use lib.Dec.{eqb}
use lib.Pow.{pow_pos}
use borrow.Author.Tests.{eqb-true, eqb-false}
use Rattle.lists.specs.Lists.{count, Below}
use Rattle.lists.proofs.Every.{below-tail}
use Rattle.refusal.specs.Judgement.{Judgement}
use Rattle.refusal.specs.Judgement.{Fine}
use Rattle.refusal.specs.Judgement.{unless_refused}
use Rattle.rules.proofs.Sound.{sound}
use Rattle.area.specs.Layout.{inputs, pattern, flip}
use Rattle.area.specs.Rules.{Sound}
use Rattle.work.specs.Work.{invert_bit, toggle_words}
use Rattle.work.proofs.Frame.{SameFrame, same_inputs, same_refl, same-sym, same-trans, same-toggle}
use Rattle.work.proofs.Pattern.{invert-same, invert-other}
use Rattle.work.proofs.Sound.{sound-toggle}
use Rattle.fresh.specs.Fresh.{Fresh}
use Rattle.fresh.proofs.Calls.{toggle-flip, toggle-pattern, toggle-fresh}
use Rattle.fresh.proofs.Unique.{frame-unique}
use Rattle.calls.specs.Judgements.{toggle_input, argument_judgement, judgement}
use Rattle.calls.specs.Calls.{left}
use Rattle.calls.proofs.Judgements.{lent-sound, fine-named}
use Rattle.written_opened.specs.Statements.{at_pattern_zero, toggled_all, TurnedByToggles}
use Rattle.written_opened.proofs.RoundTrip.{zero-frame, zero-sound, zero-fresh, zero_pattern, zero-flip}

-- ---- one call

toggle-left : (ws : List ℕ) (i : ℕ) → Sound ws → i < inputs ws → left ws (toggle_input i) ≡ toggle_words ws i
unfolding argument_judgement
toggle-left ws i s l =
    let fine : judgement ws (toggle_input i) ≡ Fine = lent-sound ws (toggle_input i) s ∙ fine-named i (inputs ws) l in
    ap (λ (v : Judgement). unless_refused v (toggle_words ws i) ws) fine

-- what toggles keep
pub record Reached (ws vs : List ℕ) : Type 0 where
  pub frame : SameFrame ws vs
  pub whole : Sound vs
  pub fresh : Fresh vs
  pub flips : (j : ℕ) → flip vs j ≡ flip ws j

pub reached : (ws is : List ℕ) → Sound ws → Fresh ws → Below (inputs ws) is → Reached ws (toggled_all ws is)
reached ws [] s fresh low = record { frame = same_refl ws; whole = s; fresh = fresh; flips = λ j. refl }
reached ws (i ∷ is) s fresh low =
    let next = toggle_words ws i in
    let same = same-toggle ws i in
    let l : i < inputs ws = low 0 (omega arith) in
    let later = reached next is (sound-toggle ws i s l) (toggle-fresh ws i s.workable.net fresh l)
    (rw (same_inputs ws next same) (below-tail (inputs ws) i is low)) in
    subst (λ (vs : List ℕ). Reached ws (toggled_all vs is)) (sym (toggle-left ws i s l))
    (record {
      frame = same-trans ws next (toggled_all next is) same later.frame;
      whole = later.whole;
      fresh = later.fresh;
      flips = λ j. later.flips j ∙ toggle-flip ws i j;
    })

-- ---- bits

-- inverting bit i adds one to it, modulo 2
bit-turned : (q i k c : ℕ) → (invert_bit q i / 2 ^ k + c) % 2 ≡ (q / 2 ^ k + (cond (eqb k i) 1 0 + c)) % 2
bit-turned q i k c = go (eqb k i) refl
  where
    go : (b : Bool) → eqb k i ≡ b → (invert_bit q i / 2 ^ k + c) % 2 ≡ (q / 2 ^ k + (cond b 1 0 + c)) % 2
    go true e =
        let here : k ≡ i = eqb-true k i e in
        let turned : invert_bit q i / 2 ^ k % 2 ≡ 1 - q / 2 ^ k % 2 = rw here (invert-same q i) in
        omega (arith, turned)
    go false e =
        let kept : invert_bit q i / 2 ^ k % 2 ≡ q / 2 ^ k % 2 = invert-other q i k (eqb-false k i e) in
        omega (arith, kept)

-- so each input is turned over as often as it is listed
pub bits-after : (ws is : List ℕ) → Sound ws → Below (inputs ws) is → (k : ℕ) → pattern (toggled_all ws is) / 2 ^ k % 2 ≡ (pattern ws / 2 ^ k + count k is) % 2
bits-after ws [] s low k = omega arith
bits-after ws (i ∷ is) s low k =
    let next = toggle_words ws i in
    let l : i < inputs ws = low 0 (omega arith) in
    ap (λ (vs : List ℕ). pattern (toggled_all vs is) / 2 ^ k % 2) (toggle-left ws i s l)
    ∙ bits-after next is (sound-toggle ws i s l) (rw (same_inputs ws next (same-toggle ws i)) (below-tail (inputs ws) i is low)) k
    ∙ ap (λ (q : ℕ). (q / 2 ^ k + count k is) % 2) (toggle-pattern ws i s.workable.net)
    ∙ bit-turned (pattern ws) i k (count k is)

-- a number of n bits that are all 0
no_bits : (n q : ℕ) → q < 2 ^ n → ((i : ℕ) → i < n → q / 2 ^ i % 2 ≡ 0) → q ≡ 0
no_bits zero q l h = omega arith
no_bits (suc n) q l h =
    let p = 2 ^ n in
    let below : q < 2 * p = omega (arith, pow-suc 2 n) in
    let few : q / p < 2 = (div-lt_iff_lt-mul (pow_pos n)).1 below in
    let none : q / p ≡ 0 = omega (arith, h n (omega arith)) in
    let small : q < p = omega (arith, div-add-mod' q p, ap (λ (x : ℕ). x * p) none, mod-lt q (pow_pos n)) in
    no_bits n q small (λ i m. h i (omega arith))

-- ---- the turn

pub turned-by-toggles : TurnedByToggles
turned-by-toggles ws is fine fresh ones =
    let s = sound ws fine in
    let end = toggled_all ws is in
    let r = reached ws is s fresh ones.below in
    let fits : pattern end < 2 ^ inputs ws
    = subst (λ (n : ℕ). pattern end < 2 ^ n) (same_inputs ws end r.frame) r.whole.workable.figures.pattern_fits in
    let at_zero : pattern end ≡ 0
    = no_bits (inputs ws) (pattern end) fits (λ i l. bits-after ws is s ones.below i ∙ even (pattern ws / 2 ^ i) (count i is) (ones.once i l)) in
    frame-unique (at_pattern_zero ws) end (zero-sound ws s) r.whole (zero-fresh ws s) r.fresh
    (same-trans (at_pattern_zero ws) ws end (same-sym ws (at_pattern_zero ws) (zero-frame ws s)) r.frame)
    (λ j l. r.flips j ∙ sym (zero-flip ws s j))
    (at_zero ∙ sym (zero_pattern ws s))
  where
    even : (b c : ℕ) → c ≡ b % 2 → (b + c) % 2 ≡ 0
    even b c e = omega arith
