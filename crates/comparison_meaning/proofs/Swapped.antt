-- The images the other way round, and an image beside itself. Assumes nothing.
use Prim.Native.Nat.{ℕ, zero, suc, ◌+◌, ◌^◌}
use mathlib.Core.Bool.{Bool, true, false, cond}
use mathlib.Core.Logic.{◌⊎◌, ⊎_elim, by_cases}
use mathlib.Core.Path.{◌≡◌, refl, sym, ap, ap₂, ◌∙◌}
use native.Mathlib.Nat.{add_comm}
use native.Mathlib.Decide.{ℕ_discrete}
use native.Mathlib.Omega.{arith}
use borrow.Author.Tests.{eqb-true, eq-eqb, ne_eqb}
use lib.Dec.{eqb}
use Rattle.lists.proofs.Sums.{sum_same}
use Rattle.refusal.specs.Judgement.{Judgement}
use Rattle.refusal.specs.Judgement.{Fine, refused}
use Rattle.refusal.proofs.Laws.{refused-not-fine}
use Rattle.figure.specs.Figure.{bit_of}
use Rattle.calls.specs.Judgements.{image_judgement}
use Rattle.comparison.specs.declared.Verdict.{Verdict}
use Rattle.comparison.specs.declared.Verdict.TheVariants.{First, Second, Undecided}
use Rattle.comparison.specs.declared.Module.{Module}
use Rattle.comparison.specs.Standing.{Patterns}
use Rattle.std.specs.Prelude.{Some, None}
use Rattle.comparison.specs.Standing.{Compared}
use Rattle.comparison.specs.Standing.{done}
use Rattle.comparison.specs.Standing.{verdict, same_verdict, both_errors, averages_verdict, how_often, counts_by, pattern_verdict, patterns_between, answered}
use Rattle.comparison.specs.Images.{figures_of, module_of, compared_if}
use Rattle.comparison.proofs.Deciding.{counts-are}
use Rattle.comparison_meaning.specs.Statements.{swap_verdict, swap_patterns, swapped, SwapSwaps, SelfUndecided}
use Rattle.comparison_meaning.proofs.Verdicts.{swap-verdict, same-undecided}
use Rattle.std.specs.Prelude.{Err}

-- ---- verdicts of all patterns

eqb-sym : (a b : ℕ) → eqb a b ≡ eqb b a
eqb-sym a b =
    by_cases (ℕ_discrete a b) (λ e. eq-eqb a b e ∙ sym (eq-eqb b a (sym e))) (λ no. ne_eqb a b no ∙ sym (ne_eqb b a (λ e. no (sym e))))

often-same : (v w : Verdict) (f g : ℕ → Verdict) (k : ℕ) → ((q : ℕ) → same_verdict v (f q) ≡ same_verdict w (g q)) → how_often v f k ≡ how_often w g k
often-same v w f g k h =
    sum_same (λ q. bit_of (same_verdict v (f q))) (λ q. bit_of (same_verdict w (g q))) k (λ q less. ap bit_of (h q))

swap-first : (v : Verdict) → same_verdict First (swap_verdict v) ≡ same_verdict Second v
swap-first First = refl
swap-first Second = refl
swap-first Undecided = refl

swap-second : (v : Verdict) → same_verdict Second (swap_verdict v) ≡ same_verdict First v
swap-second First = refl
swap-second Second = refl
swap-second Undecided = refl

swap-none : (v : Verdict) → same_verdict Undecided (swap_verdict v) ≡ same_verdict Undecided v
swap-none First = refl
swap-none Second = refl
swap-none Undecided = refl

-- where every verdict is swapped, so are the counts
swap-counts : (f g : ℕ → Verdict) (k : ℕ) → ((q : ℕ) → f q ≡ swap_verdict (g q)) → Some (counts_by f k) ≡ swap_patterns (Some (counts_by g k))
swap-counts f g k h =
    ap Some
    (sym
    (counts-are (record { first = how_often Second g k; second = how_often First g k; neither = how_often Undecided g k }) f k
    (sym (often-same First Second f g k (λ q. ap (same_verdict First) (h q) ∙ swap-first (g q))))
    (sym (often-same Second First f g k (λ q. ap (same_verdict Second) (h q) ∙ swap-second (g q))))
    (sym (often-same Undecided Undecided f g k (λ q. ap (same_verdict Undecided) (h q) ∙ swap-none (g q))))))

swap-if : (a b : Bool) (x y : Patterns) → a ≡ b → (b ≡ true → x ≡ swap_patterns y) → cond a x None ≡ swap_patterns (cond b y None)
swap-if a true x y e h = rw e (h refl)
swap-if a false x y e h = rw e refl

-- ---- modules

module _ (m k : Module) where
  errors-commute : both_errors k m ≡ both_errors m k
  errors-commute = add_comm k.error m.error

  swap-averages : averages_verdict k m ≡ swap_verdict (averages_verdict m k)
  swap-averages =
      ap (λ (e : ℕ). verdict (e + 2) k.average m.average) errors-commute ∙ swap-verdict (both_errors m k + 2) m.average k.average

  module _ (r s : ℕ → ℕ) where
    swap-pattern : (q : ℕ) → pattern_verdict k s m r q ≡ swap_verdict (pattern_verdict m r k s q)
    swap-pattern q = ap (λ (e : ℕ). verdict e (s q) (r q)) errors-commute ∙ swap-verdict (both_errors m k) (r q) (s q)

    swap-patterns : patterns_between k s m r ≡ swap_patterns (patterns_between m r k s)
    unfolding patterns_between
    swap-patterns =
        swap-if (eqb k.inputs m.inputs) (eqb m.inputs k.inputs) _ _ (eqb-sym k.inputs m.inputs)
        (λ same.
        let alike : m.inputs ≡ k.inputs = eqb-true m.inputs k.inputs same in
        ap (λ (n : ℕ). Some (counts_by (pattern_verdict k s m r) (2 ^ n))) (sym alike)
        ∙ swap-counts (pattern_verdict k s m r) (pattern_verdict m r k s) (2 ^ m.inputs) swap-pattern)

    swap_answer : answered k s m r ≡ swapped (answered m r k s)
    swap_answer = ap₂ (λ (v : Verdict) (p : Patterns). done v k m p) swap-averages swap-patterns

swap-refused : (i j : Judgement) (x y : Compared) → (i ≡ Fine) ⊎ (j ≡ Fine) → y ≡ swapped x → compared_if j i y ≡ swapped (compared_if i j x)
swap-refused Fine Fine x y some e = e
swap-refused Fine (Err why) x y some e = refl
swap-refused (Err why) Fine x y some e = refl
swap-refused (Err why) (Err why2) x y some e = ⊎_elim (λ f. refused-not-fine why.cause why.place f) (λ f. refused-not-fine why2.cause why2.place f) some

pub swap-swaps : SwapSwaps
swap-swaps bs cs some =
    swap-refused (image_judgement bs) (image_judgement cs) _ _ some (swap_answer (module_of bs) (module_of cs) (figures_of bs) (figures_of cs))

-- ---- an image beside itself

never : (v : Verdict) (f : ℕ → Verdict) → ((q : ℕ) → bit_of (same_verdict v (f q)) ≡ 0) → (k : ℕ) → how_often v f k ≡ 0
never v f h zero = refl
never v f h (suc k) = omega (arith, never v f h k, h k)

always : (v : Verdict) (f : ℕ → Verdict) → ((q : ℕ) → bit_of (same_verdict v (f q)) ≡ 1) → (k : ℕ) → how_often v f k ≡ k
always v f h zero = refl
always v f h (suc k) = omega (arith, always v f h k, h k)

none-often : (f : ℕ → Verdict) (k : ℕ) → ((q : ℕ) → f q ≡ Undecided) → counts_by f k ≡ record { first = 0; second = 0; neither = k }
none-often f k h =
    let bit : (v : Verdict) (q : ℕ) → bit_of (same_verdict v (f q)) ≡ bit_of (same_verdict v Undecided)
    = λ v q. ap (λ (w : Verdict). bit_of (same_verdict v w)) (h q) in
    sym
    (counts-are (record { first = 0; second = 0; neither = k }) f k (sym (never First f (bit First) k)) (sym (never Second f (bit Second) k))
    (sym (always Undecided f (bit Undecided) k)))

self-patterns : (m : Module) (r : ℕ → ℕ) → patterns_between m r m r ≡ Some (record { first = 0; second = 0; neither = 2 ^ m.inputs })
unfolding patterns_between
self-patterns m r =
    rw (eq-eqb m.inputs m.inputs refl)
    (ap Some (none-often (pattern_verdict m r m r) (2 ^ m.inputs) (λ q. same-undecided (both_errors m m) (r q))))

pub self-undecided : SelfUndecided
self-undecided bs fine =
    let m = module_of bs in
    rw fine
    (ap₂ (λ (v : Verdict) (p : Patterns). done v m m p) (same-undecided (both_errors m m + 2) m.average) (self-patterns m (figures_of bs)))
