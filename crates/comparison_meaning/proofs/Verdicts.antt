-- Verdicts on two figures: what each means, the figures exchanged, equal figures. Assumes nothing.
use Prim.Native.Nat.{ℕ, ◌+◌, ◌*◌, ◌≤◌, ◌<◌}
use mathlib.Core.Bool.{true, false}
use mathlib.Core.Logic.{by_cases}
use mathlib.Core.Path.{◌≡◌, sym, ap, ◌∙◌}
use native.Mathlib.Decide.{dec_lt}
use native.Mathlib.Omega.{arith}
use borrow.Author.Tests.{lt-ltb, le-ltb}
use Rattle.comparison.specs.declared.Verdict.{Verdict}
use Rattle.comparison.specs.declared.Verdict.TheVariants.{First, Second, Undecided}
use Rattle.comparison.specs.Standing.{beyond, verdict, verdict_number}
use Rattle.comparison.proofs.Deciding.{first-higher, second-higher, none-higher}
use Rattle.comparison_meaning.specs.Statements.{swap_verdict, DecidedBeyond}

module _ (slack : ℕ) where
  is-beyond : (a b : ℕ) → 2 * b + slack < 2 * a → beyond slack a b ≡ true
  unfolding beyond
  is-beyond a b l = lt-ltb (2 * b + slack) (2 * a) l

  not_beyond : (a b : ℕ) → 2 * a ≤ 2 * b + slack → beyond slack a b ≡ false
  unfolding beyond
  not_beyond a b l = le-ltb (2 * b + slack) (2 * a) l

  first-if : (a b : ℕ) → 2 * b + slack < 2 * a → verdict slack a b ≡ First
  first-if a b l = first-higher slack a b (is-beyond a b l)

  second-if : (a b : ℕ) → 2 * a + slack < 2 * b → verdict slack a b ≡ Second
  second-if a b l = second-higher slack a b (not_beyond a b (omega arith)) (is-beyond b a l)

  undecided-if : (a b : ℕ) → 2 * a ≤ 2 * b + slack → 2 * b ≤ 2 * a + slack → verdict slack a b ≡ Undecided
  undecided-if a b l g = none-higher slack a b (not_beyond a b l) (not_beyond b a g)

  -- one of the three
  cases : {P : Type 0} (a b : ℕ) → (2 * b + slack < 2 * a → P) → (2 * a + slack < 2 * b → P) → (2 * a ≤ 2 * b + slack → 2 * b ≤ 2 * a + slack → P) → P
  cases a b first second none =
      by_cases (dec_lt (2 * b + slack) (2 * a)) first
      (λ low. by_cases (dec_lt (2 * a + slack) (2 * b)) second (λ high. none (omega arith) (omega arith)))

  -- no verdict is another
  clash : {P : Type 0} (a b : ℕ) (v w : Verdict) → verdict slack a b ≡ v → verdict slack a b ≡ w → (verdict_number v ≡ verdict_number w → P) → P
  clash a b v w e f other = other (ap verdict_number (sym e ∙ f))

pub decided-beyond : DecidedBeyond
decided-beyond slack a b =
    record {
      first =
          λ e.
          cases slack a b (λ l. l) (λ l. clash slack a b First Second e (second-if slack a b l) (λ n. absurd (omega arith)))
          (λ l g. clash slack a b First Undecided e (undecided-if slack a b l g) (λ n. absurd (omega arith)));
      to_first = first-if slack a b;
      second =
          λ e.
          cases slack a b (λ l. clash slack a b Second First e (first-if slack a b l) (λ n. absurd (omega arith))) (λ l. l)
          (λ l g. clash slack a b Second Undecided e (undecided-if slack a b l g) (λ n. absurd (omega arith)));
      to_second = second-if slack a b;
      undecided =
          λ e.
          cases slack a b (λ l. clash slack a b Undecided First e (first-if slack a b l) (λ n. absurd (omega arith)))
          (λ l. clash slack a b Undecided Second e (second-if slack a b l) (λ n. absurd (omega arith)))
          (λ l g. record { up = l; down = g });
      to_undecided = λ near. undecided-if slack a b near.up near.down;
    }

-- the figures the other way round
pub swap-verdict : (slack a b : ℕ) → verdict slack b a ≡ swap_verdict (verdict slack a b)
swap-verdict slack a b =
    cases slack a b (λ l. second-if slack b a l ∙ sym (ap swap_verdict (first-if slack a b l)))
    (λ l. first-if slack b a l ∙ sym (ap swap_verdict (second-if slack a b l)))
    (λ l g. undecided-if slack b a g l ∙ sym (ap swap_verdict (undecided-if slack a b l g)))

-- a figure and itself
pub same-undecided : (slack a : ℕ) → verdict slack a a ≡ Undecided
same-undecided slack a = undecided-if slack a a (omega arith) (omega arith)
