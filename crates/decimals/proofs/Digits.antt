-- Digits of a number from the last one on. Assumes nothing.
use Prim.Native.Nat.{ℕ, suc, ◌+◌, ◌-◌, ◌*◌, ◌/◌, ◌%◌, ◌^◌, ◌≤◌, ◌<◌}
use mathlib.Core.List.{List}
use mathlib.Core.Logic.{by_cases}
use mathlib.Core.Path.{◌≡◌, sym, ap, subst, ◌∙◌}
use native.Mathlib.Decide.{ℕ_discrete}
use native.Mathlib.Nat.{pow-suc, div-one, div-div-eq-div-mul}
use native.Mathlib.Omega.{arith}
use lib.ListN.{length, get_or, set}
use lib.Seq.{get_or-set_same, get_or-set_other}
use Rattle.decimals.specs.Decimals.{decimal}

-- the digits from place i on are there, and what is left of the number
pub record Spelled (number : ℕ) (text : List ℕ) (rest i : ℕ) : Type 0 where
  pub few : i ≤ 10
  pub long : length text ≡ 10
  pub left : rest ≡ number / 10 ^ (10 - i)
  pub each : (j : ℕ) → i ≤ j → j < 10 → get_or text j 0 ≡ decimal number j

pub start : (number : ℕ) (text : List ℕ) → length text ≡ 10 → Spelled number text number 10
start number text long =
    record {
      few = omega arith;
      long = long;
      left = sym (div-one number);
      each = λ j from to. absurd (omega arith);
    }

pow_more : (k : ℕ) → 10 ^ (k + 1) ≡ 10 ^ k * 10
pow_more k =
    let next : k + 1 ≡ suc k = omega arith in
    ap (λ (e : ℕ). 10 ^ e) next ∙ pow-suc 10 k

pub turn : (number : ℕ) (text : List ℕ) (rest i : ℕ) → Spelled number text rest i → 0 < i
    → length (set text (i - 1) (48 + rest % 10)) ≡ 10
    → Spelled number (set text (i - 1) (48 + rest % 10)) (rest / 10) (i - 1)
turn number text rest i spelled some long =
    let place : 9 - (i - 1) ≡ 10 - i = omega arith in
    let next : 10 - (i - 1) ≡ (10 - i) + 1 = omega arith in
    record {
      few = omega (arith, spelled.few);
      long = long;
      left =
          ap (λ (x : ℕ). x / 10) spelled.left
          ∙ div-div-eq-div-mul number (10 ^ (10 - i)) 10
          ∙ ap (λ (d : ℕ). number / d) (sym (pow_more (10 - i)) ∙ ap (λ (k : ℕ). 10 ^ k) (sym next));
      each =
          λ j from to.
          by_cases (ℕ_discrete j (i - 1))
          (λ e.
          subst (λ (t : ℕ). get_or (set text (i - 1) (48 + rest % 10)) t 0 ≡ decimal number t) (sym e)
          (get_or-set_same text (i - 1) (48 + rest % 10) 0 (omega (arith, spelled.long, spelled.few))
          ∙ ap (λ (x : ℕ). 48 + x % 10) (spelled.left ∙ ap (λ (k : ℕ). number / 10 ^ k) (sym place))))
          (λ other. get_or-set_other text (i - 1) j (48 + rest % 10) 0 other ∙ spelled.each j (omega arith) to);
    }
