-- The first fault, line by line. Assumes nothing.
use Prim.Native.Nat.{ℕ, suc, ◌+◌, ◌-◌, ◌<◌, ◌≤◌}
use mathlib.Core.Path.{◌≡◌, sym, subst}
use Rattle.std.specs.Prelude.{Some, None}
use mathlib.Core.List.{List, ◌∷◌}
use native.Mathlib.Numerals.{add-one}
use native.Mathlib.Omega.{arith}
use lib.ListN.{get_or, drop}
use Rattle.refusal.specs.Judgement.{Judgement}
use Rattle.refusal.specs.Judgement.{refused, refuse_unless}
use Rattle.texts.specs.Words.{word_of, held}
use Rattle.statements.specs.Lines.{line_of, lines_of, bytes_from, alike}
use Rattle.statements.specs.Fit.{fit, is_ended, fault}
use Rattle.statements.specs.declared.Phase.{Phase}
use Rattle.statements.proofs.Lines.{one_less, lines_split}
use Rattle.refusal.specs.declared.Cause.TheVariants.{TextLine}

-- what is found from word k on, where a line starts
abbrev pub fault_from : List ℕ → List ℕ → List ℕ → ℕ → ℕ → Phase → ℕ → Judgement
fault_from t s l n last p k = fault p (lines_of (held t s l k (n - k))) last

module _ (t s l : List ℕ) (n last : ℕ) (p : Phase) (k r : ℕ) (inside : k < n) (rest : r ≡ alike l (get_or l k 0) (k + 1) (n - (k + 1))) where
  pub split : lines_of (held t s l k (n - k))
      ≡ line_of (get_or l k 0) (bytes_from t s k (r + 1)) ∷ lines_of (held t s l (k + (r + 1)) (n - (k + (r + 1))))
  split = rw (one_less n k inside, lines_split t s l k (n - (k + 1)), sym (subst (λ (i : ℕ). r ≡ alike l (get_or l k 0) i (n - (k + 1))) (add-one k) rest), add-one r, place, left)
    where
      place : suc k + r ≡ k + suc r
      place = omega arith

      left : n - (k + 1) - r ≡ n - (k + suc r)
      left = omega arith

  -- the line's first word, and those after it
  module _ (x : List ℕ) (first : x ≡ word_of (drop (get_or s k 0) t)) where
    line_words : x ∷ bytes_from t s (k + 1) r ≡ bytes_from t s k (r + 1)
    line_words = rw (first, add-one k, add-one r)

    pub fault-here : None ≡ fit p (x ∷ bytes_from t s (k + 1) r) → fault_from t s l n last p k ≡ refused TextLine (get_or l k 0)
    fault-here e = rw (split, ← line_words, ← e)

    pub fault-later : (q : Phase) → Some q ≡ fit p (x ∷ bytes_from t s (k + 1) r) → fault_from t s l n last p k ≡ fault_from t s l n last q (k + (r + 1))
    fault-later q e = rw (split, ← line_words, ← e)

pub fault-end : (t s l : List ℕ) (n last : ℕ) (p : Phase) (k : ℕ) → n ≤ k → fault_from t s l n last p k ≡ refuse_unless (is_ended p) TextLine last
fault-end t s l n last p k past = rw none
  where
    none : n - k ≡ 0
    none = omega arith
