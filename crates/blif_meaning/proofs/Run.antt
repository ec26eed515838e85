-- Placing to its end, and the netlist of a model that is not refused. Assumes nothing.
use Prim.Native.Nat.{ℕ, zero, suc, ◌+◌, ◌≤◌}
use mathlib.Core.Path.{refl}
use mathlib.Core.List.{List}
use mathlib.Core.Logic.{by_cases}
use native.Mathlib.Decide.{dec_lt}
use native.Mathlib.Omega.{arith}
use lib.ListN.{set}
use Rattle.area.specs.Layout.{most_gates}
use Rattle.placing.specs.Placing.{passed, left, Kept, Placed}
use Rattle.placing.proofs.Search.{passed-short}
use Rattle.placing.proofs.Going.{Going, begin, less, turn, finish}

pub record Ran (S : ℕ → List ℕ) (n g : ℕ) (start : List ℕ) : Type 0 where
  pub count : ℕ
  pub place : List ℕ
  pub order : List ℕ
  pub placed : Placed S n g start count place order

module _ (S : ℕ → List ℕ) (n g : ℕ) (start : List ℕ) (within : g ≤ most_gates) where
  run : (f q : ℕ) (place order : List ℕ) (gate : ℕ) → gate ≤ g → Going S n g start q place order gate → left place g ≤ f → Ran S n g start
  run zero q place order gate low going h =
      by_cases (dec_lt gate g)
      (λ more. absurd (omega (arith, less S n g start q place order gate going within more)))
      (λ over. record { count = q; place = place; order = order; placed = finish S n g start q place order gate going within (omega arith) low })
  run (suc f) q place order gate low going h =
      by_cases (dec_lt gate g)
      (λ more.
      run f (q + 1) (set place gate (q + 1)) (set order q gate) (passed S n (set place gate (q + 1)) 0 g) (passed-short S n (set place gate (q + 1)) 0 g)
      (turn S n g start q place order gate going within more (passed S n (set place gate (q + 1)) 0 g) refl)
      (omega (arith, less S n g start q place order gate going within more)))
      (λ over. record { count = q; place = place; order = order; placed = finish S n g start q place order gate going within (omega arith) low })

  pub ran : (order : List ℕ) → Kept S n g 0 start order → Ran S n g start
  ran order kept =
      run (left start g) 0 start order (passed S n start 0 g) (passed-short S n start 0 g) (begin S n g start order (passed S n start 0 g) kept refl) (omega arith)
