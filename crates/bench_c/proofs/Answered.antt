-- What the answer about a netlist tells of its judgement and its result. The other answers are a judgement with a value. Assumes nothing.
use Prim.Native.Nat.{ℕ}
use mathlib.Core.Path.{◌≡◌, refl}
use native.Mathlib.Omega.{arith}
use lib.Ieee.{Float}
use mathlib.Core.Bool.{false}
use lib.Ieee.Exact.{HasValue}
use Rattle.std.specs.Prelude.{Result, Ok, Err}
use Rattle.rounding.specs.Rounding.{units_in_one}
use Rattle.refusal.specs.declared.Refusal.{Refusal}
use Rattle.refusal.specs.Judgement.{Judgement, Fine}
use Rattle.bench.specs.declared.NetlistFigures.{NetlistFigures}
use Rattle.bench.specs.Answers.{NetlistAnswer}

pub netlist-told : (j : Judgement) (v w : ℕ) (r : Result NetlistFigures Refusal) → NetlistAnswer j v w r
    → ((f : NetlistFigures) → r ≡ Ok f → (j ≡ Fine) × (f.pattern ≡ v) × (f.units ≡ w) × HasValue f.reliability false w units_in_one)
    × ((why : Refusal) → r ≡ Err why → j ≡ Err why)
netlist-told Fine v w r e =
    let s = e.1 in (
      λ f q.
          let is : f ≡ record { pattern = v; units = w; reliability = e.0 } = cc in
          (refl, rw is refl, rw is refl, rw is e.2),
      λ why q. let z : ◌≡◌ {A = ℕ} 0 1 = cc in absurd (omega arith),
    )
netlist-told (Err why') v w r e = (λ f q. let z : ◌≡◌ {A = ℕ} 0 1 = cc in absurd (omega arith), λ why q. cc)
