-- Refusal 9 and the list of shared gates: the first of them is the lowest gate that it applies to. Assumes nothing.
use Prim.Native.Nat.{ℕ, zero, suc, ◌+◌, ◌-◌}
use mathlib.Core.Bool.{Bool, cond}
use mathlib.Core.List.{List, [], ◌∷◌, ◌++◌}
use mathlib.Core.Logic.{by_cases}
use mathlib.Core.Path.{◌≡◌, refl, sym, ap, ap₂, ◌∙◌}
use native.Mathlib.Decide.{dec_le}
use native.Mathlib.Omega.{arith}
use borrow.Author.Tests.{le-leb, lt-leb}
use lib.ListN.{length}
use Rattle.refusal.specs.Judgement.{refused}
use Rattle.refusal.specs.Judgement.{refuse_unless, otherwise, lowest}
use Rattle.netlist.specs.Live.{readers}
use Rattle.suppose.specs.Suppose.{shared_from, shared_gates}
use Rattle.suppose.proofs.Sharing.{shared-split}
use Rattle.live.specs.Shared.{gate_shared, shared_judgement}
use Rattle.shared_meaning.specs.Statements.{nine_at_first, SharedAsInNine}
use Rattle.refusal.specs.declared.Cause.TheVariants.{SharedGate}

first_of : (n : ℕ) (xs ys : List ℕ) → nine_at_first n (xs ++ ys) ≡ otherwise (nine_at_first n xs) (nine_at_first n ys)
first_of n [] ys = refl
first_of n (x ∷ xs) ys = refl

one : (reads : ℕ → ℕ) (n k : ℕ) → gate_shared reads n k ≡ nine_at_first n (shared_from reads (n + k) 1)
one reads n k =
    by_cases (dec_le 2 (reads (n + k)))
    (λ two.
    let back : n + k - n ≡ k = omega arith in
    ap (λ (b : Bool). refuse_unless b SharedGate k) (lt-leb (reads (n + k)) 1 (omega arith))
    ∙ ap (refused SharedGate) (sym back)
    ∙ ap (λ (b : Bool). nine_at_first n (cond b ((n + k) ∷ []) [])) (sym (le-leb 2 (reads (n + k)) two)))
    (λ few.
    ap (λ (b : Bool). refuse_unless b SharedGate k) (le-leb (reads (n + k)) 1 (omega arith))
    ∙ ap (λ (b : Bool). nine_at_first n (cond b ((n + k) ∷ []) [])) (sym (lt-leb 2 (reads (n + k)) (omega arith))))

all : (reads : ℕ → ℕ) (n k : ℕ) → lowest (gate_shared reads n) k ≡ nine_at_first n (shared_from reads n k)
all reads n zero = refl
all reads n (suc k) =
    let more : suc k ≡ k + 1 = omega arith in
    ap₂ otherwise (all reads n k) (one reads n k)
    ∙ sym (first_of n (shared_from reads n k) (shared_from reads (n + k) 1))
    ∙ ap (nine_at_first n) (sym (ap (shared_from reads n) more ∙ shared-split reads n k 1))

pub shared-as-in-nine : SharedAsInNine
unfolding shared_judgement shared_gates
shared-as-in-nine net = all (readers net) net.inputs (length net.gates)
