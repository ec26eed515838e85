-- Where refusal 18 finds nothing each gate's line has one to five names, and there is a line. Assumes nothing.
use Prim.Native.Nat.{ℕ, zero, suc, ◌+◌, ◌<◌, ◌≤◌}
use mathlib.Core.Path.{◌≡◌, refl}
use mathlib.Core.Bool.{Bool, true, false}
use mathlib.Core.List.{List, [], ◌∷◌}
use native.Mathlib.Omega.{arith}
use lib.ListN.{length, get_or}
use lib.Dec.{leb}
use borrow.Author.Tests.{leb-true}
use Rattle.refusal.specs.Judgement.{Fine}
use Rattle.refusal.proofs.Laws.{refused-not-fine}
use Rattle.area.specs.Layout.{most_pins}
use Rattle.statements.specs.declared.Phase.{Phase}
use Rattle.statements.specs.declared.Phase.TheVariants.{Before, Heading, Cover, Ended}
use Rattle.statements.specs.declared.Keyword.TheVariants.{Names}
use Rattle.statements.specs.Lines.{Line}
use Rattle.statements.specs.Fit.{after_gate, fit_as, fit, fault}
use Rattle.model.specs.Model.{same_key, key_of, gates_key, gates_of, no_gate}
use Rattle.std.specs.Prelude.{Some, None}
use Rattle.statements.proofs.Ends.{fitted}
use Rattle.model.proofs.Keys.{keys-same}
use Rattle.blif.specs.Stages.{Fitting}
use Rattle.refusal.specs.declared.Cause.TheVariants.{TextLine}

-- a `.names` line that fits
abbrev Right : List (List ℕ) → Type 0
Right ws = (2 ≤ length ws) × (length ws ≤ most_pins + 2)

gate-fits : (w : List ℕ) (ws : List (List ℕ)) (q : Phase) → after_gate ws ≡ Some q → Right (w ∷ ws)
unfolding after_gate
gate-fits w ws q e = go (leb 1 (length ws)) refl (leb (length ws) (most_pins + 1)) refl
  where
    go : (a : Bool) → leb 1 (length ws) ≡ a → (b : Bool) → leb (length ws) (most_pins + 1) ≡ b → Right (w ∷ ws)
    go true f true g = (omega (arith, leb-true 1 (length ws) f), omega (arith, leb-true (length ws) (most_pins + 1) g))
    go false f b g = absurd (let z : None ≡ Some q = rw f at e in let y : ◌≡◌ {A = ℕ} 0 1 = cc in omega arith)
    go true f false g = absurd (let z : None ≡ Some q = rw (f, g) at e in let y : ◌≡◌ {A = ℕ} 0 1 = cc in omega arith)

names-fit : (p : Phase) (w : List ℕ) (ws : List (List ℕ)) (q : Phase) → fit_as p Names w ws ≡ Some q → Right (w ∷ ws)
names-fit Before w ws q e = absurd (let y : ◌≡◌ {A = ℕ} 0 1 = cc in omega arith)
names-fit Heading w ws q e = gate-fits w ws q e
names-fit (Cover width end) w ws q e = gate-fits w ws q e
names-fit Ended w ws q e = absurd (let y : ◌≡◌ {A = ℕ} 0 1 = cc in omega arith)

line-fits : (p : Phase) (ws : List (List ℕ)) (q : Phase) → fit p ws ≡ Some q → key_of ws ≡ gates_key → Right ws
line-fits p [] q e k = absurd (let y : ◌≡◌ {A = ℕ} 0 1 = cc in omega arith)
line-fits p (w ∷ ws) q e k = names-fit p w ws q (rw k at e)

all_fit : (p : Phase) (ls : List Line) (last : ℕ) → fault p ls last ≡ Fine → (j : ℕ) → j < length (gates_of ls) → Right (get_or (gates_of ls) j no_gate).head.words
all_fit p [] last e j h = absurd (omega arith)
all_fit p (l ∷ ls) last e j h =
    let f = fitted p l ls last e in
    go (line-fits p l.words f.next f.fits) (same_key (key_of l.words) gates_key) refl j h (all_fit f.next ls last f.later)
  where
    go : (key_of l.words ≡ gates_key → Right l.words) → (d : Bool) → same_key (key_of l.words) gates_key ≡ d → (j : ℕ) → j < length (gates_of (l ∷ ls))
        → ((j : ℕ) → j < length (gates_of ls) → Right (get_or (gates_of ls) j no_gate).head.words)
        → Right (get_or (gates_of (l ∷ ls)) j no_gate).head.words
    go right true k zero h ih = rw k (right (keys-same (key_of l.words) gates_key k))
    go right true k (suc j) h ih = rw k (ih j (less (rw k at h)))
      where
        less : suc j < suc (length (gates_of ls)) → j < length (gates_of ls)
        less x = omega arith
    go right false k j h ih = rw k (ih j (rw k at h))

pub fitting : (ls : List Line) (last : ℕ) → fault Before ls last ≡ Fine → Fitting ls
fitting ls last e = record { some = λ j h. (all_fit Before ls last e j h).0; few = λ j h. (all_fit Before ls last e j h).1 }

pub no_line : (last : ℕ) → fault Before [] last ≡ Fine → ⊥
no_line last e = refused-not-fine TextLine last e
