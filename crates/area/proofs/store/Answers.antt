-- `area::store` meets its contract: the part that is written has the values, and what lies before and after stays. Assumes nothing.
use Prim.Native.Nat.{ℕ, ◌+◌, ◌≤◌}
use borrow.Rule.Slice.PartMut.{put_mid}
use mathlib.Core.List.{List, ◌++◌}
use mathlib.Core.Path.{◌≡◌, sym, ap₂, ◌∙◌}
use native.Mathlib.Omega.{arith}
use lib.ListN.{length}
use Rattle.std.proofs.lemmas.List.{take-append-drop}
use Rattle.std.proofs.lemmas.List.Edits.{sets, sets-eq}
use Rattle.std.proofs.lemmas.Slice.{take-put_mid, drop-put_mid}
use Rattle.area.proofs.store.Goals as goal

stored : (base count : ℕ) (ws vs : List ℕ) → count ≡ length vs → base + length vs ≤ length ws → put_mid base count ws vs ≡ sets ws base vs
stored base count ws vs e fits =
    let end = base + length vs in
    sym (take-append-drop end (put_mid base count ws vs))
    ∙ ap₂ (λ (xs ys : List ℕ). xs ++ ys)
    (take-put_mid base count ws vs end (omega arith) (omega arith))
    (drop-put_mid base count ws vs end (omega arith) (omega arith) (omega arith))
    ∙ sym (sets-eq vs ws base fits)

pub returns : goal.returns
returns c = rw c.copy_from_slice.ensures.after (stored c.args.base _ c.args.words.now c.args.values.now (omega arith) c.requires)
