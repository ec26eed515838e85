-- `live::judge_shared` meets its contract: the part of the gates' counts, place by place. Assumes nothing.
use Prim.Native.Nat.{ℕ, ◌+◌, ◌-◌}
use mathlib.Core.List.{List}
use mathlib.Core.Path.{◌≡◌, ap, ◌∙◌}
use native.Mathlib.Omega.{arith}
use lib.Dec.{leb}
use lib.ListN.{length, get_or, take, drop, length-take, length-drop}
use Rattle.lists.proofs.Parts.{part_at}
use Rattle.refusal.specs.Judgement.{refuse_unless, lowest, word_judgement}
use Rattle.refusal.proofs.Laws.{lowest-same}
use Rattle.live.specs.Shared.{gate_shared}
use Rattle.live.proofs.judge_shared.Goals as goal
use Rattle.refusal.specs.declared.Cause.TheVariants.{SharedGate}

pub returns : goal.returns
returns c =
    let a = c.args in
    let xs = a.readers.now in
    let count : ℕ = a.inputs + a.gates - a.inputs in
    let part : List ℕ = take count (drop a.inputs xs) in
    let size : length part ≡ a.gates = omega (arith, length-take count (drop a.inputs xs), length-drop a.inputs xs, c.requires.0) in
    c.judge_each.ensures
    ∙ ap (lowest (word_judgement part 1 SharedGate)) size
    ∙ lowest-same (word_judgement part 1 SharedGate) (gate_shared (λ t. get_or xs t 0) a.inputs) a.gates (λ j l.
    ap (λ (x : ℕ). refuse_unless (leb x 1) SharedGate j) (part_at xs a.inputs count j (omega arith)))
