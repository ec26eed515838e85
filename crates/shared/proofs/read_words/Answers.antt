-- `shared::read_words` meets its contract: the shared gates are counted, and there are too many or their sets are added. Assumes nothing.
use Prim.Native.Nat.{ℕ}
use mathlib.Core.List.{List}
use mathlib.Core.Path.{◌≡◌, refl, ap, ap₂, ◌∙◌}
use native.Mathlib.Omega.{arith}
use borrow.Author.Rules.{rules}
use borrow.Author.Tests.{le-leb, lt-leb}
use lib.ListN.{length, get_or}
use Rattle.refusal.specs.Judgement.{Fine, refused}
use Rattle.refusal.specs.Judgement.{refuse_unless}
use Rattle.suppose.specs.Suppose.{shared_from}
use Rattle.sets.specs.Sets.{most_shared, units_net, shared_of}
use Rattle.sets.proofs.Laws.{shared-counted}
use Rattle.shared.specs.Shared.{many_shared}
use Rattle.shared.proofs.read_words.Goals.{After-shared_gates-shared}
use Rattle.shared.proofs.read_words.Goals as goal
use Rattle.refusal.specs.declared.Cause.TheVariants.{ManyShared}

-- how many are shared
module _ (c : After-shared_gates-shared) where
  abbrev ws : List ℕ
  ws = c.args.words.now

  counted : c.shared_gates-shared.result ≡ length (shared_of ws)
  counted =
      c.shared_gates-shared.ensures
      ∙ ap₂ (λ (n g : ℕ). length (shared_from (λ x. get_or c.count_readers-readers.result x 0) n g))
      c.inputs.ensures
      c.gates.ensures
      ∙ ap length (shared-counted ws c.count_readers-readers.result c.count_readers-readers.ensures)

pub returns-then-shared-gt-MOST_SHARED : goal.returns-then-shared-gt-MOST_SHARED
returns-then-shared-gt-MOST_SHARED c =
    let there = (goal.at.returns-then-shared-gt-MOST_SHARED c).After-shared_gates-shared in
    let many : many_shared (units_net (ws there)) ≡ refused ManyShared 0
    = ap (λ b. refuse_unless b ManyShared 0) (lt-leb (length (shared_of (ws there))) most_shared (omega (arith, counted there, c.if-shared-gt-MOST_SHARED.true))) in
    rw many refl

pub shared_reliability-requires : goal.shared_reliability-requires
shared_reliability-requires c = record { workable = (c.requires, c.count_readers-readers.ensures, search rules); area_len_bound = omega (arith, counted (goal.at.shared_reliability-requires c).After-shared_gates-shared, c.if-shared-gt-MOST_SHARED.false) }

pub returns : goal.returns
returns c =
    let there = (goal.at.returns c).After-shared_gates-shared in
    let few : many_shared (units_net (ws there)) ≡ Fine
    = ap (λ b. refuse_unless b ManyShared 0)
    (le-leb (length (shared_of (ws there))) most_shared (omega (arith, counted there, c.if-shared-gt-MOST_SHARED.false))) in
    rw few (rw c.shared_reliability.ensures refl)
