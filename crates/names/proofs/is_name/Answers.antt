-- `names::is_name` meets its contract. Assumes nothing.
use Prim.Native.Nat.{◌≤◌}
use mathlib.Core.Path.{◌≡◌}
use lib.ListN.{length}
use native.Mathlib.Omega.{arith}
use borrow.Author.Rules.{rules}
use borrow.Author.Tests.{le-leb, tests}
use Rattle.std.specs.List.{list_all}
use Rattle.std.proofs.lemmas.Grind.{common_steps}
use Rattle.std.proofs.lemmas.Iterator.{YieldsList-from_slice}
use Rattle.std.proofs.lemmas.Iterator.Search.{all_from_yields_List}
use Rattle.names.specs.Names.{is_name, name_byte}
use Rattle.names.proofs.Names.{name_bytes-is}
use Rattle.names.proofs.is_name.Goals as goal

pub returns-then-w-le-LONGEST_NAME : goal.returns-then-w-le-LONGEST_NAME
unfolding is_name
returns-then-w-le-LONGEST_NAME c =
    let all : c.all.result ≡ list_all name_byte c.args.w.now =
    all_from_yields_List name_byte _ _ c.all.result c.all.ensures.ran (YieldsList-from_slice c.args.w.now cc) (λ x b q k. search (rules, tests)) in
    let some : 1 ≤ length c.args.w.now = grind (arith, common_steps) in
    simp (le-leb _ _ some, le-leb _ _ c.if-w-le-LONGEST_NAME.true.1, name_bytes-is) all
