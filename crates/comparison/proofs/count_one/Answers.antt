-- `comparison::count_one` meets its contract. Assumes nothing.
use mathlib.Core.Path.{refl, sym}
use native.Mathlib.Nat.{add-zero}
use Rattle.comparison.proofs.count_one.Goals as goal

pub returns-in-First : goal.returns-in-First
returns-in-First c = rw c.in-First.is (refl, sym (add-zero _), sym (add-zero _))

pub returns-in-Second : goal.returns-in-Second
returns-in-Second c = rw c.in-Second.is (sym (add-zero _), refl, sym (add-zero _))

pub returns-in-Undecided : goal.returns-in-Undecided
returns-in-Undecided c = rw c.in-Undecided.is (sym (add-zero _), sym (add-zero _), refl)
