-- Keywords that are the same, and such that are not. Assumes nothing.
use mathlib.Core.Path.{◌≡◌}
use mathlib.Core.Bool.{true, false, not}
use denote.Enum.Bare.{same_true, true_same, false_same, differs_true, differs_false}
use Rattle.statements.specs.contracts.Keyword.{the_type}
use Rattle.statements.specs.declared.Keyword.{Keyword}
use Rattle.model.specs.Model.{same_key}

pub keys-same : (a b : Keyword) → same_key a b ≡ true → a ≡ b
keys-same = same_true the_type tt

pub same-keys : (a b : Keyword) → a ≡ b → same_key a b ≡ true
same-keys = true_same the_type

pub other-keys : (a b : Keyword) → (a ≡ b → ⊥) → same_key a b ≡ false
other-keys = false_same the_type tt

-- what `!=` says
pub keys-differ : (a b : Keyword) → not (same_key a b) ≡ true → a ≡ b → ⊥
keys-differ = differs_true the_type

pub keys-alike : (a b : Keyword) → not (same_key a b) ≡ false → a ≡ b
keys-alike = differs_false the_type tt
