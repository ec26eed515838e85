-- The weighted sum over the patterns, one after another.
use Rattle.std.specs.Prelude.{ℕ, ◌+◌, ◌*◌, List, ◌≡◌, get_or}
use Rattle.lists.specs.Lists.{sum_below}
use Rattle.calls.specs.Calls.{reliability_for}

-- weight × reliability over the patterns below k
unfoldable pub weighted_to : List ℕ → List ℕ → ℕ → ℕ
weighted_to ws weights k = sum_below k (λ q. get_or weights q 0 * reliability_for ws q)

-- what so many patterns from `first` on add
abbrev pub BlockAdds : List ℕ → List ℕ → ℕ → ℕ → ℕ → Type 0
BlockAdds ws weights first size sum = weighted_to ws weights first + sum ≡ weighted_to ws weights (first + size)
