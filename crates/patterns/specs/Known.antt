-- The reliability under every pattern, entry q for pattern q: what is known of the list on the way.
use Rattle.std.specs.Prelude.{ℕ, ◌^◌, ◌≤◌, ◌<◌, List, ◌≡◌, length, get_or}
use Rattle.area.specs.Layout.{most_patterns, inputs}
use Rattle.calls.specs.Calls.{reliability_for}

-- there is an entry for every pattern that a netlist can have, and those of the patterns below k are the reliabilities
pub record Known (ws figures : List ℕ) (k : ℕ) : Type 0 where
  pub long : most_patterns ≤ length figures
  pub each : (q : ℕ) → q < k → q < 2 ^ inputs ws → get_or figures q 0 ≡ reliability_for ws q

-- those of all patterns
abbrev pub EachReliability : List ℕ → List ℕ → Type 0
EachReliability ws figures = (q : ℕ) → q < 2 ^ inputs ws → get_or figures q 0 ≡ reliability_for ws q
