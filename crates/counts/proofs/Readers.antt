-- The readers of a source between their bounds: one reader entered, a gate's pins entered one by one, all gates. Assumes nothing.
use Prim.Native.Nat.{ℕ, ◌+◌, ◌≤◌, ◌<◌}
use mathlib.Core.List.{List}
use mathlib.Core.Path.{◌≡◌, ap}
use native.Mathlib.Omega.{arith}
use lib.ListN.{length, replicate, length-replicate, get_or-replicate, get_or-eq_default}
use Rattle.area.specs.Layout.{most_sources, pin_count, pin}
use Rattle.counts.specs.declared.Span.{Span}
use Rattle.counts.specs.Counts.{span_at, Within, Reads}
use Rattle.counts.proofs.Windows.{by_order}

-- ---- a gate's pins: those of earlier gates and the first i of its own are entered

pub record Entering (ws : List ℕ) (k i : ℕ) (spans : List Span) : Type 0 where
  pub long : length spans ≡ most_sources
  pub few : (s : ℕ) → (span_at spans s).end ≤ k + 1
  pub earlier : (m h : ℕ) → m < k → h < pin_count ws m → Within spans (pin ws m h) m
  pub own : (h : ℕ) → h < i → Within spans (pin ws k h) k

-- before any gate
pub reads_none : (ws : List ℕ) (spans : List Span) → length spans ≡ most_sources → ((s : ℕ) → (span_at spans s).end ≡ 0) → Reads ws 0 spans
reads_none ws spans long none =
    record { long = long; few = λ s. omega (arith, none s); within = λ m i less used. absurd (omega arith) }

-- so it is where every source has the same span, which has no reader
pub reads_unread : (ws : List ℕ) (first : ℕ) → Reads ws 0 (replicate most_sources (record { first = first; end = 0 }))
reads_unread ws first =
    reads_none ws (replicate most_sources unread) long
    (λ s.
    by_order s most_sources
    (λ less. ap (λ (p : Span). p.end) (get_or-replicate most_sources s unread none less))
    (λ past. ap (λ (p : Span). p.end) (get_or-eq_default (replicate most_sources unread) none {n = s} (omega (arith, long)))))
  where
    unread : Span
    unread = record { first = first; end = 0 }

    none : Span
    none = record { first = 0; end = 0 }

    long : length (replicate most_sources unread) ≡ most_sources
    long = length-replicate {A = Span} most_sources unread
