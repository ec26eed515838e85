-- Live gates read off a list of counts are those of the netlist's live reads. Assumes nothing.
use Prim.Native.Nat.{ℕ, zero, suc, ◌+◌, ◌-◌, ◌<◌}
use mathlib.Core.Bool.{true}
use mathlib.Core.List.{List, []}
use mathlib.Core.Path.{◌≡◌, refl, sym, ap, ap₂, ◌∙◌}
use native.Mathlib.Nat.{sub_self}
use native.Mathlib.Omega.{arith}
use lib.ListN.{get_or}
use Rattle.figure.specs.Figure.{bit_of}
use Rattle.netlist.specs.Live.{is_live, if_live, live_reads, readers, live_among, live_gates}
use Rattle.area.specs.Layout.{inputs, gates}
use Rattle.area.specs.Net.{net_of}
use Rattle.area.proofs.Net.{gate_count, same-live-gates}
use Rattle.live.specs.Counted.{live_counted}
use Rattle.live.proofs.Count.{CountsOf}

has-reader : (r : ℕ) → 0 < r → is_live r ≡ true
has-reader zero l = absurd (omega arith)
has-reader (suc r) l = refl

-- what a gate adds to the raw flip sum
pub flip-live : (r units : ℕ) → 0 < r → if_live r units ≡ units
flip-live r units l = rw (has-reader r l)

pub flip-dead : (r units : ℕ) → r ≡ 0 → if_live r units ≡ 0
flip-dead r units e = rw e

-- what is left of the loop over gates: at gate g of k, the first of which is source n, and at the end
module _ (xs : List ℕ) (n g k : ℕ) (l : g < k) where
  live-next : live_counted xs (n + g) (k - g) ≡ bit_of (is_live (get_or xs (n + g) 0)) + live_counted xs (n + (g + 1)) (k - (g + 1))
  live-next =
      let more : k - g ≡ suc (k - (g + 1)) = omega arith in
      let next : suc (n + g) ≡ n + (g + 1) = omega arith in
      ap (live_counted xs (n + g)) more ∙ ap (λ (s : ℕ). bit_of (is_live (get_or xs (n + g) 0)) + live_counted xs s (k - (g + 1))) next

  pub live_more : 0 < get_or xs (n + g) 0 → live_counted xs (n + g) (k - g) ≡ suc (live_counted xs (n + (g + 1)) (k - (g + 1)))
  live_more h = omega (arith, live-next, ap bit_of (has-reader (get_or xs (n + g) 0) h))

  pub live_same : get_or xs (n + g) 0 ≡ 0 → live_counted xs (n + g) (k - g) ≡ live_counted xs (n + (g + 1)) (k - (g + 1))
  live_same h = omega (arith, live-next, ap (λ (c : ℕ). bit_of (is_live c)) h)

pub live_end : (xs : List ℕ) (s k : ℕ) → live_counted xs s (k - k) ≡ 0
live_end xs s k = ap (live_counted xs s) (sub_self k)

-- from counts to reads
live-among : (xs rs : List ℕ) → CountsOf xs rs → (k s : ℕ) → live_counted xs s k ≡ live_among rs s k
live-among xs rs h zero s = refl
live-among xs rs h (suc k) s = ap₂ ◌+◌ (ap (λ (c : ℕ). bit_of (is_live c)) (h s)) (live-among xs rs h k (suc s))

-- the live gates of document 01, whatever the kinds and chances
module _ (ws xs : List ℕ) (counted : (s : ℕ) → get_or xs s 0 ≡ readers (net_of ws [] []) s) (kinds chances : List ℕ) where
  all-counted : CountsOf xs (live_reads (net_of ws [] []))
  unfolding readers
  all-counted = counted

  pub live-gates-are : live_counted xs (inputs ws) (gates ws) ≡ live_gates (net_of ws kinds chances)
  unfolding live_gates
  live-gates-are =
      live-among xs (live_reads (net_of ws [] [])) all-counted (gates ws) (inputs ws)
      ∙ ap (live_among (live_reads (net_of ws [] [])) (inputs ws)) (sym (gate_count ws [] []))
      ∙ same-live-gates ws [] [] kinds chances
