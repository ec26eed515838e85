-- Laws of the raw flip sum: which words decide it, that it is the netlist's, and that storing it leaves it as it is. Assumes nothing.
use Prim.Native.Nat.{ℕ, zero, suc, ◌+◌, ◌*◌, ◌≤◌, ◌<◌}
use mathlib.Core.List.{List, []}
use mathlib.Core.Logic.{◌≢◌}
use mathlib.Core.Path.{◌≡◌, sym, ap, ap₂, ◌∙◌}
use native.Mathlib.Nat.{le_trans}
use native.Mathlib.Omega.{arith}
use lib.ListN.{length, get_or, set, length-set}
use lib.Seq.{get_or-set_same, get_or-set_other}
use Rattle.lists.specs.Lists.{sum_below}
use Rattle.lists.proofs.Sums.{sum_same, sum-changed, sum-bounded, sum-term}
use Rattle.rounding.specs.Rounding.{to_units}
use Rattle.netlist.specs.Netlist.{gate_at}
use Rattle.netlist.specs.Live.{if_live, readers}
use Rattle.netlist.specs.Sum.{raw_flip_sum}
use Rattle.area.specs.Layout.{head_words, inputs, gates, flip}
use Rattle.area.specs.Layout.{sum_low_index, sum_low_word, sum_high_index, sum_high_word}
use Rattle.area.specs.Net.{net_of}
use Rattle.area.specs.Sum.{live_flip, flip_sum, low_bits, high_bits, stored_sum}
use Rattle.area.proofs.Net.{SameNet, same-net, same-readers, gate-at, gate_count}

-- the netlist and the flips decide it
pub same_sum : (vs ws : List ℕ) → SameNet vs ws → ((j : ℕ) → j < gates ws → flip vs j ≡ flip ws j) → flip_sum vs ≡ flip_sum ws
unfolding flip_sum
same_sum vs ws same flips =
    ap (λ (k : ℕ). sum_below k (live_flip vs)) same.same_gates
    ∙ sum_same (live_flip vs) (live_flip ws) (gates ws) (λ j l.
    ap₂ if_live (ap₂ readers (same-net vs ws [] [] same) (ap (λ (n : ℕ). n + j) same.same_inputs)) (flips j l))

-- it is at most so many for each gate, and at least what one gate adds
pub few-units : (ws : List ℕ) (b : ℕ) → ((j : ℕ) → j < gates ws → flip ws j ≤ b) → flip_sum ws ≤ gates ws * b
unfolding flip_sum
few-units ws b fits = sum-bounded (live_flip ws) b (gates ws) (λ j l. le_trans (at_most (readers (net_of ws [] []) (inputs ws + j)) (flip ws j)) (fits j l))
  where
    at_most : (r units : ℕ) → if_live r units ≤ units
    at_most zero units = omega arith
    at_most (suc r) units = omega arith

pub sum-has : (ws : List ℕ) (j : ℕ) → j < gates ws → live_flip ws j ≤ flip_sum ws
unfolding flip_sum
sum-has ws j l = sum-term (live_flip ws) (gates ws) j l

-- one flip changed: what its gate added goes, and what it adds now comes
pub changed-sum : (vs ws : List ℕ) (g : ℕ) → SameNet vs ws → g < gates ws → ((j : ℕ) → j < gates ws → j ≢ g → flip vs j ≡ flip ws j)
    → flip_sum vs + live_flip ws g ≡ flip_sum ws + if_live (readers (net_of ws [] []) (inputs ws + g)) (flip vs g)
unfolding flip_sum
changed-sum vs ws g same l flips =
    let read : (j : ℕ) → readers (net_of vs [] []) (inputs vs + j) ≡ readers (net_of ws [] []) (inputs ws + j)
    = λ j. ap₂ readers (same-net vs ws [] [] same) (ap (λ (n : ℕ). n + j) same.same_inputs) in
    let changed = sum-changed (live_flip vs) (live_flip ws) g (gates ws) l (λ j m n. ap₂ if_live (read j) (flips j m n)) in
    ap (λ (k : ℕ). sum_below k (live_flip vs) + live_flip ws g) same.same_gates
    ∙ changed
    ∙ ap (λ (r : ℕ). sum_below (gates ws) (live_flip ws) + if_live r (flip vs g)) (read g)

-- where each flip word is a chance in units, it is the netlist's
pub sum-held : (u d : ℕ) (ws kinds chances : List ℕ) → ((j : ℕ) → j < gates ws → flip ws j ≡ to_units u d (get_or chances j 0))
    → flip_sum ws ≡ raw_flip_sum u d (net_of ws kinds chances)
unfolding flip_sum raw_flip_sum
sum-held u d ws kinds chances flips =
    let net = net_of ws kinds chances in
    sum_same (live_flip ws) (λ j. if_live (readers net (inputs ws + j)) (to_units u d (gate_at net j).chance)) (gates ws) (λ j l.
    ap₂ if_live (same-readers ws [] [] kinds chances (inputs ws + j)) (flips j l ∙ sym (ap (λ g. to_units u d g.chance) (gate-at ws kinds chances j l))))
    ∙ sym (ap (λ (k : ℕ). sum_below k (λ j. if_live (readers net (inputs ws + j)) (to_units u d (gate_at net j).chance))) (gate_count ws kinds chances))

-- ---- a sum stored

module _ (ws : List ℕ) (sum : ℕ) where
  pub stored-length : length (stored_sum ws sum) ≡ length ws
  stored-length = length-set (set ws sum_low_index (low_bits sum)) sum_high_index (high_bits sum) ∙ length-set ws sum_low_index (low_bits sum)

  -- every word but its two is as it was
  pub stored_other : (i : ℕ) → i ≢ sum_low_index → i ≢ sum_high_index → get_or (stored_sum ws sum) i 0 ≡ get_or ws i 0
  stored_other i low high =
      get_or-set_other (set ws sum_low_index (low_bits sum)) sum_high_index i (high_bits sum) 0 high ∙ get_or-set_other ws sum_low_index i (low_bits sum) 0 low

  pub stored_low : head_words ≤ length ws → sum_low_word (stored_sum ws sum) ≡ low_bits sum
  stored_low long =
      get_or-set_other (set ws sum_low_index (low_bits sum)) sum_high_index sum_low_index (high_bits sum) 0 (λ e. omega arith)
      ∙ get_or-set_same ws sum_low_index (low_bits sum) 0 (omega arith)

  pub stored-high : head_words ≤ length ws → sum_high_word (stored_sum ws sum) ≡ high_bits sum
  stored-high long =
      get_or-set_same (set ws sum_low_index (low_bits sum)) sum_high_index (high_bits sum) 0 (omega (arith, length-set ws sum_low_index (low_bits sum)))
