-- Counting reads in a list of counts: one read, the reads of a gate, and those of all later gates. Assumes nothing.
use Prim.Native.Nat.{ℕ, zero, suc, ◌+◌, ◌-◌, ◌*◌, ◌≤◌, ◌<◌}
use mathlib.Core.Bool.{Bool, true, false, cond}
use mathlib.Core.List.{List, [], ◌++◌}
use mathlib.Core.Path.{◌≡◌, refl, sym, ap, ap₂, ◌∙◌}
use native.Mathlib.Nat.{add-zero, sub-zero, sub_self}
use native.Mathlib.Numerals.{add-one}
use native.Mathlib.Omega.{arith}
use lib.ListN.{length, get_or, drop, replicate, length-take, length-append}
use Rattle.lists.specs.Lists.{count}
use Rattle.netlist.specs.Live.{is_live, if_live, with_gate, live_reads_from, live_reads, readers}
use Rattle.lists.proofs.Parts.{zeros-at}
use Rattle.lists.proofs.Counts.{count-length}
use Rattle.netlist.proofs.Live.{count-with, count-later}
use Rattle.area.specs.Layout.{most_pins, most_gates, most_outputs, most_sources}
use Rattle.area.specs.Layout.{inputs, gates, outputs, pin_count, pins, used_pins, outputs_index, output_words}
use Rattle.area.specs.Net.{gates_from, net_of}
use Rattle.area.specs.Rules.{NetSound}
use Rattle.area.proofs.Words.{used-below}
use Rattle.live.specs.Counted.{Counts, Added, reads_of, gate_reads}

-- xs has at each source how often it stands in rs
abbrev pub CountsOf : List ℕ → List ℕ → Type 0
CountsOf xs rs = (s : ℕ) → get_or xs s 0 ≡ count s rs

pub no_reads : Counts (replicate most_sources 0)
no_reads = record { long = refl; few = λ s. omega (arith, zeros-at most_sources s) }

-- the reads by the outputs and by the live ones of the gates from j on
abbrev pub reads_after : List ℕ → ℕ → List ℕ
reads_after ws j = live_reads_from (output_words ws) (inputs ws + j) (gates_from ws [] [] j (gates ws - j))

-- before the first gate that is looked at there are the outputs, after the last one all live readers
pub first_reads : (ws xs : List ℕ) → Added (replicate most_sources 0) (output_words ws) xs → CountsOf xs (reads_after ws (gates ws))
first_reads ws xs added s = rw (sub_self (gates ws)) (omega (arith, added.each s, zeros-at most_sources s))

pub all-reads : (ws xs : List ℕ) → CountsOf xs (reads_after ws 0) → (s : ℕ) → get_or xs s 0 ≡ readers (net_of ws [] []) s
unfolding readers live_reads
all-reads ws xs h s = rw (sub-zero (gates ws), add-zero (inputs ws)) at (h s)

reads-step : (ws : List ℕ) (j : ℕ) → j < gates ws → reads_after ws j ≡ with_gate (inputs ws + j) (used_pins ws j) (reads_after ws (j + 1))
reads-step ws j l =
    let more : gates ws - j ≡ suc (gates ws - (j + 1)) = omega arith in
    let next : suc (inputs ws + j) ≡ inputs ws + (j + 1) = omega arith in
    ap (λ (k : ℕ). live_reads_from (output_words ws) (inputs ws + j) (gates_from ws [] [] j k)) more
    ∙ ap₂ (λ (s i : ℕ). with_gate (inputs ws + j) (used_pins ws j) (live_reads_from (output_words ws) s (gates_from ws [] [] i (gates ws - (j + 1)))))
    next
    (sym (add-one j))

-- once the later gates are counted, a gate's readers are all there: it and the gates before it read earlier sources
module _ (ws : List ℕ) (sound : NetSound ws) (j : ℕ) (l : j < gates ws) where
  final : (d k : ℕ) → k + d ≡ j + 1 → count (inputs ws + j) (reads_after ws k) ≡ count (inputs ws + j) (reads_after ws (j + 1))
  final zero k e = ap (λ (i : ℕ). count (inputs ws + j) (reads_after ws i)) (omega arith)
  final (suc d) k e =
      ap (count (inputs ws + j)) (reads-step ws k (omega arith))
      ∙ count-later (inputs ws + j) (inputs ws + k) (used_pins ws k) (reads_after ws (k + 1)) (used-below ws sound k (omega arith)) (omega arith)
      ∙ final d (k + 1) (omega arith)

  pub all-counted : (xs : List ℕ) → CountsOf xs (reads_after ws (j + 1)) → get_or xs (inputs ws + j) 0 ≡ readers (net_of ws [] []) (inputs ws + j)
  unfolding readers live_reads
  all-counted xs h =
      let all = final (j + 1) 0 (omega arith) in
      h (inputs ws + j) ∙ sym (rw (sub-zero (gates ws), add-zero (inputs ws)) at all)

-- a gate that has a reader, and one that has none
pub live-added : (r : ℕ) (ps old new : List ℕ) → 0 < r → Added old ps new → Added old (reads_of r ps) new
live-added zero ps old new l added = absurd (omega arith)
live-added (suc r) ps old new l added = added

pub dead-added : (r : ℕ) (ps counts : List ℕ) → r ≡ 0 → length counts ≡ most_sources → Added counts (reads_of r ps) counts
dead-added zero ps counts e l = record { long = l; each = λ s. sym (add-zero (get_or counts s 0)) }
dead-added (suc r) ps counts e l = absurd (omega arith)

-- a turn of the loop over gates
pub gate-turn : (ws xs ys : List ℕ) (j : ℕ) → j < gates ws → CountsOf xs (reads_after ws (j + 1))
    → Added xs (gate_reads ws xs j) ys
    → CountsOf ys (reads_after ws j)
gate-turn ws xs ys j l h added s =
    let rs = reads_after ws (j + 1) in
    let source = inputs ws + j in
    let reads : count s (reads_of (get_or xs source 0) (used_pins ws j)) ≡ if_live (count source rs) (count s (used_pins ws j))
    = count-reads s (get_or xs source 0) (used_pins ws j) ∙ ap (λ (c : ℕ). if_live c (count s (used_pins ws j))) (h source) in
    omega (arith, added.each s, h s, ap (count s) (reads-step ws j l), count-with s source (used_pins ws j) rs)
  where
    count-reads : (t r : ℕ) (ps : List ℕ) → count t (reads_of r ps) ≡ if_live r (count t ps)
    count-reads t zero ps = refl
    count-reads t (suc r) ps = refl

-- at most one read a pin and one an output
with-length : (s : ℕ) (ps rs : List ℕ) → length (with_gate s ps rs) ≤ length ps + length rs
with-length s ps rs = go (is_live (count s rs))
  where
    go : (b : Bool) → length (cond b (ps ++ rs) rs) ≤ length ps + length rs
    go true = omega (arith, length-append ps rs)
    go false = omega arith

reads-length : (ws outs : List ℕ) (s j k : ℕ) → length (live_reads_from outs s (gates_from ws [] [] j k)) ≤ length outs + most_pins * k
reads-length ws outs s j zero = omega arith
reads-length ws outs s j (suc k) =
    omega (
      arith,
      with-length s (used_pins ws j) (live_reads_from outs (suc s) (gates_from ws [] [] (suc j) k)),
      length-take (pin_count ws j) (pins ws j),
      reads-length ws outs (suc s) (suc j) k,
    )

-- the counts stay small
pub few-reads : (ws xs : List ℕ) (j : ℕ) → gates ws ≤ most_gates → outputs ws ≤ most_outputs → length xs ≡ most_sources → CountsOf xs (reads_after ws j) → Counts xs
few-reads ws xs j g k l h =
    record {
      long = l;
      few = λ s.
          omega (
            arith,
            h s,
            count-length s (reads_after ws j),
            reads-length ws (output_words ws) (inputs ws + j) j (gates ws - j),
            length-take (outputs ws) (drop (outputs_index (gates ws)) ws),
          );
    }
