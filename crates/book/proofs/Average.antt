-- The average that a call answers is the netlist's, so it is within the bound of the average. Assumes nothing.
use Prim.Native.Nat.{ℕ, ◌*◌, ◌^◌, ◌<◌}
use mathlib.Core.List.{List}
use mathlib.Core.Path.{◌≡◌, sym, ap, ap₂, subst, ◌∙◌}
use native.Mathlib.Omega.{arith}
use lib.ListN.{get_or, set}
use lib.Seq.{get_or-set_same, get_or-set_other}
use Rattle.rounding.specs.Rounding.{units_in_one, to_units, round_div}
use Rattle.chance.specs.Number.{chance_scale}
use Rattle.netlist.specs.Netlist.{Netlist}
use Rattle.netlist.specs.Figures.{reliability}
use Rattle.lists.specs.Lists.{sum_below}
use Rattle.netlist.specs.Average.{total_weight, average_units}
use Rattle.lists.proofs.Sums.{sum_same, some-sum}
use Rattle.bound.proofs.Average.{average-bound, sharp-average}
use Rattle.area.specs.Layout.{inputs, gates, pattern_index, pattern, flip_index, flip}
use Rattle.work.specs.Work.{work_all}
use Rattle.work.proofs.Frame.{same_gates, same-trans, same-store-pattern, same-work-all, work-all-flip, work-all-pattern}
use Rattle.fresh.proofs.WorkAll.{work-all-fresh}
use Rattle.fresh.proofs.Bridge.{reliability-holds}
use Rattle.fresh.proofs.Calls.{frame-net}
use Rattle.calls.specs.Calls.{reliability_for, average_of}
use Rattle.book.specs.Book.{Book}
use Rattle.book.specs.Statement.{AverageWithin, AverageSharp}
use Rattle.chance.proofs.Exact.{scale-pos}
use Rattle.book.proofs.Agree.{Agree, same-input-count, well-formed, kinds-honest}
use Rattle.calls.specs.Judgements.{WeightsFit}
use Rattle.work.proofs.Sound.{net-same}

-- weights that pass have a sum above 0
pub total-positive : (net : Netlist) (weights : List ℕ) → WeightsFit net.inputs weights → 0 < total_weight net weights
unfolding total_weight
total-positive net weights fit = subst (λ (k : ℕ). 0 < sum_below k (λ q. get_or weights q 0)) fit.one_each (some-sum weights fit.some)

module _ (size : ℕ) (ws : List ℕ) (b : Book) (agree : Agree size ws b) where
  -- with everything worked out afresh for another pattern, word 4 is that pattern's reliability
  pub reliability-for : (q : ℕ) → q < 2 ^ inputs ws → reliability_for ws q ≡ reliability units_in_one chance_scale b.net q
  unfolding reliability_for
  reliability-for q l =
      let kinds = agree.kinds in
      let chances = agree.chances in
      let stored = set ws pattern_index q in
      let after = work_all stored in
      let net = net-same ws stored agree.sound.workable.net (same-store-pattern ws q) in
      let same = same-trans ws stored after (same-store-pattern ws q) (same-work-all stored) in
      let kept : pattern after ≡ q = work-all-pattern stored ∙ get_or-set_same ws pattern_index q 0 (omega (arith, agree.sound.workable.net.long)) in
      let flips : (j : ℕ) → j < gates after → flip after j ≡ to_units units_in_one chance_scale (get_or chances j 0)
      = λ j k.
      work-all-flip stored j
      ∙ get_or-set_other ws pattern_index (flip_index j) q 0 (λ e. omega arith)
      ∙ agree.converted.flips j (omega (arith, same_gates ws after same)) in
      let held = net-same ws after agree.sound.workable.net same in
      reliability-holds chance_scale after kinds chances held (work-all-fresh stored net) (record { flips = flips })
      ∙ ap₂ (reliability units_in_one chance_scale) (frame-net ws after kinds chances same ∙ agree.held) kept

  pub average-is : (weights : List ℕ) → average_of ws weights ≡ average_units units_in_one chance_scale b.net weights
  unfolding average_of average_units total_weight
  average-is weights =
      let n = same-input-count size ws b agree in
      ap₂ round_div
      (sum_same (λ q. get_or weights q 0 * reliability_for ws q) (λ q. get_or weights q 0 * reliability units_in_one chance_scale b.net q) (2 ^ inputs ws)
      (λ q l. ap (λ (r : ℕ). get_or weights q 0 * r) (reliability-for q l))
      ∙ ap (λ (k : ℕ). sum_below (2 ^ k) (λ q. get_or weights q 0 * reliability units_in_one chance_scale b.net q)) n)
      (ap (λ (k : ℕ). sum_below (2 ^ k) (λ q. get_or weights q 0)) n)

  positive : (weights : List ℕ) → WeightsFit (inputs ws) weights → 0 < total_weight b.net weights
  positive weights fit = total-positive b.net weights (subst (λ (n : ℕ). WeightsFit n weights) (same-input-count size ws b agree) fit)

  pub average-sharp : (weights : List ℕ) → WeightsFit (inputs ws) weights → AverageSharp (average_of ws weights) weights b
  average-sharp weights fit =
      subst (λ (units : ℕ). AverageSharp units weights b) (sym (average-is weights))
      (sharp-average units_in_one chance_scale (omega arith) scale-pos b.net (well-formed size ws b agree) agree.single
      (kinds-honest size ws b agree) weights (positive weights fit))

  pub average-within : (weights : List ℕ) → WeightsFit (inputs ws) weights → AverageWithin (average_of ws weights) weights b
  average-within weights fit =
      subst (λ (units : ℕ). AverageWithin units weights b) (sym (average-is weights))
      (average-bound units_in_one chance_scale (omega arith) scale-pos b.net (well-formed size ws b agree) agree.single weights
      (positive weights fit))
