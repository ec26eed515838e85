-- `bench::open_loaded` meets its contract. Assumes nothing.
use Prim.Native.Nat.{ℕ}
use mathlib.Core.List.{List, []}
use mathlib.Core.Path.{◌≡◌, refl, sym, ap, ap₂, ◌∙◌}
use native.Mathlib.Omega.{arith}
use lib.ListN.{length, get_or}
use Rattle.refusal.specs.Judgement.{Judgement}
use Rattle.refusal.proofs.Laws.{passed-on, otherwise-first, otherwise-second}
use Rattle.netlist.specs.Live.{readers, live_gates}
use Rattle.area.specs.Net.{net_of}
use Rattle.area.proofs.Words.{few-sources}
use Rattle.live.specs.Counted.{live_counted}
use Rattle.live.specs.Shared.{shared_by, shared_judgement}
use Rattle.live.proofs.Counted.{live-gates-are}
use Rattle.live.proofs.Shared.{shared-are}
use Rattle.bench.specs.Answers.{opened}
use Rattle.bench.specs.Loaded.{room_of, loaded_judgement}
use Rattle.bench.proofs.open_loaded.Goals.{After-judge_shared, Start}
use Rattle.bench.proofs.open_loaded.Goals as goal

abbrev words : Start → List ℕ
words s = s.args.words.now

abbrev room : Start → Judgement
room s = room_of (words s) (length s.args.area.now)

-- refusal 9, as the program judges it
module _ (c : After-judge_shared) where
  abbrev counts : List ℕ
  counts = c.count_live-counted.result.readers

  counted : (s : ℕ) → get_or counts s 0 ≡ readers (net_of (words c.before.before.before.before.before.before.before.before.before) [] []) s
  counted = c.count_live-counted.ensures.by_index

  shared : shared_judgement (net_of (words c.before.before.before.before.before.before.before.before.before) [] []) ≡ c.judge_shared.result
  shared =
      sym
      (c.judge_shared.ensures
      ∙ ap₂ (shared_by (λ s. get_or counts s 0)) c.inputs-inputs.ensures c.gates-gates.ensures
      ∙ shared-are (words c.before.before.before.before.before.before.before.before.before) counts counted [] [])

pub judge_shared-requires : goal.judge_shared-requires
judge_shared-requires c =
    let net = c.requires.net_sound in
    let long = c.count_live-counted.ensures.sum_value.1 in
    let n = c.inputs-inputs.ensures in
    let g = c.gates-gates.ensures in
    (omega (arith, long, n, g, few-sources _ net), omega (arith, g, net.gates_fit))

pub open_fitting-requires : goal.open_fitting-requires
open_fitting-requires c = record { net_sound = c.requires.net_sound; by_index = c.requires.by_index; sum_value = c.count_live-counted.ensures.sum_value.0 }

pub returns : goal.returns
unfolding loaded_judgement
returns c =
    let start = (goal.at.returns c).Start in
    let there = (goal.at.returns c).After-judge_shared in
    let at-live = c.live_gates-live in
    let fine = shared there ∙ c.in_ok-judge_shared.was in
    let e = otherwise-second (shared_judgement (net_of (words start) [] [])) (room start) fine in
    let live : at-live.result ≡ live_gates (net_of (words start) [] [])
    = at-live.ensures
    ∙ ap₂ (live_counted (counts there)) c.inputs-inputs.ensures c.gates-gates.ensures
    ∙ live-gates-are (words start) (counts there) (counted there) [] [] in record { value = rw e (c.open_fitting.ensures.value ∙ ap (opened (room start)) live); area_after = rw e c.open_fitting.ensures.area_after }

pub returns-in_err-judge_shared : goal.returns-in_err-judge_shared
unfolding loaded_judgement
returns-in_err-judge_shared c =
    let e = otherwise-first (shared_judgement (net_of (words (goal.at.returns-in_err-judge_shared c).Start) [] [])) (room (goal.at.returns-in_err-judge_shared c).Start) _ _ (shared (goal.at.returns-in_err-judge_shared c).After-judge_shared ∙ c.in_err-judge_shared.was) in record { value = rw (passed-on c.from_residual.result c.in_err-judge_shared.field-0.0 c.from_residual.ensures.1, e) refl; area_after = rw e refl }
