-- What each call leaves in the area and answers: document 01, "Work area and calls". A refused call leaves every word as it was.
use Rattle.std.specs.Prelude.{ℕ, ◌*◌, ◌^◌, List, [], ◌++◌, length, get_or, drop, set}
use Rattle.lists.specs.Lists.{sum_below}
use Rattle.refusal.specs.Judgement.{unless_refused}
use Rattle.rounding.specs.Rounding.{round_div}
use Rattle.chance.specs.Flip.{flip_units}
use Rattle.netlist.specs.declared.Method.{Method}
use Rattle.netlist.specs.Live.{live_gates}
use Rattle.netlist.specs.Seen.{seen_counts}
use Rattle.area.specs.Layout.{inputs, gates, pattern_index, reliability_word, needed}
use Rattle.area.specs.Net.{net_of}
use Rattle.area.specs.Sum.{with_sum}
use Rattle.work.specs.Work.{work_all, toggle_words, set_words}
use Rattle.image.specs.Image.{image_gates, image_outputs}
use Rattle.image.specs.Loading.{image_words}
use Rattle.image.specs.Netlist.{image_net}
use Rattle.calls.specs.Judgements.{Call, open_image, toggle_input, set_flip, read_netlist, read_gate, take_average, count_seen, write_image, judgement}

-- open: the image's words, pattern 0, every figure worked out, and the raw flip sum; words past those needed are not touched
unfoldable pub open_words : List ℕ → List ℕ → List ℕ
open_words bs ws = with_sum (work_all (image_words bs ++ drop (needed (image_gates bs) (image_outputs bs)) ws))

-- what open answers: the number of live gates
unfoldable pub open_live : List ℕ → ℕ
open_live bs = live_gates (image_net bs)

-- the reliability with everything worked out afresh for pattern q
unfoldable pub reliability_for : List ℕ → ℕ → ℕ
reliability_for ws q = reliability_word (work_all (set ws pattern_index q))

-- the weighted average over all patterns
unfoldable pub average_of : List ℕ → List ℕ → ℕ
average_of ws weights =
    round_div (sum_below (2 ^ inputs ws) (λ q. get_or weights q 0 * reliability_for ws q)) (sum_below (2 ^ inputs ws) (λ q. get_or weights q 0))

-- the words that a call which is not refused leaves
abbrev pub work : List ℕ → Call → List ℕ
work ws (open_image bs) = open_words bs ws
work ws (toggle_input i) = toggle_words ws i
work ws (set_flip g kind field) = with_sum (set_words ws g (flip_units kind field))
work ws read_netlist = ws
work ws (read_gate g) = ws
work ws (take_average weights) = work_all ws
work ws (count_seen method patterns slots) = ws
work ws (write_image room) = ws

-- the words that a call leaves
abbrev pub left : List ℕ → Call → List ℕ
left ws call = unless_refused (judgement ws call) (work ws call) ws

-- the counts that a call leaves in the slice lent for them: one a gate, the entries past these as they were
unfoldable pub counts_left : List ℕ → Method → List ℕ → List ℕ → List ℕ
counts_left ws method patterns old =
    unless_refused (judgement ws (count_seen method patterns (length old))) (seen_counts method (net_of ws [] []) patterns ++ drop (gates ws) old) old
