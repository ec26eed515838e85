-- Sheets with known results that are to be proved, as one table: document 01's conversions of chances and openings of images with what they come to; for
-- document 02, card 1, in how many listed patterns each gate's flip is seen; for card 3 an exact half in each place that rounds, both ways; for card 5 raw
-- flip sums; and for card 8 the chances on either side of 0.5.
-- `SheetsHold` says that the definitions give the table; proofs/Sheets.antt proves it.
use Rattle.std.specs.Prelude.{ℕ, ◌+◌, ◌-◌, ◌*◌, ◌/◌, ◌%◌, ◌^◌, List, [], ◌∷◌, ◌++◌, map, ◌≡◌, replicate, Result, Ok, Err}
use Rattle.lists.specs.Lists.{joined}
use Rattle.refusal.specs.Judgement.{Judgement}
use Rattle.refusal.specs.Judgement.{Fine, refused as refusal}
use Rattle.refusal.specs.Judgement.{unless_refused}
use Rattle.refusal.specs.declared.Cause.{Cause}
use Rattle.refusal.specs.declared.Cause.TheVariants.{SharedGate, ChanceAboveHalf}
use Rattle.chance.specs.declared.FlipFault.{FlipFault}
use Rattle.chance.specs.declared.FlipFault.TheVariants.{AboveHalf}
use Rattle.chance.specs.Number.{chance_scale}
use Rattle.chance.specs.Flip.{flip_units, read_units}
use Rattle.netlist.specs.declared.Method.{Method}
use Rattle.netlist.specs.Exact.{exact_sum}
use Rattle.netlist.specs.Seen.{seen_counts}
use Rattle.area.specs.Layout.{most_words, inputs, gates, sum_low_word, sum_high_word, figure}
use Rattle.area.specs.Net.{net_of}
use Rattle.image.specs.Image.{image_inputs, image_gates}
use Rattle.image.specs.Netlist.{image_net}
use Rattle.calls.specs.Judgements.{open_judgement, set_flip}
use Rattle.calls.specs.Calls.{open_words, open_live, reliability_for, average_of, work}

-- ---- fields: the eight bytes of a chance

abbrev pub never : List ℕ
never = replicate 8 0

abbrev pub twentieth : List ℕ
twentieth = 0x9a ∷ 0x99 ∷ 0x99 ∷ 0x99 ∷ 0x99 ∷ 0x99 ∷ 0xa9 ∷ 0x3f ∷ []

abbrev pub half : List ℕ
half = 0 ∷ 0 ∷ 0 ∷ 0 ∷ 0 ∷ 0 ∷ 0xe0 ∷ 0x3f ∷ []

-- the f64 after 0.5
abbrev pub past_half : List ℕ
past_half = 1 ∷ 0 ∷ 0 ∷ 0 ∷ 0 ∷ 0 ∷ 0xe0 ∷ 0x3f ∷ []

abbrev pub one : List ℕ
one = 0 ∷ 0 ∷ 0 ∷ 0 ∷ 0 ∷ 0 ∷ 0xf0 ∷ 0x3f ∷ []

-- the chance (16 + s) / 16 × 2^-k, for s below 16 and k from 1 to 1022
abbrev pub sixteenths : ℕ → ℕ → List ℕ
sixteenths s k = 0 ∷ 0 ∷ 0 ∷ 0 ∷ 0 ∷ 0 ∷ ((1023 - k) % 16 * 16 + s) ∷ ((1023 - k) / 16) ∷ []

abbrev pub power : ℕ → List ℕ
power k = sixteenths 0 k

-- ---- conversions: a kind, a field, its units, and whether the chance is let in, or refused as above 0.5

pub record Conversion : Type 0 where
  pub kind : ℕ
  pub field : List ℕ
  pub units : ℕ
  pub read : Result ℕ FlipFault

abbrev pub let_in : ℕ → List ℕ → ℕ → Conversion
let_in kind field units = record { kind = kind; field = field; units = units; read = Ok units }

abbrev pub too_high : ℕ → List ℕ → ℕ → Conversion
too_high kind field units = record { kind = kind; field = field; units = units; read = Err AboveHalf }

abbrev pub conversions : List Conversion
conversions =
    let_in 1 twentieth 53_687_091
    ∷ let_in 1 half 536_870_912
    ∷ too_high 1 one 1_073_741_824
    -- 2^-32; then the exact halves 2^-31, 3 × 2^-31 and 5 × 2^-31
    ∷ let_in 1 (power 32) 0
    ∷ let_in 1 (power 31) 0
    ∷ let_in 1 (sixteenths 8 30) 2
    ∷ let_in 1 (sixteenths 4 29) 2
    -- the f64 before 2^-31 and the one after it, which are no halves
    ∷ let_in 1 (0xff ∷ 0xff ∷ 0xff ∷ 0xff ∷ 0xff ∷ 0xff ∷ 0xff ∷ 0x3d ∷ []) 0
    ∷ let_in 1 (1 ∷ 0 ∷ 0 ∷ 0 ∷ 0 ∷ 0 ∷ 0 ∷ 0x3e ∷ []) 1
    -- strikes of 2^-16 and of 3 × 2^-16 with a window of 2^-15
    ∷ let_in 2 (0 ∷ 0 ∷ 0x80 ∷ 0x37 ∷ 0 ∷ 0 ∷ 0 ∷ 0x38 ∷ []) 0
    ∷ let_in 2 (0 ∷ 0 ∷ 0x40 ∷ 0x38 ∷ 0 ∷ 0 ∷ 0 ∷ 0x38 ∷ []) 2
    -- the f64 before 0.5 and the one after it, both nearest to 536,870,912 units; then the first chance that is more units
    ∷ let_in 1 (0xff ∷ 0xff ∷ 0xff ∷ 0xff ∷ 0xff ∷ 0xff ∷ 0xdf ∷ 0x3f ∷ []) 536_870_912
    ∷ too_high 1 past_half 536_870_912
    ∷ too_high 1 (1 ∷ 0 ∷ 0x40 ∷ 0 ∷ 0 ∷ 0 ∷ 0xe0 ∷ 0x3f ∷ []) 536_870_913
    -- strikes of 0.5 with a window of 1; of 10,610,063 × 2^-24 with 13,264,529 × 2^-24, which is 0.5 - 2^-48; of 8,392,705 × 2^-24 with 16,769,026 × 2^-24,
    -- which is 0.5 + 2^-47
    ∷ let_in 2 (0 ∷ 0 ∷ 0 ∷ 0x3f ∷ 0 ∷ 0 ∷ 0x80 ∷ 0x3f ∷ []) 536_870_912
    ∷ let_in 2 (0x8f ∷ 0xe5 ∷ 0x21 ∷ 0x3f ∷ 0x91 ∷ 0x66 ∷ 0x4a ∷ 0x3f ∷ []) 536_870_912
    ∷ too_high 2 (1 ∷ 0x10 ∷ 0 ∷ 0x3f ∷ 2 ∷ 0xe0 ∷ 0x7f ∷ 0x3f ∷ []) 536_870_912
    ∷ []

-- ---- images: gate records, output words, the trailer; every number below 256, so that its second byte is 0

-- a gate with at most two used pins
abbrev pub gate_record : ℕ → ℕ → ℕ → ℕ → ℕ → List ℕ → List ℕ
gate_record count table first second kind field = count ∷ kind ∷ table ∷ 0 ∷ first ∷ 0 ∷ second ∷ 0 ∷ 0 ∷ 0 ∷ 0 ∷ 0 ∷ field

abbrev pub buffer : ℕ → List ℕ → List ℕ
buffer source field = gate_record 1 2 source 0 1 field

abbrev pub and_gate : ℕ → ℕ → ℕ → List ℕ → List ℕ
and_gate first second kind field = gate_record 2 8 first second kind field

abbrev pub two_bytes : List ℕ → List ℕ
two_bytes [] = []
two_bytes (o ∷ os) = o ∷ 0 ∷ two_bytes os

-- n inputs, g gates, k outputs, and no heading
abbrev pub trailer : ℕ → ℕ → ℕ → List ℕ
trailer n g k =
    n ∷ 0 ∷ g ∷ 0 ∷ k ∷ 0 ∷ 1 ∷ 0 ∷ (20 * g + 2 * k) ∷ 0 ∷ 0 ∷ 0 ∷ (20 * g + 2 * k + 16) ∷ 0 ∷ 0 ∷ 0 ∷ []

-- the printed sheet: behind each input a buffer that flips half of the time, and an AND of both that never does
abbrev pub printed_image : List ℕ
printed_image = buffer 0 half ++ (buffer 1 half ++ (and_gate 2 3 0 never ++ (two_bytes (4 ∷ []) ++ trailer 2 3 1)))

-- document 001, figure 2.1: two ANDs at 0.05, on inputs 0, 1 and on inputs 1, 2, an output each
abbrev pub two_ands_image : List ℕ
two_ands_image = and_gate 0 1 1 twentieth ++ (and_gate 1 2 1 twentieth ++ (two_bytes (3 ∷ 4 ∷ []) ++ trailer 3 2 2))

-- an AND with an inverter behind it, each at 0.05
abbrev pub and_inverter_image : List ℕ
and_inverter_image = and_gate 0 1 1 twentieth ++ (gate_record 1 1 2 0 1 twentieth ++ (two_bytes (3 ∷ []) ++ trailer 2 2 1))

-- two buffers in a row that always flip
abbrev pub sure_buffers_image : List ℕ
sure_buffers_image = buffer 0 one ++ (buffer 1 one ++ (two_bytes (2 ∷ []) ++ trailer 1 2 1))

-- no gates, the output reads an input
abbrev pub no_gates_image : List ℕ
no_gates_image = two_bytes (0 ∷ []) ++ trailer 1 0 1

-- both pins of an AND on one gate; both on one input
abbrev pub gate_twice_image : List ℕ
gate_twice_image = buffer 0 half ++ (and_gate 1 1 0 never ++ (two_bytes (2 ∷ []) ++ trailer 1 2 1))

abbrev pub input_twice_image : List ℕ
input_twice_image = and_gate 0 0 0 never ++ (two_bytes (1 ∷ []) ++ trailer 1 1 1)

-- a gate with two readers, one of them dead
abbrev pub dead_reader_image : List ℕ
dead_reader_image = buffer 0 half ++ (buffer 1 half ++ (buffer 1 half ++ (two_bytes (2 ∷ []) ++ trailer 1 3 1)))

-- two buffers on input 0: the second behind the first; or both side by side, an output each
abbrev pub in_a_row : List ℕ → List ℕ → List ℕ
in_a_row first second = buffer 0 first ++ (buffer 1 second ++ (two_bytes (2 ∷ []) ++ trailer 1 2 1))

abbrev pub side_by_side : List ℕ → List ℕ → List ℕ
side_by_side first second = buffer 0 first ++ (buffer 0 second ++ (two_bytes (1 ∷ 2 ∷ []) ++ trailer 1 2 2))

-- the same two buffers on both pins of an AND that never flips
abbrev pub under_and : List ℕ → List ℕ → List ℕ
under_and first second = buffer 0 first ++ (buffer 0 second ++ (and_gate 1 2 0 never ++ (two_bytes (3 ∷ []) ++ trailer 1 3 1)))

-- input 0 and a buffer on it, on both pins of such an AND: the buffer's flip is seen under pattern 1 alone
abbrev pub seen_at_one : List ℕ → List ℕ
seen_at_one field = buffer 0 field ++ (and_gate 0 1 0 never ++ (two_bytes (2 ∷ []) ++ trailer 1 2 1))

-- a live gate, a dead one, and a live one that never flips
abbrev pub mixed_image : List ℕ
mixed_image = buffer 0 twentieth ++ (buffer 0 half ++ (gate_record 1 2 1 0 0 never ++ (two_bytes (3 ∷ []) ++ trailer 1 3 1)))

-- nine buffers behind each other, gate 1 and the last of them with these flips, the others with chance 0.5
abbrev pub long_image : List ℕ → List ℕ → List ℕ
long_image second last =
    buffer 0 half ++ (buffer 1 second ++ (joined (λ (j : ℕ). buffer (2 + j) half) 6 ++ (buffer 8 last ++ (two_bytes (9 ∷ []) ++ trailer 1 9 1))))

-- ---- openings: how an image is judged and its live gates; and, unless it is refused, the reliability and the exact sum at each pattern in rising order,
-- the average with all weights 1, and every gate's failure at pattern 0. The exact sums are fractions of `parts`.

pub record Opening : Type 0 where
  pub image : List ℕ
  pub judged : Judgement
  pub live : ℕ
  pub reliabilities : List ℕ
  pub average : ℕ
  pub failures : List ℕ
  pub exact : List ℕ
  pub parts : ℕ

-- an image that is accepted, and one that is refused
abbrev pub accepted : List ℕ → ℕ → List ℕ → ℕ → List ℕ → List ℕ → ℕ → Opening
accepted image live reliabilities average failures exact parts =
    record {
      image = image;
      judged = Fine;
      live = live;
      reliabilities = reliabilities;
      average = average;
      failures = failures;
      exact = exact;
      parts = parts;
    }

abbrev pub refused : List ℕ → ℕ → Cause → ℕ → Opening
refused image live cause place =
    record { image = image; judged = refusal cause place; live = live; reliabilities = []; average = 0; failures = []; exact = []; parts = 1 }

-- image, live gates, reliabilities, average, failures, exact sums of so many parts
abbrev pub openings : List Opening
openings =
    accepted printed_image 3 (805_306_368 ∷ 805_306_368 ∷ 805_306_368 ∷ 268_435_456 ∷ []) 671_088_640
    (536_870_912 ∷ 536_870_912 ∷ 268_435_456 ∷ []) (3 ∷ 3 ∷ 3 ∷ 1 ∷ []) 4
    ∷ accepted two_ands_image 2 (replicate 8 969_051_997) 969_051_997
    (53_687_091 ∷ 53_687_091 ∷ []) (replicate 8 4_686_047_914_827_681_907_366_887_202_708_521) (2 ^ 112)
    ∷ accepted and_inverter_image 2 (replicate 4 971_736_351) 971_736_351
    (53_687_091 ∷ 102_005_473 ∷ []) (replicate 4 2_349_514_328_487_009_488_939_682_662_145_065) (2 ^ 111)
    ∷ refused sure_buffers_image 2 ChanceAboveHalf 0
    ∷ accepted no_gates_image 0 (replicate 2 1_073_741_824) 1_073_741_824 [] (replicate 2 1) 1
    ∷ refused gate_twice_image 2 SharedGate 0
    ∷ accepted input_twice_image 1 (replicate 2 1_073_741_824) 1_073_741_824 (0 ∷ []) (replicate 2 1) 1
    ∷ accepted dead_reader_image 2 (replicate 2 536_870_912) 536_870_912 (536_870_912 ∷ 536_870_912 ∷ 536_870_912 ∷ []) (replicate 2 1) 2
    -- 0.5 in both of two buffers in a row; and in the second the f64 after it
    ∷ accepted (in_a_row half half) 2 (replicate 2 536_870_912) 536_870_912 (536_870_912 ∷ 536_870_912 ∷ []) (replicate 2 1) 2
    ∷ refused (in_a_row half past_half) 2 ChanceAboveHalf 1
    -- a gate step at a half: 268,435,456.5 goes down, 32,767.5 goes up
    ∷ accepted (in_a_row (power 2) (power 30)) 2 (replicate 2 805_306_368) 805_306_368
    (268_435_456 ∷ 268_435_456 ∷ []) (replicate 2 1_610_612_735) (2 ^ 31)
    ∷ accepted (in_a_row (power 16) (power 16)) 2 (replicate 2 1_073_709_056) 1_073_709_056
    (16_384 ∷ 32_768 ∷ []) (replicate 2 2_147_418_113) (2 ^ 31)
    -- an output product at a half: 1,073,692,672.5 goes down, 536,870,911.5 goes up
    ∷ accepted (side_by_side (power 15) (power 16)) 2 (replicate 2 1_073_692_672) 1_073_692_672
    (32_768 ∷ 16_384 ∷ []) (replicate 2 2_147_385_345) (2 ^ 31)
    ∷ accepted (side_by_side (power 1) (power 30)) 2 (replicate 2 536_870_912) 536_870_912
    (536_870_912 ∷ 1 ∷ []) (replicate 2 1_073_741_823) (2 ^ 31)
    -- a fold at a half: under pattern 0 a failure of 0.5 goes down, under pattern 1 one of 49,151.5 goes up
    ∷ accepted (under_and (power 15) (power 16)) 3 (1_073_741_824 ∷ 1_073_692_672 ∷ []) 1_073_717_248
    (32_768 ∷ 16_384 ∷ 0 ∷ []) (2_147_483_647 ∷ 2_147_385_345 ∷ []) (2 ^ 31)
    -- an average at a half: 1,073,741,822.5 goes down, 1,073,741,823.5 goes up
    ∷ accepted (seen_at_one (sixteenths 8 29)) 2 (1_073_741_824 ∷ 1_073_741_821 ∷ []) 1_073_741_822
    (3 ∷ 0 ∷ []) (1_073_741_824 ∷ 1_073_741_821 ∷ []) (2 ^ 30)
    ∷ accepted (seen_at_one (power 30)) 2 (1_073_741_824 ∷ 1_073_741_823 ∷ []) 1_073_741_824
    (1 ∷ 0 ∷ []) (1_073_741_824 ∷ 1_073_741_823 ∷ []) (2 ^ 30)
    ∷ []

-- ---- counts: an image, listed patterns, and for each gate in how many of them its flip is seen

pub record Counting : Type 0 where
  pub image : List ℕ
  pub patterns : List ℕ
  pub counts : List ℕ

abbrev pub countings : List Counting
countings =
    record { image = and_inverter_image; patterns = 0 ∷ 1 ∷ 2 ∷ 3 ∷ []; counts = 4 ∷ 4 ∷ [] }
    ∷ record { image = printed_image; patterns = 0 ∷ 1 ∷ 2 ∷ 3 ∷ []; counts = 2 ∷ 2 ∷ 4 ∷ [] }
    -- a pattern that is listed twice counts twice
    ∷ record { image = printed_image; patterns = 3 ∷ 3 ∷ 0 ∷ []; counts = 2 ∷ 2 ∷ 3 ∷ [] }
    -- a dead gate's flip is never seen
    ∷ record { image = dead_reader_image; patterns = 0 ∷ 1 ∷ []; counts = 2 ∷ 2 ∷ 0 ∷ [] }
    ∷ []

-- ---- raw flip sums: an image, and words 5 and 6 of the area that it is opened in, and those after gate 1's flip is set to chance 0.25

pub record Summing : Type 0 where
  pub image : List ℕ
  pub opened : List ℕ
  pub reset : List ℕ

abbrev pub summings : List Summing
summings =
    record { image = printed_image; opened = 1_073_741_824 ∷ 0 ∷ []; reset = 805_306_368 ∷ 0 ∷ [] }
    -- gate 0 is live, gate 1 dead, and gate 2 live and without a flip
    ∷ record { image = mixed_image; opened = 53_687_091 ∷ 0 ∷ []; reset = 53_687_091 ∷ 0 ∷ [] }
    -- nine live gates pass 2^32, eight reach it, and a set flip takes a sum below it or up to it
    ∷ record { image = long_image half half; opened = 536_870_912 ∷ 1 ∷ []; reset = 268_435_456 ∷ 1 ∷ [] }
    ∷ record { image = long_image half never; opened = 0 ∷ 1 ∷ []; reset = 4_026_531_840 ∷ 0 ∷ [] }
    ∷ record { image = long_image never (power 2); opened = 4_026_531_840 ∷ 0 ∷ []; reset = 0 ∷ 1 ∷ [] }
    ∷ []

-- ---- what the definitions give for each column

-- the reliabilities at all patterns in rising order, everything worked out afresh for each
abbrev pub at_patterns : List ℕ → List ℕ
at_patterns ws = joined (λ (q : ℕ). reliability_for ws q ∷ []) (2 ^ inputs ws)

abbrev pub failures_held : List ℕ → List ℕ
failures_held ws = joined (λ (j : ℕ). figure ws j / 2 ∷ []) (gates ws)

abbrev pub sum_words : List ℕ → List ℕ
sum_words ws = sum_low_word ws ∷ sum_high_word ws ∷ []

-- the exact sums, times the parts; and fractions, times the exact sum's denominator
abbrev pub exact_at : List ℕ → ℕ → List ℕ
exact_at bs parts = joined (λ (q : ℕ). exact_sum chance_scale (image_net bs) q * parts ∷ []) (2 ^ image_inputs bs)

abbrev pub scaled : List ℕ → List ℕ → List ℕ
scaled bs fractions = map (λ (f : ℕ). f * chance_scale ^ image_gates bs) fractions

-- the table, opened in an area of 8,264 words that held any words ws
pub record SheetsHold (ws : List ℕ) : Type 0 where
  pub conversions_hold : map (λ (c : Conversion). flip_units c.kind c.field) conversions ≡ map (λ (c : Conversion). c.units) conversions
  pub reads_hold : map (λ (c : Conversion). read_units c.kind c.field) conversions ≡ map (λ (c : Conversion). c.read) conversions
  pub judgements_hold : map (λ (s : Opening). open_judgement s.image most_words) openings ≡ map (λ (s : Opening). s.judged) openings
  pub live_hold : map (λ (s : Opening). open_live s.image) openings ≡ map (λ (s : Opening). s.live) openings
  pub reliabilities-hold :
      map (λ (s : Opening). unless_refused s.judged (at_patterns (open_words s.image ws)) []) openings
      ≡ map (λ (s : Opening). s.reliabilities) openings
  pub averages-hold :
      map (λ (s : Opening). unless_refused s.judged (average_of (open_words s.image ws) (replicate (2 ^ image_inputs s.image) 1)) 0) openings
      ≡ map (λ (s : Opening). s.average) openings
  pub failures-hold :
      map (λ (s : Opening). unless_refused s.judged (failures_held (open_words s.image ws)) []) openings
      ≡ map (λ (s : Opening). s.failures) openings
  pub exact-hold :
      map (λ (s : Opening). unless_refused s.judged (exact_at s.image s.parts) []) openings
      ≡ map (λ (s : Opening). scaled s.image s.exact) openings
  pub sums_hold : map (λ (s : Summing). sum_words (open_words s.image ws)) summings ≡ map (λ (s : Summing). s.opened) summings
  pub resets_hold : map (λ (s : Summing). sum_words (work (open_words s.image ws) (set_flip 1 1 (power 2)))) summings
      ≡ map (λ (s : Summing). s.reset) summings
  pub counts_hold : (method : Method)
      → map (λ (s : Counting). seen_counts method (net_of (open_words s.image ws) [] []) s.patterns) countings
      ≡ map (λ (s : Counting). s.counts) countings
