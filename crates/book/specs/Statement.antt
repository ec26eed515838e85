-- Demand 3, one claim about the whole list: document 01, "The list and the book". proofs/List.antt proves it.
use Rattle.std.specs.Prelude.{ℕ, ◌+◌, ◌*◌, ◌≤◌, List, [], ◌∷◌, ◌≢◌, ◌≡◌, length, get_or}
use Rattle.refusal.specs.Judgement.{Fine, refused}
use Rattle.rounding.specs.Rounding.{units_in_one}
use Rattle.chance.specs.Number.{chance_scale}
use Rattle.netlist.specs.declared.Method.TheVariants.{Flip}
use Rattle.netlist.specs.Live.{live_gates}
use Rattle.netlist.specs.Sum.{raw_flip_sum}
use Rattle.netlist.specs.Seen.{seen_counts}
use Rattle.bound.specs.Sharp.{error_halves}
use Rattle.bound.specs.Statements.{NearExact, NearAverage}
use Rattle.area.specs.Layout.{gates, outputs, reliability_word, sum_low_word, sum_high_word, needed}
use Rattle.area.specs.Sum.{low_bits, high_bits}
use Rattle.area.specs.Net.{net_of}
use Rattle.fresh.specs.Statements.{FiguresHeld}
use Rattle.image.specs.Image.{image_length, image_gates, image_outputs}
use Rattle.image.specs.Netlist.{image_net}
use Rattle.calls.specs.Judgements.{Call, open_image, toggle_input, set_flip, read_netlist, read_gate, take_average, count_seen, write_image}
use Rattle.calls.specs.Judgements.{open_judgement, judgement}
use Rattle.calls.specs.Calls.{open_words, average_of, left}
use Rattle.written.specs.Image.{area_image}
use Rattle.written_opened.specs.Statements.{words_over, at_pattern_zero, in_units, toggled_all, ListsOnes, SameAgain}
use Rattle.book.specs.Book.{Book, image_book, book_judgement, book_step}
use Rattle.refusal.specs.declared.Cause.TheVariants.{AreaRule}

-- so many units are within 1.5 for each live gate of U × the exact sum at the book's pattern, and so many as an average within half a unit more
abbrev pub WithinBound : ℕ → Book → Type 0
WithinBound units b = NearExact (3 * live_gates b.net) units_in_one chance_scale b.net b.pattern units

abbrev pub AverageWithin : ℕ → List ℕ → Book → Type 0
AverageWithin units weights b = NearAverage (3 * live_gates b.net + 1) units_in_one chance_scale b.net weights units

-- the same with the sharper error of document 02, card 6, by the book's kinds
abbrev pub WithinSharp : ℕ → Book → Type 0
WithinSharp units b = NearExact (error_halves b.net) units_in_one chance_scale b.net b.pattern units

abbrev pub AverageSharp : ℕ → List ℕ → Book → Type 0
AverageSharp units weights b = NearAverage (error_halves b.net + 1) units_in_one chance_scale b.net weights units

-- words 5 and 6 hold the low and the high 32 bits of the book's raw flip sum, its chances converted
pub record SumHeld (ws : List ℕ) (b : Book) : Type 0 where
  pub low : sum_low_word ws ≡ low_bits (raw_flip_sum units_in_one chance_scale b.net)
  pub high : sum_high_word ws ≡ high_bits (raw_flip_sum units_in_one chance_scale b.net)

-- what holds of an area's words between calls: word 4 is within both bounds, the right values, the failures and the reliability
-- held are those of the book's netlist for the book's pattern, and so is the raw flip sum
pub record Current (ws : List ℕ) (b : Book) : Type 0 where
  pub within : WithinBound (reliability_word ws) b
  pub sharp : WithinSharp (reliability_word ws) b
  pub figures : FiguresHeld chance_scale b.net b.pattern ws
  pub sum : SumHeld ws b

-- the image that is written of an area has the length that the book's counts give, and holds the book's netlist, each chance as whole units. Opened in any
-- area with room for them it is not refused, and leaves the words that this area has once turned to pattern 0; toggling the inputs that are 1 in the book's
-- pattern, in any order, reaches these; and writing from the area opened gives the same bytes
pub record ImageKept (ws : List ℕ) (b : Book) : Type 0 where
  pub long : length (area_image ws) ≡ image_length (length b.net.gates) (length b.net.outputs)
  pub holds : image_net (area_image ws) ≡ in_units b.net
  pub accepted : (size : ℕ) → needed (length b.net.gates) (length b.net.outputs) ≤ size → open_judgement (area_image ws) size ≡ Fine
  pub opened : (us : List ℕ) → needed (length b.net.gates) (length b.net.outputs) ≤ length us
      → open_words (area_image ws) us ≡ words_over (at_pattern_zero ws) us
  pub turned : (is : List ℕ) → ListsOnes b.net.inputs b.pattern is → toggled_all ws is ≡ at_pattern_zero ws
  pub again : (us : List ℕ) → needed (length b.net.gates) (length b.net.outputs) ≤ length us → SameAgain ws us

-- what is promised of the answer of a call that is not refused, by the book at that call
abbrev pub AnswerKept : List ℕ → Book → Call → Type 0
AnswerKept ws b (open_image bs) = Unit {0}
AnswerKept ws b (toggle_input i) = Unit {0}
AnswerKept ws b (set_flip g kind field) = Unit {0}
AnswerKept ws b read_netlist = Unit {0}
AnswerKept ws b (read_gate g) = Unit {0}
AnswerKept ws b (take_average weights) = AverageWithin (average_of ws weights) weights b × AverageSharp (average_of ws weights) weights b
-- whichever the method, the counts are those of single flips on the book's netlist
AnswerKept ws b (count_seen method patterns slots) = seen_counts method (net_of ws [] []) patterns ≡ seen_counts Flip b.net patterns
AnswerKept ws b (write_image room) = ImageKept ws b

-- a call is refused exactly where the book says, with that number and place, and never with 14
pub record CallKept (size : ℕ) (ws : List ℕ) (b : Book) (call : Call) : Type 0 where
  pub judged : judgement ws call ≡ book_judgement b size call
  pub never_14 : (place : ℕ) → judgement ws call ≢ refused AreaRule place
  pub answer : judgement ws call ≡ Fine → AnswerKept ws b call

-- on an area of `size` words, which are ws, and whose book is b: it is current now and after each of the calls, and each call is as promised
abbrev pub Kept : ℕ → List ℕ → Book → List Call → Type 0
Kept size ws b [] = Current ws b
Kept size ws b (call ∷ calls) = Current ws b × CallKept size ws b call × Kept size (left ws call) (book_step b size call) calls

-- an accepted opening into an area that held any words, then any calls, further openings and refused calls among them
abbrev pub Demand3 : Type 0
Demand3 =
    (ws bs : List ℕ) (calls : List Call)
    → open_judgement bs (length ws) ≡ Fine
    → Kept (length ws) (open_words bs ws) (image_book bs) calls

-- beside demand 3, of any area: the words that a call needs, by the image's counts at opening and by the area's elsewhere
abbrev pub needed_by : List ℕ → Call → ℕ
needed_by ws (open_image bs) = needed (image_gates bs) (image_outputs bs)
needed_by ws (toggle_input i) = needed (gates ws) (outputs ws)
needed_by ws (set_flip g kind field) = needed (gates ws) (outputs ws)
needed_by ws read_netlist = needed (gates ws) (outputs ws)
needed_by ws (read_gate g) = needed (gates ws) (outputs ws)
needed_by ws (take_average weights) = needed (gates ws) (outputs ws)
needed_by ws (count_seen method patterns slots) = needed (gates ws) (outputs ws)
needed_by ws (write_image room) = needed (gates ws) (outputs ws)

-- vs has the length of ws, and its words from index k on
pub record Untouched (k : ℕ) (ws vs : List ℕ) : Type 0 where
  pub size : length vs ≡ length ws
  pub past : (i : ℕ) → k ≤ i → get_or vs i 0 ≡ get_or ws i 0

-- no call changes the area's length, or a word past those that it needs
abbrev pub PastUntouched : Type 0
PastUntouched = (ws : List ℕ) (call : Call) → Untouched (needed_by ws call) ws (left ws call)
