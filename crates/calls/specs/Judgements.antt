-- A call as data, and the refusal that it gets, in document 01's order: at opening 1 to 8, then 9, then 13; elsewhere 13 and 14 of the area, then 10, 11,
-- 12; and, of document 02, 15, 16, 17 of card 1, 21 of card 7, and 22 of card 8: after 7 for the same gate, after 11 in a call.
use Rattle.std.specs.Prelude.{ℕ, ◌-◌, ◌^◌, ◌≤◌, ◌<◌, false, not, ◌&&◌, List, ◌≡◌, leb, ltb, eqb, length, get_or}
use Rattle.lists.specs.Lists.{all_zero}
use Rattle.refusal.specs.Judgement.{Judgement}
use Rattle.refusal.specs.Judgement.{Fine}
use Rattle.refusal.specs.Judgement.{refuse_unless, otherwise, lowest, word_judgement}
use Rattle.netlist.specs.declared.Method.{Method}
use Rattle.area.specs.Layout.{largest_weight, most_listed, inputs, gates, outputs, needed}
use Rattle.area.specs.Rules.{room_judgement, area_judgement}
use Rattle.live.specs.Shared.{shared_judgement}
use Rattle.image.specs.Image.{image_length, image_gates, image_outputs}
use Rattle.image.specs.Refusals.{flip_refusal, image_refusal}
use Rattle.image.specs.Netlist.{image_net}
use Rattle.refusal.specs.declared.Cause.TheVariants.{NotThere, CallFlip, WrongWeights, ListLength, ListedPattern, CountSlice, WrittenSlice}

-- the calls that are lent an area, with their other arguments
pub data Call : Type 0 where
  open_image : List ℕ → Call
  toggle_input : ℕ → Call
  set_flip : ℕ → ℕ → List ℕ → Call
  read_netlist : Call
  read_gate : ℕ → Call
  take_average : List ℕ → Call
  -- the method, the listed patterns, and the length of the slice that is lent for the counts
  count_seen : Method → List ℕ → ℕ → Call
  -- the length of the slice that is lent for the image
  write_image : ℕ → Call

-- 10: a call names an input or a gate that does not exist
abbrev pub named : ℕ → ℕ → Judgement
named x count = refuse_unless (ltb x count) NotThere x

-- 11: the flip that a call gives would get 7 in an image; then 22
abbrev pub flip_judgement : ℕ → ℕ → List ℕ → Judgement
flip_judgement g kind field = flip_refusal CallFlip g kind field

-- 12: not one weight for each pattern, else the lowest that is too large, else none but zeros
abbrev pub weight_judgement : List ℕ → ℕ → Judgement
weight_judgement weights = word_judgement weights largest_weight WrongWeights

unfoldable pub weights_judgement : ℕ → List ℕ → Judgement
weights_judgement n weights =
    otherwise (refuse_unless (eqb (length weights) (2 ^ n)) WrongWeights 0)
    (otherwise (lowest (weight_judgement weights) (length weights)) (refuse_unless (not (all_zero weights)) WrongWeights 0))

-- what is known of weights that pass
pub record WeightsFit (n : ℕ) (weights : List ℕ) : Type 0 where
  pub one_each : length weights ≡ 2 ^ n
  pub small : (q : ℕ) → q < length weights → get_or weights q 0 ≤ largest_weight
  pub some : all_zero weights ≡ false

-- 15: an empty list or one that is too long; else 16: the lowest position of a pattern that the inputs cannot have; else 17: fewer counts than gates
abbrev pub listed_judgement : ℕ → List ℕ → ℕ → Judgement
listed_judgement n patterns = word_judgement patterns (2 ^ n - 1) ListedPattern

unfoldable pub counts_judgement : ℕ → ℕ → List ℕ → ℕ → Judgement
counts_judgement n g patterns slots =
    otherwise (refuse_unless (leb 1 (length patterns) && leb (length patterns) most_listed) ListLength 0)
    (otherwise (lowest (listed_judgement n patterns) (length patterns)) (refuse_unless (leb g slots) CountSlice 0))

-- 21: a slice shorter than the image of g gates and k outputs
abbrev pub slice_judgement : ℕ → ℕ → ℕ → Judgement
slice_judgement g k room = refuse_unless (leb (image_length g k) room) WrittenSlice 0

-- opening an image into an area of `size` words
unfoldable pub open_judgement : List ℕ → ℕ → Judgement
open_judgement bs size =
    otherwise (image_refusal bs) (otherwise (shared_judgement (image_net bs)) (room_judgement (image_gates bs) (image_outputs bs) size))

-- an image by itself: what a call on images that is lent no area begins with
unfoldable pub image_judgement : List ℕ → Judgement
image_judgement bs = otherwise (image_refusal bs) (shared_judgement (image_net bs))

-- opening judges it so in every area that has room for its netlist, if it has one
abbrev pub JudgedAsOpened : Type 0
JudgedAsOpened =
    (bs : List ℕ) (size : ℕ) → (image_refusal bs ≡ Fine → needed (image_gates bs) (image_outputs bs) ≤ size) → open_judgement bs size ≡ image_judgement bs

-- the refusals but 13 and 14 of a call on a netlist with n inputs, g gates and k outputs; an image is judged by itself
unfoldable pub argument_judgement : ℕ → ℕ → ℕ → Call → Judgement
argument_judgement n g k (open_image bs) = Fine
argument_judgement n g k (toggle_input i) = named i n
argument_judgement n g k (set_flip x kind field) = otherwise (named x g) (flip_judgement x kind field)
argument_judgement n g k read_netlist = Fine
argument_judgement n g k (read_gate x) = named x g
argument_judgement n g k (take_average weights) = weights_judgement n weights
argument_judgement n g k (count_seen method patterns slots) = counts_judgement n g patterns slots
argument_judgement n g k (write_image room) = slice_judgement g k room

-- a call on an open area: the area's own refusal, then the arguments'
unfoldable pub lent_judgement : List ℕ → Call → Judgement
lent_judgement ws call = otherwise (area_judgement ws) (argument_judgement (inputs ws) (gates ws) (outputs ws) call)

-- the refusal that a call gets on an area whose words are ws
abbrev pub judgement : List ℕ → Call → Judgement
judgement ws (open_image bs) = open_judgement bs (length ws)
judgement ws (toggle_input i) = lent_judgement ws (toggle_input i)
judgement ws (set_flip g kind field) = lent_judgement ws (set_flip g kind field)
judgement ws read_netlist = lent_judgement ws read_netlist
judgement ws (read_gate g) = lent_judgement ws (read_gate g)
judgement ws (take_average weights) = lent_judgement ws (take_average weights)
judgement ws (count_seen method patterns slots) = lent_judgement ws (count_seen method patterns slots)
judgement ws (write_image room) = lent_judgement ws (write_image room)
