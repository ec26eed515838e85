-- Change request 7: what is written from an area holds its netlist, and opening it gives the words that the area has once turned to pattern 0. ws is the list
-- of the area's words, us that of the area which the image is opened in.
use Rattle.std.specs.Prelude.{ℕ, ◌/◌, ◌%◌, ◌^◌, ◌≤◌, ◌<◌, List, [], ◌∷◌, ◌++◌, map, ◌≡◌, length, take, drop, set}
use Rattle.lists.specs.Lists.{count, Below}
use Rattle.refusal.specs.Judgement.{Fine}
use Rattle.refusal.specs.Judgement.{otherwise}
use Rattle.rounding.specs.Rounding.{units_in_one, to_units}
use Rattle.chance.specs.Number.{chance_scale, whole_chance}
use Rattle.flips.specs.Written.{units_kind}
use Rattle.netlist.specs.Netlist.{Gate, Netlist}
use Rattle.area.specs.Layout.{inputs, gates, outputs, pattern_index, pattern, needed}
use Rattle.area.specs.Net.{net_of}
use Rattle.area.specs.Rules.{room_judgement, area_judgement}
use Rattle.live.specs.Shared.{shared_judgement}
use Rattle.image.specs.Netlist.{image_net}
use Rattle.work.specs.Work.{work_all}
use Rattle.fresh.specs.Fresh.{Fresh, Converted}
use Rattle.calls.specs.Judgements.{toggle_input, open_judgement}
use Rattle.calls.specs.Calls.{open_words, left}
use Rattle.written.specs.Image.{area_image}

-- how many words an area needs
abbrev pub needed_words : List ℕ → ℕ
needed_words ws = needed (gates ws) (outputs ws)

-- the words that an area needs, before what stands past them in another
abbrev pub words_over : List ℕ → List ℕ → List ℕ
words_over ws us = take (needed_words ws) ws ++ drop (needed_words ws) us

-- turned to pattern 0: every figure worked out for it
abbrev pub at_pattern_zero : List ℕ → List ℕ
at_pattern_zero ws = work_all (set ws pattern_index 0)

-- ---- the netlist that is written

-- a gate's chance, a whole number of 2^-1074, in units; and the gate whose chance is just so many, with the kind that it is written with
abbrev pub gate_units : Gate → ℕ
gate_units g = to_units units_in_one chance_scale g.chance

abbrev pub gate_in_units : Gate → Gate
gate_in_units g = record { pins = g.pins; table = g.table; kind = units_kind (gate_units g); chance = whole_chance (gate_units g) units_in_one }

-- nothing of a netlist is lost but the kinds, and what its chances lose when they become units
abbrev pub in_units : Netlist → Netlist
in_units net = record { inputs = net.inputs; gates = map gate_in_units net.gates; outputs = net.outputs }

-- the kinds and chances before conversion, which an area does not hold, are given beside its words
abbrev pub WrittenHolds : Type 0
WrittenHolds =
    (ws kinds chances : List ℕ) → area_judgement ws ≡ Fine → Converted chance_scale ws chances
    → image_net (area_image ws) ≡ in_units (net_of ws kinds chances)

-- ---- the turn, by calls

-- the words after so many calls that toggle one input each
abbrev pub toggled_all : List ℕ → List ℕ → List ℕ
toggled_all ws [] = ws
toggled_all ws (i ∷ is) = toggled_all (left ws (toggle_input i)) is

-- of n inputs with pattern q those that are 1, each listed once, in any order
pub record ListsOnes (n q : ℕ) (is : List ℕ) : Type 0 where
  pub below : Below n is
  pub once : (i : ℕ) → i < n → count i is ≡ q / 2 ^ i % 2

-- where figures are current, as the calls leave them, toggling these turns the area to pattern 0
abbrev pub TurnedByToggles : Type 0
TurnedByToggles = (ws is : List ℕ) → area_judgement ws ≡ Fine → Fresh ws → ListsOnes (inputs ws) (pattern ws) is → toggled_all ws is ≡ at_pattern_zero ws

-- ---- what opening the written image says and leaves

-- in any area that has room, whatever it held
abbrev pub WrittenOpened : Type 0
WrittenOpened =
    (ws us : List ℕ) → area_judgement ws ≡ Fine → needed_words ws ≤ length us
    → open_words (area_image ws) us ≡ words_over (at_pattern_zero ws) us

-- opening it is refused with 9 where the area's own netlist is, and with 13 where there is no room, and not otherwise
abbrev pub WrittenJudged : Type 0
WrittenJudged =
    (ws : List ℕ) (size : ℕ) → area_judgement ws ≡ Fine
    → open_judgement (area_image ws) size ≡ otherwise (shared_judgement (net_of ws [] [])) (room_judgement (gates ws) (outputs ws) size)

-- ---- written, opened and written again: the area opened passes 13 and 14, and gives the same bytes

pub record SameAgain (ws us : List ℕ) : Type 0 where
  pub passes : area_judgement (open_words (area_image ws) us) ≡ Fine
  pub same : area_image (open_words (area_image ws) us) ≡ area_image ws

abbrev pub WrittenTwice : Type 0
WrittenTwice = (ws us : List ℕ) → area_judgement ws ≡ Fine → needed_words ws ≤ length us → SameAgain ws us
