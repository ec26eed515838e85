-- The book of document 01, "The list and the book": what is current and exact after a list of calls. It sees how long the area is and what the calls are
-- given, but no word of the area and no answer.
use Rattle.std.specs.Prelude.{ℕ, List, length, set}
use Rattle.refusal.specs.Judgement.{Judgement}
use Rattle.refusal.specs.Judgement.{otherwise, unless_refused}
use Rattle.chance.specs.Flip.{flip_chance}
use Rattle.netlist.specs.Netlist.{Gate, Netlist, gate_at}
use Rattle.area.specs.Rules.{room_judgement}
use Rattle.work.specs.Work.{invert_bit}
use Rattle.image.specs.Netlist.{image_net}
use Rattle.calls.specs.Judgements.{Call, open_image, toggle_input, set_flip, read_netlist, read_gate, take_average, count_seen, write_image}
use Rattle.calls.specs.Judgements.{open_judgement, argument_judgement}

-- a netlist, whose gates have their flip kind and their chance before conversion, and a pattern
pub record Book : Type 0 where
  pub net : Netlist
  pub pattern : ℕ

-- what an image enters: its netlist, kinds and chances, and pattern 0
abbrev pub image_book : List ℕ → Book
image_book bs = record { net = image_net bs; pattern = 0 }

-- ---- which refusal a call gets, for an area of `size` words: at opening by the image; elsewhere 13 by the book's counts, then the arguments'

unfoldable pub held_judgement : Book → ℕ → Call → Judgement
held_judgement b size call =
    otherwise (room_judgement (length b.net.gates) (length b.net.outputs) size)
    (argument_judgement b.net.inputs (length b.net.gates) (length b.net.outputs) call)

abbrev pub book_judgement : Book → ℕ → Call → Judgement
book_judgement b size (open_image bs) = open_judgement bs size
book_judgement b size (toggle_input i) = held_judgement b size (toggle_input i)
book_judgement b size (set_flip g kind field) = held_judgement b size (set_flip g kind field)
book_judgement b size read_netlist = held_judgement b size read_netlist
book_judgement b size (read_gate g) = held_judgement b size (read_gate g)
book_judgement b size (take_average weights) = held_judgement b size (take_average weights)
book_judgement b size (count_seen method patterns slots) = held_judgement b size (count_seen method patterns slots)
book_judgement b size (write_image room) = held_judgement b size (write_image room)

-- ---- what a call enters

-- a gate with another flip; and a netlist whose gate g has it
abbrev pub reflipped : Gate → ℕ → ℕ → Gate
reflipped gate kind chance = record { pins = gate.pins; table = gate.table; kind = kind; chance = chance }

unfoldable pub with_flip : Netlist → ℕ → ℕ → ℕ → Netlist
with_flip net g kind chance =
    record { inputs = net.inputs; gates = set net.gates g (reflipped (gate_at net g) kind chance); outputs = net.outputs }

abbrev pub entered : Book → Call → Book
entered b (open_image bs) = image_book bs
entered b (toggle_input i) = record { net = b.net; pattern = invert_bit b.pattern i }
entered b (set_flip g kind field) = record { net = with_flip b.net g kind (flip_chance kind field); pattern = b.pattern }
entered b read_netlist = b
entered b (read_gate g) = b
entered b (take_average weights) = b
entered b (count_seen method patterns slots) = b
entered b (write_image room) = b

-- a refused call enters nothing
abbrev pub book_step : Book → ℕ → Call → Book
book_step b size call = unless_refused (book_judgement b size call) (entered b call) b
