-- The printed sheet of document 01 as an image: it is accepted by an area of 33 words and by none of fewer, and enters that sheet's netlist in the book.
-- Then a list of calls on it. By computation. Assumes nothing.
use Prim.Native.Nat.{ℕ, ◌^◌}
use mathlib.Core.List.{List, [], ◌∷◌}
use mathlib.Core.Path.{◌≡◌, refl}
use lib.Ieee.{of_bits}
use lib.ListN.{replicate}
use Rattle.chance.specs.Number.{chance_scale, whole_chance, at_most_half, from_zero_to_one}
use Rattle.chance.specs.Flip.{flip_of, in_range, flip_accepted, chance_of, flip_chance}
use Rattle.netlist.specs.declared.Method.TheVariants.{Flip, Mask}
use Rattle.netlist.specs.Live.{live_reads, readers}
use Rattle.netlist.specs.Netlist.{Gate}
use Rattle.area.specs.Rules.{gate_shape, used_below, counts_in_range}
use Rattle.refusal.specs.Judgement.{Judgement}
use Rattle.refusal.specs.Judgement.{Fine, refused}
use Rattle.image.specs.Image.{middle}
use Rattle.image.specs.Refusals.{length_right, back_right, trailer_refusal, flip_refusal, gate_refusal, output_refusal, middle_refusal, image_refusal}
use Rattle.image.specs.Loading.{record_chance}
use Rattle.live.specs.Shared.{shared_judgement}
use Rattle.calls.specs.Judgements.{open_judgement, weights_judgement, counts_judgement, argument_judgement}
use Rattle.calls.specs.Judgements.{Call, open_image, toggle_input, set_flip, read_netlist, read_gate, take_average, count_seen, write_image}
use Rattle.calls.specs.Calls.{open_words}
use Rattle.calls.specs.Sheets.{half, past_half, printed_image}
use Rattle.image.specs.Netlist.{image_net}
use Rattle.book.specs.Book.{Book, image_book, with_flip, held_judgement, book_judgement, book_step}
use Rattle.book.specs.Statement.{Kept}
use Rattle.book.proofs.List.{demand3}
use Rattle.refusal.specs.declared.Cause.TheVariants.{WrongLength, NotThere, CallFlip, WrongWeights, AreaTooShort, ListLength, ListedPattern, CountSlice, WrittenSlice, ChanceAboveHalf}

pub not-refused : image_refusal printed_image ≡ Fine
unfolding
    image_refusal trailer_refusal length_right counts_in_range back_right middle_refusal middle gate_refusal flip_refusal output_refusal gate_shape used_below
    flip_accepted in_range from_zero_to_one of_bits at_most_half flip_chance flip_of chance_of whole_chance chance_scale
not-refused = refl

-- a buffer at chance 0.5, which is 2^1073 of the 2^1074 parts
abbrev half_buffer : ℕ → Gate
half_buffer source = record { pins = source ∷ []; table = 2; kind = 1; chance = 2 ^ 1073 }

pub book-net : image_net printed_image
    ≡ record {
      inputs = 2;
      gates = half_buffer 0 ∷ half_buffer 1 ∷ record { pins = 2 ∷ 3 ∷ []; table = 8; kind = 0; chance = 0 } ∷ [];
      outputs = 4 ∷ [];
    }
unfolding image_net middle record_chance flip_chance flip_of chance_of whole_chance chance_scale of_bits
book-net = refl

-- 8 + 8 × 3 + 1 words are enough, one fewer is 13
pub accepted : open_judgement printed_image 33 ≡ Fine
unfolding open_judgement shared_judgement readers live_reads image_net middle
accepted = rw not-refused refl

pub too_short : open_judgement printed_image 32 ≡ refused AreaTooShort 0
unfolding open_judgement shared_judgement readers live_reads image_net middle
too_short = rw not-refused refl

-- what the book says of a list of calls: input 1 toggled; no input 2; gate 0 to flip never; not-a-number; 0.5, and the f64 after it; no gate 3; three
-- weights; weights 0; counts of no patterns, of pattern 4 at position 1, into two entries, of pattern 3 twice; the image written into 77 bytes, into 78;
-- an image of no bytes
abbrev calls : List Call
calls =
    toggle_input 1
    ∷ toggle_input 2
    ∷ set_flip 0 0 (replicate 8 0)
    ∷ set_flip 1 1 (0 ∷ 0 ∷ 0 ∷ 0 ∷ 0 ∷ 0 ∷ 0xf8 ∷ 0x7f ∷ [])
    ∷ set_flip 1 1 half
    ∷ set_flip 1 1 past_half
    ∷ read_gate 3
    ∷ take_average (1 ∷ 1 ∷ 1 ∷ [])
    ∷ take_average (replicate 4 0)
    ∷ take_average (replicate 4 1)
    ∷ count_seen Flip [] 3
    ∷ count_seen Mask (3 ∷ 4 ∷ []) 2
    ∷ count_seen Flip (3 ∷ []) 2
    ∷ count_seen Mask (3 ∷ 3 ∷ []) 3
    ∷ write_image 77
    ∷ write_image 78
    ∷ open_image []
    ∷ read_netlist
    ∷ []

abbrev judgements : Book → ℕ → List Call → List Judgement
judgements b size [] = []
judgements b size (call ∷ more) = book_judgement b size call ∷ judgements (book_step b size call) size more

pub said : judgements (image_book printed_image) 33 calls
    ≡ Fine
    ∷ refused NotThere 2
    ∷ Fine
    ∷ refused CallFlip 1
    ∷ Fine
    ∷ refused ChanceAboveHalf 1
    ∷ refused NotThere 3
    ∷ refused WrongWeights 0
    ∷ refused WrongWeights 0
    ∷ Fine
    ∷ refused ListLength 0
    ∷ refused ListedPattern 1
    ∷ refused CountSlice 0
    ∷ Fine
    ∷ refused WrittenSlice 0
    ∷ Fine
    ∷ refused WrongLength 0
    ∷ Fine
    ∷ []
unfolding
    held_judgement argument_judgement image_net middle with_flip flip_refusal flip_accepted in_range from_zero_to_one of_bits at_most_half flip_chance flip_of chance_of
    whole_chance chance_scale weights_judgement counts_judgement open_judgement image_refusal trailer_refusal length_right
said = refl

-- and demand 3 speaks of it
pub kept : Kept 33 (open_words printed_image (replicate 33 0)) (image_book printed_image) calls
kept = demand3 (replicate 33 0) printed_image calls accepted

-- in an area that is too short the book says 13 first, whatever is named
pub short-first : book_judgement (image_book printed_image) 32 (toggle_input 2) ≡ refused AreaTooShort 0
unfolding held_judgement image_net middle
short-first = refl
