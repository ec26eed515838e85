-- The worked images, by computation. Assumes nothing.
use mathlib.Core.Path.{refl}
use lib.Ieee.{of_bits}
use Rattle.rounding.specs.Rounding.{round_div, blend, to_units}
use Rattle.chance.specs.Number.{chance_scale, whole_chance, at_most_half, from_zero_to_one}
use Rattle.chance.specs.Flip.{flip_of, in_range, flip_accepted, chance_of, flip_chance}
use Rattle.figure.specs.Figure.{answer, difference, start_values, gate_step, gate_failure}
use Rattle.netlist.specs.Netlist.{right_values}
use Rattle.netlist.specs.Live.{live_reads, readers}
use Rattle.suppose.specs.Suppose.{shared_gates, supposed_failures, supposed_figure, shared_reliability}
use Rattle.area.specs.Rules.{gate_shape, used_below, counts_in_range}
use Rattle.image.specs.Image.{middle}
use Rattle.image.specs.Refusals.{length_right, back_right, trailer_refusal, flip_refusal, gate_refusal, output_refusal, middle_refusal, image_refusal}
use Rattle.image.specs.Loading.{record_chance}
use Rattle.image.specs.Netlist.{image_net}
use Rattle.shared.specs.Shared.{shared_image_judgement, image_shared}
use Rattle.shared_meaning.specs.Sheets.{SharedSheets}

pub shared-sheets : SharedSheets
unfolding
    shared_image_judgement image_shared shared_reliability supposed_figure supposed_failures shared_gates readers live_reads image_net record_chance right_values
    image_refusal trailer_refusal length_right counts_in_range back_right middle_refusal middle gate_refusal flip_refusal output_refusal gate_shape used_below
    at_most_half flip_accepted in_range from_zero_to_one of_bits flip_chance flip_of chance_of whole_chance chance_scale to_units round_div blend
    gate_failure gate_step start_values difference answer
shared-sheets = record { shared_hold = refl; judged_hold = refl; units_hold = refl; above_one = refl; nine_refused = refl }
