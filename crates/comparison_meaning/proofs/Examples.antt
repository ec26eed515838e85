-- Worked comparisons, by computation. Assumes nothing.
use mathlib.Core.Path.{refl}
use lib.Ieee.{of_bits}
use Rattle.rounding.specs.Rounding.{round_div, blend, to_units}
use Rattle.chance.specs.Number.{chance_scale, whole_chance, at_most_half, from_zero_to_one}
use Rattle.chance.specs.Flip.{flip_of, in_range, flip_accepted, chance_of, flip_chance, flip_units}
use Rattle.figure.specs.Figure.{answer, difference, start_values, gate_step, gate_failure, gate_word, output_step}
use Rattle.netlist.specs.Live.{live_reads, readers, live_gates}
use Rattle.bound.specs.Sharp.{error_halves}
use Rattle.area.specs.Rules.{gate_shape, used_below, counts_in_range}
use Rattle.area.specs.Sum.{flip_sum, with_sum}
use Rattle.area.specs.Figures.{gate_word_from}
use Rattle.work.specs.Work.{gate_figure, work_gate, reliability_now, work_reliability, work_all}
use Rattle.live.specs.Shared.{shared_judgement}
use Rattle.image.specs.Image.{middle}
use Rattle.image.specs.Refusals.{length_right, back_right, trailer_refusal, flip_refusal, gate_refusal, output_refusal, middle_refusal, image_refusal}
use Rattle.image.specs.Loading.{record_chance, record_units, middle_words, image_words}
use Rattle.image.specs.Netlist.{image_net}
use Rattle.calls.specs.Judgements.{image_judgement}
use Rattle.calls.specs.Calls.{open_words, open_live, reliability_for, average_of}
use Rattle.comparison.specs.Standing.{beyond, verdict, patterns_between}
use Rattle.comparison.specs.Images.{opened_words, equal_average}
use Rattle.comparison_meaning.specs.Examples.{ExamplesHold}

pub examples-hold : ExamplesHold
unfolding
    flip_units at_most_half flip_accepted in_range from_zero_to_one of_bits flip_chance flip_of chance_of whole_chance chance_scale to_units round_div blend
    image_judgement image_refusal trailer_refusal length_right counts_in_range back_right middle_refusal middle gate_refusal flip_refusal output_refusal gate_shape used_below
    shared_judgement readers live_reads live_gates image_net record_chance record_units image_words middle_words open_live open_words with_sum flip_sum reliability_for
    average_of
    work_all work_reliability reliability_now work_gate gate_figure gate_word_from gate_word gate_failure gate_step start_values difference answer output_step
    error_halves beyond verdict patterns_between opened_words equal_average
examples-hold = refl
