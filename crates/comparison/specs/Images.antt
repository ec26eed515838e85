-- What two images are compared by: each is opened into an area of zeros that holds every netlist, and averaged there with weight 1 for every pattern.
use Rattle.std.specs.Prelude.{ℕ, ◌^◌, List, replicate, Result, Ok, Err}
use Rattle.refusal.specs.Judgement.{Judgement}
use Rattle.refusal.specs.Judgement.{Fine, answer}
use Rattle.bound.specs.Sharp.{error_halves}
use Rattle.area.specs.Layout.{most_words}
use Rattle.image.specs.Image.{image_inputs, image_gates, image_outputs}
use Rattle.image.specs.Netlist.{image_net}
use Rattle.calls.specs.Judgements.{image_judgement}
use Rattle.calls.specs.Calls.{open_words, open_live, reliability_for, average_of}
use Rattle.comparison.specs.declared.Module.{Module}
use Rattle.comparison.specs.declared.Image.{Image}
use Rattle.comparison.specs.declared.RefusedImage.{RefusedImage}
use Rattle.comparison.specs.declared.Image.TheVariants.{First as FirstImage, Second as SecondImage}
use Rattle.refusal.specs.declared.Refusal.{Refusal}
use Rattle.comparison.specs.declared.ImageError.{ImageError}
use Rattle.comparison.specs.Standing.{Compared, answered}

-- the words that opening leaves in an area of so many zeros
abbrev pub new_area : List ℕ
new_area = replicate most_words 0

unfoldable pub opened_words : List ℕ → List ℕ
opened_words bs = open_words bs new_area

-- the reliability of an image under pattern q, and its average with weight 1 for every pattern
abbrev pub figures_of : List ℕ → ℕ → ℕ
figures_of bs q = reliability_for (opened_words bs) q

abbrev pub ones : List ℕ → List ℕ
ones bs = replicate (2 ^ image_inputs bs) 1

unfoldable pub equal_average : List ℕ → ℕ
equal_average bs = average_of (opened_words bs) (ones bs)

-- counts, live gates, average in units, error in half units: one more is the error of the average
abbrev pub module_of : List ℕ → Module
module_of bs =
    record {
      inputs = image_inputs bs;
      gates = image_gates bs;
      outputs = image_outputs bs;
      live = open_live bs;
      average = equal_average bs;
      error = error_halves (image_net bs);
    }

-- the answers about one image
abbrev pub error_read : Judgement → ℕ → ℕ → Result ImageError Refusal
error_read judged halves live = answer judged (record { halves = halves; live = live })

abbrev pub module_read : Judgement → Module → Result Module Refusal
module_read judged m = answer judged m

-- a module that is read from one of the two images
abbrev pub with_image : Image → Result Module Refusal → Result Module RefusedImage
with_image image (Ok m) = Ok m
with_image image (Err why) = Err (record { image = image; refusal = why })

-- the answer about two: the first image is judged before the second
abbrev pub compared_if : Judgement → Judgement → Compared → Compared
compared_if Fine Fine told = told
compared_if Fine (Err why) told = Err (record { image = SecondImage; refusal = why })
compared_if (Err why) other told = Err (record { image = FirstImage; refusal = why })

abbrev pub compared : List ℕ → List ℕ → Compared
compared bs cs = compared_if (image_judgement bs) (image_judgement cs) (answered (module_of bs) (figures_of bs) (module_of cs) (figures_of cs))
