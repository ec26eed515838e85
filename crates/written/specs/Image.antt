-- The image that is written from a work area: change request 7. ws is the list of the area's words.
use Rattle.std.specs.Prelude.{ℕ, List, ◌++◌, drop}
use Rattle.area.specs.Layout.{inputs, gates, outputs, pin_count, table, pins, flip, output}
use Rattle.flips.specs.Written.{units_kind, units_field}
use Rattle.image.specs.Image.{image_length}
use Rattle.records.specs.Bytes.{Contents, image_with}

-- what of an area is written: its counts, each gate's shape and flip, its outputs; no pattern, and nothing that is worked out
abbrev pub area_contents : List ℕ → Contents
area_contents ws =
    record {
      inputs = inputs ws;
      gates = gates ws;
      outputs = outputs ws;
      count = λ (j : ℕ). pin_count ws j;
      kind = λ (j : ℕ). units_kind (flip ws j);
      table = λ (j : ℕ). table ws j;
      pins = λ (j : ℕ). pins ws j;
      field = λ (j : ℕ). units_field (flip ws j);
      output = λ (k : ℕ). output ws k;
    }

abbrev pub area_image : List ℕ → List ℕ
area_image ws = image_with (area_contents ws)

abbrev pub area_image_length : List ℕ → ℕ
area_image_length ws = image_length (gates ws) (outputs ws)

-- the bytes of a slice that has room, the image over the first of them
abbrev pub area_image_over : List ℕ → List ℕ → List ℕ
area_image_over ws bytes = area_image ws ++ drop (area_image_length ws) bytes
