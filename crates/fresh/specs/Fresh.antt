-- Areas whose figures are current, and whose flips are a netlist's chances in units.
use Rattle.std.specs.Prelude.{ℕ, zero, suc, ◌+◌, ◌<◌, Bool, List, ◌≡◌, get_or}
use Rattle.rounding.specs.Rounding.{units_in_one, to_units}
use Rattle.area.specs.Layout.{inputs, gates, reliability_word, flip, figure, used_pins}
use Rattle.work.specs.Work.{gate_figure, reliability_now, reads_marked, work_if, mark_if}

-- every gate's figure word, and word 4, are what the rule makes of the words held
pub record Fresh (ws : List ℕ) : Type 0 where
  pub figures : (j : ℕ) → j < gates ws → figure ws j ≡ gate_figure ws j
  pub product : reliability_word ws ≡ reliability_now ws

-- every flip is that gate's chance, a whole number of 1 / d, converted to units
pub record Converted (d : ℕ) (ws chances : List ℕ) : Type 0 where
  pub flips : (j : ℕ) → j < gates ws → flip ws j ≡ to_units units_in_one d (get_or chances j 0)

-- the marks after the k gates from j on: a gate that reads a marked source is marked
abbrev pub marks_from : List ℕ → List ℕ → ℕ → ℕ → List ℕ
marks_from ws marks j zero = marks
marks_from ws marks j (suc k) = marks_from ws (mark_if (reads_marked marks (used_pins ws j)) marks (inputs ws + j)) (suc j) k

-- those of the k gates from j on that are chosen, worked out in order
abbrev pub work_chosen : (ℕ → Bool) → List ℕ → ℕ → ℕ → List ℕ
work_chosen chosen ws j zero = ws
work_chosen chosen ws j (suc k) = work_chosen chosen (work_if (chosen j) ws j) (suc j) k
