-- What a reader wants to believe of an area's figures, as types; proofs/Statements.antt has a proof of each. A netlist's kinds and chances are given beside
-- the words, which do not hold them.
use Rattle.std.specs.Prelude.{ℕ, ◌+◌, ◌<◌, false, List, ◌⊎◌, ◌≡◌, length, get_or}
use Rattle.rounding.specs.Rounding.{units_in_one}
use Rattle.figure.specs.Figure.{right_of, failure_of}
use Rattle.netlist.specs.Netlist.{Netlist, right_values}
use Rattle.netlist.specs.Figures.{failures, reliability}
use Rattle.netlist.specs.Live.{Depends}
use Rattle.area.specs.Layout.{gate_words, inputs, gates, pattern, reliability_word, gate_index, figure}
use Rattle.area.specs.Rules.{Sound}
use Rattle.area.specs.Net.{net_of}
use Rattle.work.specs.Work.{gate_figure, toggle_words, set_words}
use Rattle.fresh.specs.Fresh.{Fresh, Converted}

-- ---- the figures held are the netlist's

-- each gate's right value and failure, and word 4, are the netlist's figures for pattern q; chances are whole numbers of 1 / d
pub record FiguresHeld (d : ℕ) (net : Netlist) (q : ℕ) (ws : List ℕ) : Type 0 where
  pub right : (j : ℕ) → j < length net.gates → right_of (figure ws j) ≡ get_or (right_values net q) (net.inputs + j) false
  pub failure : (j : ℕ) → j < length net.gates → failure_of (figure ws j) ≡ get_or (failures units_in_one d net q) (net.inputs + j) 0
  pub product : reliability_word ws ≡ reliability units_in_one d net q

abbrev pub FreshHoldsNetlist : Type 0
FreshHoldsNetlist =
    (d : ℕ) (ws kinds chances : List ℕ)
    → Sound ws
    → Fresh ws
    → Converted d ws chances
    → FiguresHeld d (net_of ws kinds chances) (pattern ws) ws

-- ---- a call works out exactly the gates that depend on what it changes

-- from `ws` to `left` the gates that P names are worked out, and no others: these have what the rule makes of the words left, any other keeps all its words
pub record WorksOut (P : ℕ → Type 0) (ws left : List ℕ) : Type 0 where
  pub worked : (j : ℕ) → j < gates ws → P j → figure left j ≡ gate_figure left j
  pub others : (j r : ℕ) → j < gates ws → r < gate_words → (P j → ⊥) → get_or left (gate_index j + r) 0 ≡ get_or ws (gate_index j + r) 0

-- turning input i over: the gates that depend on it
abbrev pub ToggleWorksDependents : Type 0
ToggleWorksDependents =
    (ws kinds chances : List ℕ) (i : ℕ) → Sound ws → i < inputs ws
    → WorksOut (λ j. Depends (net_of ws kinds chances) (inputs ws + j) i) ws (toggle_words ws i)

-- setting gate g's flip: that gate and those that depend on it
abbrev pub SetWorksDependents : Type 0
SetWorksDependents =
    (ws kinds chances : List ℕ) (g units : ℕ) → Sound ws → g < gates ws
    → WorksOut (λ j. (j ≡ g) ⊎ Depends (net_of ws kinds chances) (inputs ws + j) (inputs ws + g)) ws (set_words ws g units)
