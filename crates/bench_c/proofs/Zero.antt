-- C tells a refusal from work done: no call gives a refusal whose code is 0. Assumes nothing.
use Prim.Native.Nat.{ℕ, ◌<◌}
use mathlib.Core.List.{List}
use mathlib.Core.Path.{◌≡◌, refl}
use native.Mathlib.Omega.{arith}
use lib.Dec.{leb}
use lib.ListN.{length}
use Rattle.refusal.specs.Judgement.{Judgement}
use Rattle.refusal.specs.Judgement.{Fine, refused}
use Rattle.refusal.proofs.Laws.{Only, only-unless, only-otherwise}
use Rattle.area.specs.Layout.{head_words, inputs, gates, outputs}
use Rattle.area.specs.Rules.{counts_in_range, rest_sound, sum_right, words_judgement, area_judgement}
use Rattle.calls.specs.Judgements.{Call, open_image, toggle_input, set_flip, read_netlist, read_gate, take_average, count_seen, write_image}
use Rattle.calls.specs.Judgements.{lent_judgement, judgement}
use Rattle.calls.proofs.Judgements.{only-room, only-arguments, only-open}
use Rattle.blif.specs.Reading.{blif_refusal}
use Rattle.blif.proofs.Numbers.{only-blif}
use Rattle.bench_c.specs.Codes.{code}
use Rattle.std.specs.Prelude.{Err}
use Rattle.refusal.specs.declared.Cause.TheVariants.{AreaTooShort, AreaRule}

abbrev Positive : ℕ → Type 0
Positive number = 0 < number

of_words : (ws : List ℕ) → Only Positive (words_judgement ws)
unfolding words_judgement
of_words ws =
    only-otherwise Positive _ _ (only-unless Positive (leb head_words (length ws)) AreaTooShort 0 (omega arith))
    (only-otherwise Positive _ _ (only-unless Positive (counts_in_range (inputs ws) (gates ws) (outputs ws)) AreaRule 0 (omega arith))
    (only-otherwise Positive _ _ (λ a p e. (only-room (gates ws) (outputs ws) (length ws) a p e).0) (only-unless Positive (rest_sound ws) AreaRule 0 (omega arith))))

of-area : (ws : List ℕ) → Only Positive (area_judgement ws)
unfolding area_judgement
of-area ws = only-otherwise Positive _ _ (of_words ws) (only-unless Positive (sum_right ws) AreaRule 0 (omega arith))

of-lent : (ws : List ℕ) (call : Call) → Only Positive (lent_judgement ws call)
unfolding lent_judgement
of-lent ws call = only-otherwise Positive _ _ (of-area ws) (λ a p e. (only-arguments (inputs ws) (gates ws) (outputs ws) call a p e).0)

of-call : (ws : List ℕ) (call : Call) → Only Positive (judgement ws call)
of-call ws (open_image bs) = λ a p e. (only-open bs (length ws) a p e).0
of-call ws (toggle_input i) = of-lent ws (toggle_input i)
of-call ws (set_flip g kind field) = of-lent ws (set_flip g kind field)
of-call ws read_netlist = of-lent ws read_netlist
of-call ws (read_gate g) = of-lent ws (read_gate g)
of-call ws (take_average weights) = of-lent ws (take_average weights)
of-call ws (count_seen method patterns slots) = of-lent ws (count_seen method patterns slots)
of-call ws (write_image room) = of-lent ws (write_image room)

pub positive-code : (v : Judgement) → Only Positive v → code v ≡ 0 → v ≡ Fine
positive-code Fine only e = refl
positive-code (Err why) only e = absurd (omega (arith, only why.cause why.place refl))

-- of every call on every area
pub zero-is-done : (ws : List ℕ) (call : Call) → code (judgement ws call) ≡ 0 → judgement ws call ≡ Fine
zero-is-done ws call = positive-code (judgement ws call) (of-call ws call)

-- of every text
pub zero-is-read : (text : List ℕ) (room : ℕ) → code (blif_refusal text room) ≡ 0 → blif_refusal text room ≡ Fine
zero-is-read text room = positive-code (blif_refusal text room) (only-blif text room)
