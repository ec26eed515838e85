-- The outputs gone through one by one: the lanes in which some of them changes, and the masks that they give. Assumes nothing.
use Prim.Native.Nat.{ℕ, ◌+◌, ◌≤◌, ◌<◌}
use mathlib.Core.Bool.{Bool, ◌||◌, or-false, or_assoc}
use mathlib.Core.List.{List, [], ◌∷◌, ◌++◌}
use mathlib.Core.Path.{◌≡◌, sym, ap, ap₂, ◌∙◌}
use native.Mathlib.Numerals.{add-one}
use native.Mathlib.Omega.{arith}
use lib.Bits.{bit_or}
use lib.ListN.{length, get_or, take}
use lib.Seq.{take-suc, take_all}
use Rattle.area.specs.Layout.{gates, outputs, outputs_index, output, output_words}
use Rattle.area.specs.Rules.{NetSound}
use Rattle.area.proofs.Words.{output-at, output_count}
use Rattle.signals.specs.Signals.{lane, InEachLane}
use Rattle.signals.proofs.Lanes.{lane_or}
use Rattle.counts.specs.Counts.{some_changed}

-- the k-th of them one more
some-append : (changed os : List ℕ) (o l : ℕ) → some_changed changed (os ++ (o ∷ [])) l ≡ some_changed changed os l || lane l (get_or changed o 0)
some-append changed [] o l = or-false (lane l (get_or changed o 0))
some-append changed (p ∷ os) o l =
    ap (λ (b : Bool). lane l (get_or changed p 0) || b) (some-append changed os o l)
    ∙ sym (or_assoc (lane l (get_or changed p 0)) (some_changed changed os l) (lane l (get_or changed o 0)))

module _ (ws : List ℕ) (sound : NetSound ws) where
  -- an output's word can be read, and names a source
  pub output-inside : (k : ℕ) → k < outputs ws → outputs_index (gates ws) + k < length ws
  output-inside k l = omega (arith, sound.long)

  pub next-output : (k : ℕ) → k < outputs ws → take (k + 1) (output_words ws) ≡ take k (output_words ws) ++ (output ws k ∷ [])
  next-output k l =
      rw (add-one k) (take-suc (output_words ws) k 0 (omega (arith, output_count ws sound)))
      ∙ ap (λ (o : ℕ). take k (output_words ws) ++ (o ∷ [])) (sym (output-at ws k l))

  pub all-outputs : (k : ℕ) → outputs ws ≤ k → take k (output_words ws) ≡ output_words ws
  all-outputs k l = take_all k (output_words ws) (omega (arith, output_count ws sound))

  pub some_more : (changed : List ℕ) (k lanes word : ℕ) → k < outputs ws → word ≡ get_or changed (output ws k) 0
      → InEachLane lanes (some_changed changed (take k (output_words ws)))
      → InEachLane (bit_or lanes word) (some_changed changed (take (k + 1) (output_words ws)))
  some_more changed k lanes word inside e before l less =
      lane_or l lanes word
      ∙ ap₂ ◌||◌ (before l less) (ap (lane l) e)
      ∙ sym (ap (λ (os : List ℕ). some_changed changed os l) (next-output k inside) ∙ some-append changed (take k (output_words ws)) (output ws k) l)
