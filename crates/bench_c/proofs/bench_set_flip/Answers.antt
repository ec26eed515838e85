-- `bench_c::bench_set_flip` meets its contract: the field's bytes stand in the order of the number's digits. Assumes nothing.
use Prim.Native.Nat.{ℕ}
use mathlib.Core.List.{List}
use mathlib.Core.Path.{ap, ◌∙◌}
use Rattle.calls.specs.Judgements.{set_flip, judgement}
use Rattle.calls.specs.Calls.{left}
use Rattle.bench_c.specs.Codes.{code}
use Rattle.bench_c.proofs.bench_set_flip.Goals as goal

pub returns : goal.returns
returns c =
    let a = c.args in
    let t = c.set_flip in
    record {
      value = c.code_of.ensures ∙ ap code (t.ensures.value ∙ ap (λ (f : List ℕ). judgement a.area.now (set_flip a.gate a.kind f)) c.field_bytes.ensures);
      area_after = t.ensures.area_after ∙ ap (λ (f : List ℕ). left a.area.now (set_flip a.gate a.kind f)) c.field_bytes.ensures;
    }
