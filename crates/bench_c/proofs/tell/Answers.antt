-- `bench_c::tell` meets its contract: what is told says how the call was judged. Assumes nothing.
use mathlib.Core.Path.{refl, sym, ◌∙◌}
use Rattle.refusal.proofs.Laws.{answer-told}
use Rattle.bench_c.proofs.tell.Goals as goal

pub returns-in-Ok : goal.returns-in-Ok
returns-in-Ok c =
    record {
      value = λ judged value e. rw ((answer-told judged value c.args.told e).0 _ c.in-Ok.is).0 refl;
      out_after = λ judged value e. let said = (answer-told judged value c.args.told e).0 _ c.in-Ok.is in rw said.0 said.1;
    }

pub returns-in-Err : goal.returns-in-Err
returns-in-Err c =
    record {
      value = λ judged value e. rw ((answer-told judged value c.args.told e).1 _ c.in-Err.is) c.refused.ensures;
      out_after = λ judged value e. rw ((answer-told judged value c.args.told e).1 _ c.in-Err.is) refl;
    }
