-- What an answer that is no refusal says: both images were accepted, and whose figures it has. Assumes nothing.
use Prim.Native.Nat.{ℕ}
use mathlib.Core.List.{List}
use mathlib.Core.Path.{◌≡◌, refl, ap}
use Rattle.refusal.specs.Judgement.{Judgement}
use Rattle.refusal.specs.Judgement.{Fine, refused}
use Rattle.calls.specs.Judgements.{image_judgement}
use Rattle.comparison.specs.declared.Verdict.{Verdict}
use Rattle.comparison.specs.declared.Module.{Module}
use Rattle.comparison.specs.Standing.{Patterns}
use Rattle.comparison.specs.Standing.{Compared}
use Rattle.comparison.specs.Standing.{done}
use Rattle.comparison.specs.Standing.{averages_verdict, patterns_between, answered}
use Rattle.comparison.specs.Images.{figures_of, module_of, compared_if, compared}
use Rattle.std.specs.Prelude.{Ok, Err}
use Rattle.comparison.specs.declared.Comparison.{Comparison}

pub record Told (bs cs : List ℕ) (v : Verdict) (m k : Module) (p : Patterns) : Type 0 where
  pub first_fine : image_judgement bs ≡ Fine
  pub second_fine : image_judgement cs ≡ Fine
  pub verdict_is : averages_verdict (module_of bs) (module_of cs) ≡ v
  pub first_is : module_of bs ≡ m
  pub second_is : module_of cs ≡ k
  pub patterns_are : patterns_between (module_of bs) (figures_of bs) (module_of cs) (figures_of cs) ≡ p

both-fine : (i j : Judgement) (answer : Compared) (v : Verdict) (m k : Module) (p : Patterns) → compared_if i j answer ≡ done v m k p
    → (i ≡ Fine) × (j ≡ Fine) × (answer ≡ done v m k p)
both-fine Fine Fine answer v m k p e = (refl, refl, e)
both-fine Fine (Err why) answer v m k p e = (cc, cc, cc)
both-fine (Err why) j answer v m k p e = (cc, cc, cc)

-- what stands in an answer
abbrev inner : Comparison → Compared → Comparison
inner c (Ok made) = made
inner c (Err why) = c

parts : (v w : Verdict) (m n k l : Module) (p q : Patterns) → done v m k p ≡ done w n l q → (v ≡ w) × (m ≡ n) × (k ≡ l) × (p ≡ q)
parts v w m n k l p q e =
    let f = ap (inner (record { verdict = v; first = m; second = k; patterns = p })) e in
    (ap (λ (c : Comparison). c.verdict) f, ap (λ (c : Comparison). c.first) f, ap (λ (c : Comparison). c.second) f, ap (λ (c : Comparison). c.patterns) f)

pub told : (bs cs : List ℕ) (v : Verdict) (m k : Module) (p : Patterns) → compared bs cs ≡ done v m k p → Told bs cs v m k p
told bs cs v m k p e =
    let fine = both-fine (image_judgement bs) (image_judgement cs) (answered (module_of bs) (figures_of bs) (module_of cs) (figures_of cs)) v m k p e in
    let each = parts _ v (module_of bs) m (module_of cs) k _ p fine.2 in
    record { first_fine = fine.0; second_fine = fine.1; verdict_is = each.0; first_is = each.1; second_is = each.2; patterns_are = each.3 }
