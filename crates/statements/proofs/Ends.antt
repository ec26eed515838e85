-- The last line with words is `.end`, where refusal 18 finds nothing. Assumes nothing.
use Prim.Native.Nat.{ℕ, suc, ◌+◌}
use mathlib.Core.Path.{◌≡◌, refl}
use mathlib.Core.Bool.{Bool, true, false, cond, not}
use Rattle.std.specs.Prelude.{Option, Some, None}
use mathlib.Core.List.{List, [], ◌∷◌}
use native.Mathlib.Omega.{arith}
use lib.ListN.{length, get_or}
use lib.Dec.{eqb, leb}
use borrow.Author.Tests.{ne_eqb}
use Rattle.refusal.specs.Judgement.{Fine}
use Rattle.refusal.proofs.Laws.{refused-not-fine, unless-fine}
use Rattle.area.specs.Layout.{most_pins}
use Rattle.names.specs.Names.{same}
use Rattle.names.proofs.Names.{same-equal}
use Rattle.statements.specs.Lines.{Line, last_line}
use Rattle.statements.specs.Fit.{
  key_model,
  key_inputs,
  key_outputs,
  key_names,
  key_end,
  keyword_of,
  all_names,
  is_row,
  value_of,
  after_model,
  after_list,
  after_gate,
  after_end,
  after_value,
  after_line,
  fit_as,
  fit,
  is_ended,
  fault,
}
use Rattle.statements.specs.declared.Keyword.{Keyword}
use Rattle.statements.specs.declared.Keyword.TheVariants.{Model, Inputs, Outputs, Names, End, Other}
use Rattle.statements.specs.declared.Phase.{Phase}
use Rattle.statements.specs.declared.Phase.TheVariants.{Before, Heading, Cover, Ended}
use Rattle.statements.specs.Statements.{EndIsLast}
use Rattle.refusal.specs.declared.Cause.TheVariants.{TextLine}

-- two answers of a test differ
pub never : {A : Type 0} (b : Bool) → b ≡ true → b ≡ false → A
never b e f = absurd (let y : ◌≡◌ {A = ℕ} 0 1 = cc in omega arith)

-- whether a line ends the text
abbrev ends : Option Phase → Bool
ends None = false
ends (Some p) = is_ended p

-- a choice of which neither ends it
neither : (b : Bool) (p q : Option Phase) → ends p ≡ false → ends q ≡ false → ends (cond b p q) ≡ false
neither true p q e f = e
neither false p q e f = f

-- no line but `.end` ends a text
model-on : (ws : List (List ℕ)) → ends (after_model ws) ≡ false
unfolding after_model
model-on ws = neither (eqb (length ws) 1) _ _ (neither (all_names ws) _ _ refl refl) refl

list_on : (ws : List (List ℕ)) → ends (after_list ws) ≡ false
unfolding after_list
list_on ws = neither (all_names ws) _ _ refl refl

gate-on : (ws : List (List ℕ)) → ends (after_gate ws) ≡ false
unfolding after_gate
gate-on ws = neither (leb 1 (length ws)) _ _ (neither (leb (length ws) (most_pins + 1)) _ _ (neither (all_names ws) _ _ refl refl) refl) refl

value_on : (width : ℕ) (ending value : Option Bool) → ends (after_value width ending value) ≡ false
value_on width ending None = refl
value_on width None (Some x) = refl
value_on width (Some y) (Some x) = neither (cond y x (not x)) _ _ refl refl

line_on : (width : ℕ) (ending : Option Bool) (ws : List (List ℕ)) → ends (after_line width ending ws) ≡ false
unfolding after_line
line_on width ending ws =
    neither (eqb width 0) _ _
    (neither (eqb (length ws) 1) _ _ (value_on width ending (value_of (get_or ws 0 []))) refl)
    (neither (eqb (length ws) 2) _ _ (neither (is_row width (get_or ws 0 [])) _ _ (value_on width ending (value_of (get_or ws 1 []))) refl) refl)

-- `.end` ends it where no word follows
alone : (ws : List (List ℕ)) → ends (after_end (length ws)) ≡ true → ws ≡ []
unfolding after_end
alone [] e = refl
alone (w ∷ ws) e = never false (rw (ne_eqb (suc (length ws)) 0 (λ h. omega arith)) at e) refl

-- the word that is the keyword
keyword-end : (w : List ℕ) → keyword_of w ≡ End → w ≡ key_end
unfolding keyword_of
keyword-end w e =
    go (same w key_model) refl (same w key_inputs) refl (same w key_outputs) refl (same w key_names) refl (same w key_end) refl
  where
    go : (a : Bool) → same w key_model ≡ a → (b : Bool) → same w key_inputs ≡ b → (c : Bool) → same w key_outputs ≡ c
        → (d : Bool) → same w key_names ≡ d → (f : Bool) → same w key_end ≡ f → w ≡ key_end
    go true p b q c r d s f t = absurd (let z : Model ≡ End = rw p at e in let y : ◌≡◌ {A = ℕ} 0 1 = cc in omega arith)
    go false p true q c r d s f t = absurd (let z : Inputs ≡ End = rw (p, q) at e in let y : ◌≡◌ {A = ℕ} 0 1 = cc in omega arith)
    go false p false q true r d s f t = absurd (let z : Outputs ≡ End = rw (p, q, r) at e in let y : ◌≡◌ {A = ℕ} 0 1 = cc in omega arith)
    go false p false q false r true s f t = absurd (let z : Names ≡ End = rw (p, q, r, s) at e in let y : ◌≡◌ {A = ℕ} 0 1 = cc in omega arith)
    go false p false q false r false s true t = same-equal w key_end t
    go false p false q false r false s false t = absurd (let z : Other ≡ End = rw (p, q, r, s, t) at e in let y : ◌≡◌ {A = ℕ} 0 1 = cc in omega arith)

only_end : (p : Phase) (k : Keyword) (w : List ℕ) (ws : List (List ℕ)) → ends (fit_as p k w ws) ≡ true → (k ≡ End) × (ws ≡ [])
only_end Before Model w ws e = never _ e (model-on ws)
only_end Before Inputs w ws e = never _ e refl
only_end Before Outputs w ws e = never _ e refl
only_end Before Names w ws e = never _ e refl
only_end Before End w ws e = never _ e refl
only_end Before Other w ws e = never _ e refl
only_end Heading Model w ws e = never _ e refl
only_end Heading Inputs w ws e = never _ e (list_on ws)
only_end Heading Outputs w ws e = never _ e (list_on ws)
only_end Heading Names w ws e = never _ e (gate-on ws)
only_end Heading End w ws e = (refl, alone ws e)
only_end Heading Other w ws e = never _ e refl
only_end (Cover width ending) Model w ws e = never _ e refl
only_end (Cover width ending) Inputs w ws e = never _ e refl
only_end (Cover width ending) Outputs w ws e = never _ e refl
only_end (Cover width ending) Names w ws e = never _ e (gate-on ws)
only_end (Cover width ending) End w ws e = (refl, alone ws e)
only_end (Cover width ending) Other w ws e = never _ e (line_on width ending (w ∷ ws))
only_end Ended k w ws e = never _ e refl

the_end : (p : Phase) (ws : List (List ℕ)) → ends (fit p ws) ≡ true → ws ≡ key_end ∷ []
the_end p [] e = never _ e refl
the_end p (w ∷ ws) e =
    let o = only_end p (keyword_of w) w ws e in
    rw (o.1, keyword-end w o.0)

-- where no fault is found a line fits, and it leaves the fault of those that follow
pub record Fitted (p : Phase) (l : Line) (ls : List Line) (last : ℕ) : Type 0 where
  pub next : Phase
  pub fits : fit p l.words ≡ Some next
  pub later : fault next ls last ≡ Fine

pub fitted : (p : Phase) (l : Line) (ls : List Line) (last : ℕ) → fault p (l ∷ ls) last ≡ Fine → Fitted p l ls last
fitted p l ls last e = go (fit p l.words) refl
  where
    go : (o : Option Phase) → fit p l.words ≡ o → Fitted p l ls last
    go None q = refused-not-fine TextLine l.number (rw q at e)
    go (Some next) q = record { next = next; fits = q; later = rw q at e }

last-from : (p : Phase) (l : Line) (ls : List Line) (last : ℕ) → fault p (l ∷ ls) last ≡ Fine → (last_line (l ∷ ls)).words ≡ key_end ∷ []
last-from p l [] last e =
    let f = fitted p l [] last e in
    the_end p l.words (rw f.fits (unless-fine (is_ended f.next) TextLine last f.later))
last-from p l (k ∷ ls) last e =
    let f = fitted p l (k ∷ ls) last e in
    last-from f.next k ls last f.later

pub end-is-last : EndIsLast
end-is-last [] last e = refused-not-fine TextLine last e
end-is-last (l ∷ ls) last e = last-from Before l ls last e
