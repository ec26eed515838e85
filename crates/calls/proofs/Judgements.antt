-- The refusals of the calls, walked once: what a call that is not refused knows of its arguments, and which numbers a call may give. Assumes nothing.
use Prim.Native.Nat.{ℕ, ◌-◌, ◌^◌, ◌≤◌, ◌<◌}
use mathlib.Core.Bool.{Bool, true, not, ◌&&◌}
use mathlib.Core.List.{List}
use mathlib.Core.Path.{◌≡◌, refl}
use native.Mathlib.Omega.{arith}
use borrow.Author.Tests.{leb-true, ltb-true, eqb-true, not-true, lt-ltb, le-ltb, le-leb, lt-leb}
use lib.Dec.{leb, ltb, eqb}
use lib.ListN.{length, get_or}
use Rattle.lists.specs.Lists.{all_zero}
use Rattle.refusal.specs.Judgement.{Judgement}
use Rattle.refusal.specs.Judgement.{Fine, refused}
use Rattle.refusal.specs.Judgement.{refuse_unless, otherwise, lowest}
use Rattle.refusal.proofs.Laws.{unless-fine, otherwise-fine, otherwise-second, otherwise-first, lowest-fine, otherwise-assoc}
use Rattle.refusal.proofs.Laws.{Only, NotRule, only-fine, only-unless, only-otherwise, only-lowest}
use Rattle.chance.specs.Number.{at_most_half}
use Rattle.chance.specs.Flip.{flip_accepted, flip_chance}
use Rattle.area.specs.Layout.{most_words, largest_weight, most_listed, inputs, gates, outputs, needed}
use Rattle.area.specs.Rules.{room_judgement, area_judgement, Sound}
use Rattle.live.specs.Shared.{shared_judgement}
use Rattle.live.proofs.Shared.{only_shared}
use Rattle.rules.proofs.Facts.{both}
use Rattle.rules.proofs.Sound.{sound, sound-passes}
use Rattle.image.specs.Image.{image_length, image_gates, image_outputs}
use Rattle.image.specs.Refusals.{image_refusal}
use Rattle.image.specs.Netlist.{image_net}
use Rattle.image.proofs.Flips.{flip-fine, only-flip}
use Rattle.image.proofs.Numbers.{only-image}
use Rattle.image.proofs.Right.{image-right}
use Rattle.calls.specs.Judgements.{Call, open_image, toggle_input, set_flip, read_netlist, read_gate, take_average, count_seen, write_image}
use Rattle.calls.specs.Judgements.{named, flip_judgement, weight_judgement, weights_judgement, WeightsFit, listed_judgement, counts_judgement, slice_judgement}
use Rattle.calls.specs.Judgements.{open_judgement, image_judgement, JudgedAsOpened, argument_judgement, lent_judgement}
use Rattle.refusal.specs.declared.Cause.{Cause}
use Rattle.refusal.specs.declared.Cause.TheVariants.{NotThere, CallFlip, WrongWeights, AreaTooShort, ListLength, ListedPattern, CountSlice, WrittenSlice}
use Rattle.std.specs.Prelude.{Err}

-- ---- 10 to 13, 15 to 17, 21, 22

pub named-fine : (x count : ℕ) → named x count ≡ Fine → x < count
named-fine x count e = ltb-true x count (unless-fine (ltb x count) NotThere x e)

pub fine-named : (x count : ℕ) → x < count → named x count ≡ Fine
fine-named x count l = rw (lt-ltb x count l) refl

pub named_past : (x count : ℕ) → count ≤ x → named x count ≡ refused NotThere x
named_past x count l = rw (le-ltb x count l) refl

pub room-fine : (g k size : ℕ) → room_judgement g k size ≡ Fine → needed g k ≤ size
room-fine g k size e = leb-true (needed g k) size (unless-fine (leb (needed g k) size) AreaTooShort 0 e)

pub fine-room : (g k size : ℕ) → needed g k ≤ size → room_judgement g k size ≡ Fine
fine-room g k size l = rw (le-leb (needed g k) size l) refl

pub short-room : (g k size : ℕ) → size < needed g k → room_judgement g k size ≡ refused AreaTooShort 0
short-room g k size l = rw (lt-leb (needed g k) size l) refl

pub weights-fine : (n : ℕ) (weights : List ℕ) → weights_judgement n weights ≡ Fine → WeightsFit n weights
unfolding weights_judgement
weights-fine n weights e =
    let first = otherwise-fine (refuse_unless (eqb (length weights) (2 ^ n)) WrongWeights 0) _ e in
    let later = otherwise-fine (lowest (weight_judgement weights) (length weights)) _ first.1 in
    record {
      one_each = eqb-true _ _ (unless-fine _ WrongWeights 0 first.0);
      small = λ q l. leb-true _ _ (unless-fine _ WrongWeights q (lowest-fine (weight_judgement weights) (length weights) q l later.0));
      some = not-true _ (unless-fine _ WrongWeights 0 later.1);
    }

-- of a list and a slice that pass, what the work needs
pub counts-fine : (n g : ℕ) (patterns : List ℕ) (slots : ℕ) → counts_judgement n g patterns slots ≡ Fine → (length patterns ≤ most_listed) × (g ≤ slots)
unfolding counts_judgement
counts-fine n g patterns slots e =
    let some = leb 1 (length patterns) in
    let few = leb (length patterns) most_listed in
    let first = otherwise-fine (refuse_unless (some && few) ListLength 0) _ e in
    let later = otherwise-fine (lowest (listed_judgement n patterns) (length patterns)) _ first.1 in
    (leb-true _ _ (both some few (unless-fine _ ListLength 0 first.0)).1, leb-true _ _ (unless-fine _ CountSlice 0 later.1))

pub slice-fine : (g k room : ℕ) → slice_judgement g k room ≡ Fine → image_length g k ≤ room
slice-fine g k room e = leb-true (image_length g k) room (unless-fine (leb (image_length g k) room) WrittenSlice 0 e)

pub fine-slice : (g k room : ℕ) → image_length g k ≤ room → slice_judgement g k room ≡ Fine
fine-slice g k room l = rw (le-leb (image_length g k) room l) refl

pub short-slice : (g k room : ℕ) → room < image_length g k → slice_judgement g k room ≡ refused WrittenSlice 0
short-slice g k room l = rw (lt-leb (image_length g k) room l) refl

-- ---- a call on an open area

pub toggle-fine : (n g k i : ℕ) → argument_judgement n g k (toggle_input i) ≡ Fine → i < n
unfolding argument_judgement
toggle-fine n g k i e = named-fine i n e

pub gate-fine : (n g k x : ℕ) → argument_judgement n g k (read_gate x) ≡ Fine → x < g
unfolding argument_judgement
gate-fine n g k x e = named-fine x g e

pub set-fine : (n g k x kind : ℕ) (field : List ℕ) → argument_judgement n g k (set_flip x kind field) ≡ Fine
    → (x < g) × (flip_accepted kind field ≡ true) × (at_most_half (flip_chance kind field) ≡ true)
unfolding argument_judgement
set-fine n g k x kind field e =
    let both = otherwise-fine (named x g) (flip_judgement x kind field) e in
    let flip = flip-fine CallFlip x kind field both.1 in
    (named-fine x g both.0, flip.0, flip.1)

pub write-fine : (n g k room : ℕ) → argument_judgement n g k (write_image room) ≡ Fine → image_length g k ≤ room
unfolding argument_judgement
write-fine n g k room e = slice-fine g k room e

pub lent-fine : (ws : List ℕ) (call : Call) → lent_judgement ws call ≡ Fine → Sound ws × (argument_judgement (inputs ws) (gates ws) (outputs ws) call ≡ Fine)
unfolding lent_judgement
lent-fine ws call e =
    let both = otherwise-fine (area_judgement ws) (argument_judgement (inputs ws) (gates ws) (outputs ws) call) e in
    (sound ws both.0, both.1)

-- of a sound area the arguments decide; the refusal of another stops the call
pub lent-sound : (ws : List ℕ) (call : Call) → Sound ws → lent_judgement ws call ≡ argument_judgement (inputs ws) (gates ws) (outputs ws) call
unfolding lent_judgement
lent-sound ws call s = otherwise-second (area_judgement ws) (argument_judgement (inputs ws) (gates ws) (outputs ws) call) (sound-passes ws s)

pub lent-stopped : (ws : List ℕ) (call : Call) (a : Cause) (p : ℕ) → area_judgement ws ≡ refused a p → lent_judgement ws call ≡ refused a p
unfolding lent_judgement
lent-stopped ws call a p e = otherwise-first (area_judgement ws) (argument_judgement (inputs ws) (gates ws) (outputs ws) call) a p e

-- setting a flip is judged as reading the gate, and then by the flip
pub set-after-gate : (ws : List ℕ) (x kind : ℕ) (field : List ℕ)
    → lent_judgement ws (set_flip x kind field) ≡ otherwise (lent_judgement ws (read_gate x)) (flip_judgement x kind field)
unfolding lent_judgement argument_judgement
set-after-gate ws x kind field = otherwise-assoc (area_judgement ws) (named x (gates ws)) (flip_judgement x kind field)

-- ---- opening

pub record OpenFine (bs : List ℕ) (size : ℕ) : Type 0 where
  pub image : image_refusal bs ≡ Fine
  pub shared : shared_judgement (image_net bs) ≡ Fine
  pub room : needed (image_gates bs) (image_outputs bs) ≤ size

pub open-fine : (bs : List ℕ) (size : ℕ) → open_judgement bs size ≡ Fine → OpenFine bs size
unfolding open_judgement
open-fine bs size e =
    let image = otherwise-fine (image_refusal bs) _ e in
    let shared = otherwise-fine (shared_judgement (image_net bs)) _ image.1 in
    record { image = image.0; shared = shared.0; room = room-fine (image_gates bs) (image_outputs bs) size shared.1 }

-- ---- an image by itself

pub judged-image : (bs : List ℕ) → image_judgement bs ≡ Fine → image_refusal bs ≡ Fine
unfolding image_judgement
judged-image bs e = (otherwise-fine (image_refusal bs) (shared_judgement (image_net bs)) e).0

pub judged-as-opened : JudgedAsOpened
unfolding image_judgement open_judgement
judged-as-opened bs size room =
    never-third (image_refusal bs) (shared_judgement (image_net bs)) _ (λ e. fine-room (image_gates bs) (image_outputs bs) size (room e))
  where
    -- a third judgement that is fine wherever the first is
    never-third : (u v w : Judgement) → (u ≡ Fine → w ≡ Fine) → otherwise u (otherwise v w) ≡ otherwise u v
    never-third Fine Fine w h = h refl
    never-third Fine (Err why) w h = refl
    never-third (Err why) v w h = refl

-- an area of this length holds every netlist
pub judged-in-most : (bs : List ℕ) → open_judgement bs most_words ≡ image_judgement bs
judged-in-most bs =
    judged-as-opened bs most_words (λ e.
    let right = (image-right bs e).trailer in
    omega (arith, right.inputs_fit, right.gates_fit, right.outputs_fit))

-- ---- the numbers: none is 0, and 14 is the area's alone

pub only-room : (g k size : ℕ) → Only NotRule (room_judgement g k size)
only-room g k size = only-unless NotRule (leb (needed g k) size) AreaTooShort 0 (omega arith, omega arith)

only-weights : (n : ℕ) (weights : List ℕ) → Only NotRule (weights_judgement n weights)
unfolding weights_judgement
only-weights n weights =
    let one : (c : Bool) (p : ℕ) → Only NotRule (refuse_unless c WrongWeights p) = λ c p. only-unless NotRule c WrongWeights p (omega arith, omega arith) in
    only-otherwise NotRule _ _ (one (eqb (length weights) (2 ^ n)) 0)
    (only-otherwise NotRule _ _
    (only-lowest NotRule (weight_judgement weights) (length weights) (λ q. one (leb (get_or weights q 0) largest_weight) q))
    (one (not (all_zero weights)) 0))

only-counts : (n g : ℕ) (patterns : List ℕ) (slots : ℕ) → Only NotRule (counts_judgement n g patterns slots)
unfolding counts_judgement
only-counts n g patterns slots =
    only-otherwise NotRule _ _
    (only-unless NotRule (leb 1 (length patterns) && leb (length patterns) most_listed) ListLength 0 (omega arith, omega arith))
    (only-otherwise NotRule _ _
    (only-lowest NotRule (listed_judgement n patterns) (length patterns) (λ i.
    only-unless NotRule (leb (get_or patterns i 0) (2 ^ n - 1)) ListedPattern i (omega arith, omega arith)))
    (only-unless NotRule (leb g slots) CountSlice 0 (omega arith, omega arith)))

only-named : (x count : ℕ) → Only NotRule (named x count)
only-named x count = only-unless NotRule (ltb x count) NotThere x (omega arith, omega arith)

pub only-arguments : (n g k : ℕ) (call : Call) → Only NotRule (argument_judgement n g k call)
unfolding argument_judgement
only-arguments n g k (open_image bs) = only-fine NotRule
only-arguments n g k (toggle_input i) = only-named i n
only-arguments n g k (set_flip x kind field) =
    only-otherwise NotRule (named x g) (flip_judgement x kind field) (only-named x g)
    (only-flip CallFlip x kind field (omega arith, omega arith))
only-arguments n g k read_netlist = only-fine NotRule
only-arguments n g k (read_gate x) = only-named x g
only-arguments n g k (take_average weights) = only-weights n weights
only-arguments n g k (count_seen method patterns slots) = only-counts n g patterns slots
only-arguments n g k (write_image room) = only-unless NotRule (leb (image_length g k) room) WrittenSlice 0 (omega arith, omega arith)

pub only-open : (bs : List ℕ) (size : ℕ) → Only NotRule (open_judgement bs size)
unfolding open_judgement
only-open bs size =
    only-otherwise NotRule _ _ (only-image bs)
    (only-otherwise NotRule _ _ (only_shared (image_net bs)) (only-room (image_gates bs) (image_outputs bs) size))

pub only-judged : (bs : List ℕ) → Only NotRule (image_judgement bs)
unfolding image_judgement
only-judged bs = only-otherwise NotRule (image_refusal bs) (shared_judgement (image_net bs)) (only-image bs) (only_shared (image_net bs))
