-- Judgements in document 01's order: nothing is wrong, or there is a refusal with cause and place.
use Rattle.std.specs.Prelude.{ℕ, zero, suc, Bool, true, false, List, leb, get_or, Result, Ok, Err, ⊤}
use Rattle.refusal.specs.declared.Refusal.{Refusal}
use Rattle.refusal.specs.declared.Cause.{Cause}
use Rattle.refusal.specs.declared.Cause.TheVariants.{
  WrongLength,
  WrongFormat,
  WrongCounts,
  WrongBack,
  GateShape,
  GatePin,
  GateFlip,
  OutputSource,
  SharedGate,
  NotThere,
  CallFlip,
  WrongWeights,
  AreaTooShort,
  AreaRule,
  ListLength,
  ListedPattern,
  CountSlice,
  TextLine,
  TextModel,
  ImageSlice,
  WrittenSlice,
  ChanceAboveHalf,
  ManyShared,
}

-- what a call is judged to: nothing is wrong, or a refusal
abbrev pub Judgement : Type 0
Judgement = Result ⊤ Refusal

pattern abbrev pub Fine : Judgement
Fine = Ok tt

abbrev pub refused : Cause → ℕ → Judgement
refused cause place = Err (record { cause = cause; place = place })

-- the numbers of the documents
abbrev pub number_of : Cause → ℕ
number_of WrongLength = 1
number_of WrongFormat = 2
number_of WrongCounts = 3
number_of WrongBack = 4
number_of GateShape = 5
number_of GatePin = 6
number_of GateFlip = 7
number_of OutputSource = 8
number_of SharedGate = 9
number_of NotThere = 10
number_of CallFlip = 11
number_of WrongWeights = 12
number_of AreaTooShort = 13
number_of AreaRule = 14
number_of ListLength = 15
number_of ListedPattern = 16
number_of CountSlice = 17
number_of TextLine = 18
number_of TextModel = 19
number_of ImageSlice = 20
number_of WrittenSlice = 21
number_of ChanceAboveHalf = 22
number_of ManyShared = 23

-- a condition that must hold, with the refusal where it does not
abbrev pub refuse_unless : Bool → Cause → ℕ → Judgement
refuse_unless true cause place = Fine
refuse_unless false cause place = refused cause place

-- of two judgements in their order the first refusal counts
abbrev pub otherwise : Judgement → Judgement → Judgement
otherwise Fine j = j
otherwise (Err why) j = Err why

-- of judgements at the places 0 to k - 1 the refusal at the lowest counts
abbrev pub lowest : (ℕ → Judgement) → ℕ → Judgement
lowest f zero = Fine
lowest f (suc k) = otherwise (lowest f k) (f k)

-- place i of a list whose words must be at most `most`
abbrev pub word_judgement : List ℕ → ℕ → Cause → ℕ → Judgement
word_judgement words most cause i = refuse_unless (leb (get_or words i 0) most) cause i

-- what a call leaves: the new where nothing is refused, else the old
abbrev pub unless_refused {ℓ} : {A : Type ℓ} → Judgement → A → A → A
unless_refused Fine new old = new
unless_refused (Err why) new old = old

-- what a call answers: the value where nothing is refused, else the refusal
abbrev pub answer : {A : Type 0} → Judgement → A → Result A Refusal
answer Fine value = Ok value
answer (Err why) value = Err why
