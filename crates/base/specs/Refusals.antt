-- The refusal table, and how a refusal is chosen (01, "Refusal numbers"; 02). Definitions only.
use Rattle.std.specs.Prelude.{◌≡◌, Bool, cond, List, [], ◌∷◌, ℕ, Result, Ok, Err}
use Rattle.base.specs.declared.refusal.Refusal.{Refusal}
use Rattle.base.specs.declared.refusal.Refusal.TheVariants.{NotInOrder, WrongLength, TooManyBytes, SpacingTooWide, NotAMinorFrame}
use Rattle.base.specs.declared.refusal.Refusal.TheVariants.{NoSuchKind, NoSuchItem, TimeOutOfRange, UpperBitsSet, NotNormalised}
use Rattle.base.specs.declared.refusal.Refusal.TheVariants.{NoWordForDouble, ListTooLong, YearOutsideSpan, NoSuchOperator, NoSuchRule}
use Rattle.base.specs.declared.refusal.Refusal.TheVariants.{WrongBookLength, NotACycle, WrongInstant, WrongOffset, NoSuchEntry}
use Rattle.base.specs.declared.refusal.Refusal.TheVariants.{YearsDiffer, NotAHeader, NoCodeWord, NotWholeSlots, BitsBeyondSlots}
use Rattle.base.specs.declared.refusal.Refusal.TheVariants.{NoFreeSlot, NoSuchSlot, NoSuchPointer, TooManyFrames}

-- the number that the papers give a refusal
abbrev pub number : Refusal → ℕ
number NotInOrder = 1
number WrongLength = 2
number TooManyBytes = 3
number SpacingTooWide = 4
number NotAMinorFrame = 5
number NoSuchKind = 6
number NoSuchItem = 7
number TimeOutOfRange = 8
number UpperBitsSet = 9
number NotNormalised = 10
number NoWordForDouble = 11
number ListTooLong = 12
number YearOutsideSpan = 13
number NoSuchOperator = 14
number NoSuchRule = 15
number WrongBookLength = 16
number NotACycle = 17
number WrongInstant = 18
number WrongOffset = 19
number NoSuchEntry = 20
number YearsDiffer = 21
number NotAHeader = 22
number NoCodeWord = 23
number NotWholeSlots = 24
number BitsBeyondSlots = 25
number NoFreeSlot = 26
number NoSuchSlot = 27
number NoSuchPointer = 28
number TooManyFrames = 29

-- the refusals in the papers' order, which are numbered so from 1 on
abbrev pub table : List Refusal
table =
    NotInOrder ∷ WrongLength ∷ TooManyBytes ∷ SpacingTooWide ∷ NotAMinorFrame ∷ NoSuchKind ∷
    NoSuchItem ∷ TimeOutOfRange ∷ UpperBitsSet ∷ NotNormalised ∷ NoWordForDouble ∷ ListTooLong ∷
    YearOutsideSpan ∷ NoSuchOperator ∷ NoSuchRule ∷ WrongBookLength ∷ NotACycle ∷ WrongInstant ∷
    WrongOffset ∷ NoSuchEntry ∷ YearsDiffer ∷ NotAHeader ∷ NoCodeWord ∷ NotWholeSlots ∷
    BitsBeyondSlots ∷ NoFreeSlot ∷ NoSuchSlot ∷ NoSuchPointer ∷ TooManyFrames ∷ []

-- a line of a call's list: a refusal, and whether what it is given for holds
pub record Line : Type 0 where
  pub reason : Refusal
  pub holds : Bool

infix 70 ◌when◌
abbrev pub ◌when◌ : Refusal → Bool → Line
r when b = record { reason = r; holds = b }

-- an entry's answer: of the lines that concern a call, in the table's order, the first that holds refuses; where none holds, this is given
abbrev pub answered : {A : Type 0} → (Refusal → A) → List Line → A → A
answered refused [] given = given
answered refused (l ∷ ls) given = cond l.holds (refused l.reason) (answered refused ls given)

-- the number alone; 0 is for none
abbrev pub refusal : List Line → ℕ
refusal [] = 0
refusal (l ∷ ls) = cond l.holds (number l.reason) (refusal ls)

-- ---- a call's answer in the papers' numbers, and what it gives

-- its number; 0 is for none
abbrev pub number_of : {A : Type 0} → Result A Refusal → ℕ
number_of (Ok a) = 0
number_of (Err r) = number r

-- what it gives; nothing where it is refused
abbrev pub values_of : {A : Type 0} → Result A Refusal → List A
values_of (Ok a) = a ∷ []
values_of (Err r) = []

-- what it gives, or this where it is refused
abbrev pub given_or : {A : Type 0} → A → Result A Refusal → A
given_or old (Ok a) = a
given_or old (Err r) = old

-- the answer r is that of the lines, and `given` where none of them holds; then the same in the number and in what is given
pub record Answers {A : Type 0} (lines : List Line) (given : A) (r : Result A Refusal) : Type 0 where
  pub answer : r ≡ answered Err lines (Ok given)
  pub refusal_is : number_of r ≡ refusal lines
  pub value-is : values_of r ≡ answered (λ n. []) lines (given ∷ [])

-- the answer of a call that gives nothing: `Ok` where no line holds
abbrev pub permitted : List Line → Result Unit Refusal
permitted ls = answered Err ls (Ok tt)
