-- Laws of `answered` and `refusal`: what is asked of an answer is asked of each of its cases. Assumes nothing.
use Rattle.std.proofs.Common.{◌≡◌, refl, ap, ◌∙◌, Bool, true, false, cond, List, [], ◌∷◌, ◌++◌, map, ℕ, Result, Ok, Err}
use native.Mathlib.Omega.{arith}
use Rattle.base.specs.declared.refusal.Refusal.{Refusal}
use Rattle.base.specs.Ranges.{tabulate}
use Rattle.base.specs.Refusals.{number, table, Line, answered, refusal, number_of, values_of, Answers}
use Rattle.base.specs.declared.refusal.Refusal.TheVariants.{NotInOrder, WrongLength, TooManyBytes, SpacingTooWide, NotAMinorFrame}
use Rattle.base.specs.declared.refusal.Refusal.TheVariants.{NoSuchKind, NoSuchItem, TimeOutOfRange, UpperBitsSet, NotNormalised}
use Rattle.base.specs.declared.refusal.Refusal.TheVariants.{NoWordForDouble, ListTooLong, YearOutsideSpan, NoSuchOperator, NoSuchRule}
use Rattle.base.specs.declared.refusal.Refusal.TheVariants.{WrongBookLength, NotACycle, WrongInstant, WrongOffset, NoSuchEntry}
use Rattle.base.specs.declared.refusal.Refusal.TheVariants.{YearsDiffer, NotAHeader, NoCodeWord, NotWholeSlots, BitsBeyondSlots}
use Rattle.base.specs.declared.refusal.Refusal.TheVariants.{NoFreeSlot, NoSuchSlot, NoSuchPointer, TooManyFrames}

-- the papers number the refusals in their order, from 1 on
pub numbered-so : map number table ≡ tabulate (λ n. n) 1 29
numbered-so = refl

module _ {A B : Type 0} (f : A → B) where
  cond_of : (b : Bool) (x y : A) → f (cond b x y) ≡ cond b (f x) (f y)
  cond_of true x y = refl
  cond_of false x y = refl

  -- a function of the answer is that function of the refusal, or of what is given
  pub answered-of : (refused : Refusal → A) (ls : List Line) (given : A) → f (answered refused ls given) ≡ answered (λ n. f (refused n)) ls (f given)
  answered-of refused [] given = refl
  answered-of refused (l ∷ ls) given =
      cond_of l.holds (refused l.reason) (answered refused ls given)
      ∙ ap (λ (r : B). cond l.holds (f (refused l.reason)) r) (answered-of refused ls given)

-- no line holds
abbrev pub NoneHolds : List Line → Type 0
NoneHolds [] = Unit {0}
NoneHolds (l ∷ ls) = (l.holds ≡ false) × NoneHolds ls

module _ {A : Type 0} (refused : Refusal → A) where
  -- an answer that is no refusal is given where no line holds, and is what is given
  pub answered-none : (ls : List Line) (given a : A) → ((r : Refusal) → refused r ≡ a → ⊥) → answered refused ls given ≡ a → NoneHolds ls × (given ≡ a)
  answered-none [] given a other = λ e. (tt, e)
  answered-none (l ∷ ls) given a other = go l.holds refl (answered-none ls given a other)
    where
      go : (b : Bool) → l.holds ≡ b → (answered refused ls given ≡ a → NoneHolds ls × (given ≡ a))
          → cond b (refused l.reason) (answered refused ls given) ≡ a → NoneHolds (l ∷ ls) × (given ≡ a)
      go true h later e = absurd (other l.reason e)
      go false h later e = let rest = later e in ((h, rest.0), rest.1)

  pub answered-given : (ls : List Line) (given : A) → NoneHolds ls → answered refused ls given ≡ given
  answered-given [] given none = refl
  answered-given (l ∷ ls) given none = rw none.0 (answered-given ls given none.1)

module _ {A : Type 0} where
  -- lines that are looked at after others
  pub answered-append : (refused : Refusal → A) (ls ms : List Line) (given : A)
      → answered refused (ls ++ ms) given ≡ answered refused ls (answered refused ms given)
  answered-append refused [] ms given = refl
  answered-append refused (l ∷ ls) ms given = ap (λ (r : A). cond l.holds (refused l.reason) r) (answered-append refused ls ms given)

  -- the answer's number is the refusal's, where a refusal has its number, and what is given has 0
  pub answered-number : (number_of : A → ℕ) (refused : Refusal → A) (ls : List Line) (given : A) → ((r : Refusal) → number_of (refused r) ≡ number r)
      → number_of given ≡ 0 → number_of (answered refused ls given) ≡ refusal ls
  answered-number number_of refused [] given told none = none
  answered-number number_of refused (l ∷ ls) given told none =
      cond_of number_of l.holds (refused l.reason) (answered refused ls given)
      ∙ rw (told l.reason, answered-number number_of refused ls given told none)

-- ---- an answer by its number

-- no refusal bears the number 0, which is for none
pub positive : (r : Refusal) → number r ≡ 0 → ⊥
positive NotInOrder h = omega arith
positive WrongLength h = omega arith
positive TooManyBytes h = omega arith
positive SpacingTooWide h = omega arith
positive NotAMinorFrame h = omega arith
positive NoSuchKind h = omega arith
positive NoSuchItem h = omega arith
positive TimeOutOfRange h = omega arith
positive UpperBitsSet h = omega arith
positive NotNormalised h = omega arith
positive NoWordForDouble h = omega arith
positive ListTooLong h = omega arith
positive YearOutsideSpan h = omega arith
positive NoSuchOperator h = omega arith
positive NoSuchRule h = omega arith
positive WrongBookLength h = omega arith
positive NotACycle h = omega arith
positive WrongInstant h = omega arith
positive WrongOffset h = omega arith
positive NoSuchEntry h = omega arith
positive YearsDiffer h = omega arith
positive NotAHeader h = omega arith
positive NoCodeWord h = omega arith
positive NotWholeSlots h = omega arith
positive BitsBeyondSlots h = omega arith
positive NoFreeSlot h = omega arith
positive NoSuchSlot h = omega arith
positive NoSuchPointer h = omega arith
positive TooManyFrames h = omega arith

module _ {A : Type 0} (a given : A) where
  -- a refusal with any number gives a
  pub refused-is : (ls : List Line) → (refusal ls ≡ 0 → ⊥) → answered (λ n. a) ls given ≡ a
  refused-is [] = λ h. absurd (h refl)
  refused-is (l ∷ ls) = go l.holds (refused-is ls)
    where
      go : (b : Bool) → ((refusal ls ≡ 0 → ⊥) → answered (λ n. a) ls given ≡ a)
          → (cond b (number l.reason) (refusal ls) ≡ 0 → ⊥) → cond b a (answered (λ n. a) ls given) ≡ a
      go true later h = refl
      go false later h = later h

  pub given_is : (ls : List Line) → refusal ls ≡ 0 → answered (λ n. a) ls given ≡ given
  given_is [] = λ h. refl
  given_is (l ∷ ls) = go l.holds (given_is ls)
    where
      go : (b : Bool) → (refusal ls ≡ 0 → answered (λ n. a) ls given ≡ given)
          → cond b (number l.reason) (refusal ls) ≡ 0 → cond b a (answered (λ n. a) ls given) ≡ given
      go true later h = absurd (positive l.reason h)
      go false later h = later h

-- ---- an answer that is a Result

-- its number is that of the lines
pub numbered : {A : Type 0} (ls : List Line) (given : A) → number_of (answered Err ls (Ok given)) ≡ refusal ls
numbered ls given = answered-number number_of Err ls (Ok given) (λ r. refl) refl

-- a value is given where no line holds, and is the one that is given
pub ok-none : {A : Type 0} (ls : List Line) (given a : A) → answered Err ls (Ok given) ≡ Ok a → NoneHolds ls × (given ≡ a)
ok-none ls given a e = let n = answered-none Err ls (Ok given) (Ok a) (λ r f. cc) e in (n.0, cc)

-- the answer of the lines has their number and what is given
pub told : {A : Type 0} (ls : List Line) (given : A) (r : Result A Refusal) → r ≡ answered Err ls (Ok given) → Answers ls given r
told ls given r e =
    record {
      answer = e;
      refusal_is = ap number_of e ∙ numbered ls given;
      value-is = ap values_of e ∙ answered-of values_of Err ls (Ok given);
    }
