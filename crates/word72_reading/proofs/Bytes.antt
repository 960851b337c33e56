-- What the bytes of each form read as, from the length that the form asks for; the codecs' answers are turned into readings case by case. What
-- a promise says beyond the answer follows from the definitions alone. Assumes nothing.
use Rattle.std.proofs.Common.{◌≡◌, refl, sym, ap, ◌∙◌, Bool, true, false, cond, not, ◌||◌, List, [], ◌∷◌, length, get_or, Result, Ok, Err}
use Rattle.std.proofs.Common.{ℕ, ◌+◌, ◌*◌, ◌/◌, ◌%◌, ◌≤◌, ◌<◌, arith}
use lib.Dec.{T, leb}
use lib.Ieee.{Float}
use borrow.Author.Tests.{ne_eqb, le-leb, lt-leb}
use Rattle.base.specs.Numbers.{big_endian}
use Rattle.base.specs.declared.refusal.Refusal.{Refusal}
use Rattle.base.specs.declared.refusal.Refusal.TheVariants.{WrongLength, YearOutsideSpan, TimeOutOfRange, UpperBitsSet}
use Rattle.base.specs.Refusals.{Line, ◌when◌, answered, number_of}
use Rattle.base.proofs.Lines.{answered-of, numbered}
use Rattle.float1750.specs.Codec as number-codec
use Rattle.float1750.specs.Double.{Exact}
use Rattle.float1750.specs.Promise as number-promise
use Rattle.float1750.specs.Word.{is_zero, normalised}
use Rattle.time_code.specs.Calendar.{in_span}
use Rattle.time_code.specs.Codec as time-codec
use Rattle.time_code.specs.declared.TimeCode.{TimeCode}
use Rattle.time_code.specs.Fields.{is_time}
use Rattle.time_code.proofs.Codes.{of_seven}
use Rattle.word72_items.specs.declared.Form.{Form}
use Rattle.word72_items.specs.declared.Form.TheVariants as form
use Rattle.word72_items.specs.ItemTable.{suits}
use Rattle.word72_reading.specs.declared.EightFlags.{EightFlags}
use Rattle.word72_reading.specs.declared.Reading.{Reading}
use Rattle.word72_reading.specs.declared.Reading.TheVariants.{Count, Flags, Number, Time, Fill}
use Rattle.word72_reading.specs.Values.{Value, count, number, fill, bits, value_of}
use Rattle.word72_reading.specs.Readings.{value_in, values_of, flags_of, reading_of, suited_reading, read_as_lines, read_as}
use Rattle.word72_reading.specs.Promise.{ReadAsPromise, SuitedPromise, InAnyYear}

-- ---- the case that carries a value has that value

carried : (f : Form) (bs : List ℕ) → value_in (reading_of (value_of f bs)) ≡ value_of f bs
carried form.Count bs = go (leb (length bs) 8)
  where
    go : (b : Bool) → let v : Value = cond b (count (big_endian bs)) fill in value_in (reading_of v) ≡ v
    go true = refl
    go false = refl
carried form.TwelveBit bs = refl
carried form.Flags bs = refl
carried form.Number bs = refl
carried form.Time bs = refl
carried form.Fill bs = refl

-- an answer that is no number has no double to be exact
abbrev is_number : Result Reading Refusal → Bool
is_number (Ok (Count n)) = false
is_number (Ok (Flags f)) = false
is_number (Ok (Number v)) = true
is_number (Ok (Time t)) = false
is_number (Ok Fill) = false
is_number (Err n) = false

pub no_number : (bs : List ℕ) (r : Result Reading Refusal) → is_number r ≡ false → (v : Float) → values_of r ≡ number v ∷ [] → Exact bs v
no_number bs (Ok (Count n)) h v z = cc
no_number bs (Ok (Flags f)) h v z = cc
no_number bs (Ok (Number u)) h v z = cc
no_number bs (Ok (Time t)) h v z = cc
no_number bs (Ok Fill) h v z = cc
no_number bs (Err n) h v z = cc

-- ---- the promise, from the answer

holds : (b : Bool) → T b → b ≡ true
holds true t = refl
holds false t = absurd t

-- the values of an answer, whatever lines are looked at
module _ (ls : List Line) (f : Form) (bs : List ℕ) where
  pub values-of : values_of (answered Err ls (Ok (reading_of (value_of f bs)))) ≡ answered (λ n. []) ls (value_of f bs ∷ [])
  values-of =
      answered-of values_of Err ls (Ok (reading_of (value_of f bs)))
      ∙ ap (λ (v : Value). answered (λ n. []) ls (v ∷ [])) (carried f bs)

module _ (y : ℕ) (f : Form) (bs : List ℕ) where
  promised : (r : Result Reading Refusal) → r ≡ read_as y f bs → ((v : Float) → values_of r ≡ number v ∷ [] → Exact bs v) → ReadAsPromise y f bs r
  unfolding read_as
  promised r e exact =
      let ls = read_as_lines y f bs in
      record { answer = e; refusal_is = ap number_of e ∙ numbered ls _; value-is = ap values_of e ∙ values-of ls f bs; exact = exact }

  pub wrong-length : suits f (length bs) ≡ false → ReadAsPromise y f bs (Err WrongLength)
  unfolding read_as
  wrong-length s = promised (Err WrongLength) (rw s) (no_number bs (Err WrongLength) refl)

  pub out-of_span : suits f (length bs) ≡ true → in_span y ≡ false → ReadAsPromise y f bs (Err YearOutsideSpan)
  unfolding read_as
  out-of_span s o = promised (Err YearOutsideSpan) (rw (s, o)) (no_number bs (Err YearOutsideSpan) refl)

  -- with the length that the form asks for and a year in the span the form's own line is left
  pub suited : T (suits f (length bs)) → in_span y ≡ true → read_as y f bs ≡ suited_reading y f bs
  unfolding read_as
  suited s i = rw (holds (suits f (length bs)) s, i)

  pub in_full : (r : Result Reading Refusal) → T (suits f (length bs)) → in_span y ≡ true → SuitedPromise y f bs r → ReadAsPromise y f bs r
  in_full r s i p = promised r (p.answer ∙ sym (suited s i)) p.exact

-- ---- counts, flags, fill
module _ (bs : List ℕ) where
  pub count-read : (n : ℕ) → length bs ≤ 8 → n ≡ big_endian bs → InAnyYear form.Count bs (Ok (Count n))
  count-read n h e y = record { answer = rw (le-leb (length bs) 8 h, e); exact = no_number bs (Ok (Count n)) refl }

  pub long_read : 8 < length bs → InAnyYear form.Count bs (Ok Fill)
  long_read h y = record { answer = rw (lt-leb (length bs) 8 h); exact = no_number bs (Ok Fill) refl }

  pub flags_read : (g : EightFlags) → g ≡ flags_of (bits (get_or bs 0 0)) → InAnyYear form.Flags bs (Ok (Flags g))
  flags_read g e y = record { answer = rw e; exact = no_number bs (Ok (Flags g)) refl }

  pub fill_read : InAnyYear form.Fill bs (Ok Fill)
  fill_read y = record { answer = refl; exact = no_number bs (Ok Fill) refl }

module _ (b c : ℕ) where
  pub twelve_read : (n : ℕ) → b / 16 ≡ 0 → n ≡ b * 256 + c → InAnyYear form.TwelveBit (b ∷ c ∷ []) (Ok (Count n))
  twelve_read n h e y =
      let low : n ≡ b % 16 * 256 + c = omega arith in
      record { answer = rw (h, low); exact = no_number (b ∷ c ∷ []) (Ok (Count n)) refl }

  pub twelve_refused : (b / 16 ≡ 0 → ⊥) → InAnyYear form.TwelveBit (b ∷ c ∷ []) (Err UpperBitsSet)
  twelve_refused h y =
      record { answer = rw (ne_eqb (b / 16) 0 h); exact = no_number (b ∷ c ∷ []) (Err UpperBitsSet) refl }

-- ---- the codecs' answers as readings

abbrev pub of_number : Result Float Refusal → Result Reading Refusal
of_number (Ok v) = Ok (Number v)
of_number (Err n) = Err n

abbrev pub of_time : Result TimeCode Refusal → Result Reading Refusal
of_time (Ok t) = Ok (Time t)
of_time (Err n) = Err n

module _ (bs : List ℕ) (six : length bs ≡ 6) where
  of_number_lem : (y : ℕ) → of_number (number-codec.decoded bs) ≡ suited_reading y form.Number bs
  unfolding number-codec.decoded
  of_number_lem y = go (is_zero bs || normalised bs) refl
    where
      go : (b : Bool) → (is_zero bs || normalised bs) ≡ b → of_number (number-codec.decoded bs) ≡ suited_reading y form.Number bs
      go true e = rw (six, e)
      go false e = rw (six, e)

  pub number_read : (r : Result Float Refusal) → number-promise.DecodePromise bs r → InAnyYear form.Number bs (of_number r)
  number_read (Ok v) p y =
      record { answer = ap of_number p.answer ∙ of_number_lem y; exact = λ u z. let same : v ≡ u = cc in rw same at (p.exact v refl) }
  number_read (Err n) p y = record { answer = ap of_number p.answer ∙ of_number_lem y; exact = no_number bs (Err n) refl }

module _ (y : ℕ) (bs : List ℕ) (span : in_span y ≡ true) (seven : length bs ≡ 7) where
  of_time_lem : of_time (time-codec.decoded y bs) ≡ suited_reading y form.Time bs
  of_time_lem = rw (of_seven y bs seven span) (go (is_time y bs))
    where
      go : (b : Bool) → let ls = TimeOutOfRange when not b ∷ [] in
          of_time (answered Err ls (Ok (time-codec.time_of bs))) ≡ answered Err ls (Ok (reading_of (value_of form.Time bs)))
      go true = refl
      go false = refl

  pub time_read : (r : Result TimeCode Refusal) → r ≡ time-codec.decoded y bs → SuitedPromise y form.Time bs (of_time r)
  time_read (Ok t) e = record { answer = ap of_time e ∙ of_time_lem; exact = no_number bs (Ok (Time t)) refl }
  time_read (Err n) e = record { answer = ap of_time e ∙ of_time_lem; exact = no_number bs (Err n) refl }
