-- What the inner entries promise of an answer, said of its number and result, which the code hands over as numbers; and that the lookup's
-- two numbers fit the halves. Assumes nothing.
use Rattle.std.proofs.Common.{◌≡◌, refl, sym, ap, ◌∙◌, subst, Bool, true, false, cond, not, List, [], ◌∷◌, ◌++◌, ℕ, ◌^◌, ◌≤◌, ◌<◌, Option, Some, None, Result, Ok, Err}
use native.Mathlib.Omega.{arith}
use lib.Dec.{T, ltb}
use lib.Ieee.{Float, is_nan}
use lib.ListN.{length}
use borrow.Author.Tests.{ltb-false}
use Rattle.base.specs.declared.refusal.Refusal.{Refusal}
use Rattle.base.specs.declared.refusal.Refusal.TheVariants.{ListTooLong}
use Rattle.base.specs.Refusals.{Line, answered, refusal, number_of}
use Rattle.base.proofs.Lines.{answered-of, answered-append, answered-none, numbered}
use Rattle.time_code.specs.declared.TimeCode.{TimeCode}
use Rattle.time_code.specs.Codec.{decode_lines as timeLines, decoded as timeDecoded, time_of}
use Rattle.time_code.specs.Promise.{DecodePromise as TimePromise}
use Rattle.float1750.specs.Codec.{decode_lines as numberLines, decoded as numberDecoded}
use Rattle.float1750.specs.Double.{bits_of}
use Rattle.float1750.specs.Promise.{DecodePromise as NumberPromise}
use Rattle.float1750.specs.Word.{value}
use Rattle.float1750.proofs.Encoding.{nan_unread}
use Rattle.lookup.specs.declared.Found.{Found}
use Rattle.lookup.specs.Answer.{find_lines, found, place_of, looks_of}
use Rattle.lookup_bytes.specs.Promise.{instants_in, length_lines, FindPromise}
use Rattle.pay_api.specs.Answer.{Answered}
use Rattle.pay_api.specs.Entries.{InstantAnswer, NumberAnswer, PlaceFits, Halves, FindAnswer, found_result}

-- an answer's number and result, each by what it is
pub said : {number number' result result' r : ℕ} {old new : List ℕ} → number ≡ number' → result ≡ result'
    → Answered number result r old new → Answered number' result' r old new
said {number} {number'} {result} {result'} {r} {old} {new} n e a =
    subst (λ (x : ℕ). Answered number' x r old new) e (subst (λ (m : ℕ). Answered m result r old new) n a)

-- ---- the codecs

-- the instant, or 0
abbrev pub instant_or0 : Result TimeCode Refusal → ℕ
instant_or0 (Ok t) = t.instant
instant_or0 (Err r) = 0

pub instant-answer : {year number result r : ℕ} {bytes old new : List ℕ} {d : Result TimeCode Refusal} → TimePromise year bytes d → number ≡ number_of d
    → result ≡ instant_or0 d → Answered number result r old new → InstantAnswer year bytes r old new
unfolding timeDecoded
instant-answer {year} {number} {result} {r} {bytes} p n e =
    said (n ∙ p.refusal_is) (e ∙ ap instant_or0 p.answer ∙ answered-of instant_or0 Err (timeLines year bytes) (Ok (time_of bytes)))

-- the bits, or 0
abbrev pub bits_or0 : Result Float Refusal → ℕ
bits_or0 (Ok x) = bits_of x
bits_or0 (Err r) = 0

pub number-answer : {number result r : ℕ} {bytes old new : List ℕ} {d : Result Float Refusal} → NumberPromise bytes d → number ≡ number_of d
    → result ≡ bits_or0 d → Answered number result r old new → NumberAnswer bytes r old new
unfolding numberDecoded
number-answer {number} {result} {r} {bytes} p n e =
    said (n ∙ p.refusal_is) (e ∙ ap bits_or0 p.answer ∙ answered-of bits_or0 Err (numberLines bytes) (Ok (value bytes)))

-- what a word reads as is no NaN, so its bits can be asked for
pub has_bits : {bytes : List ℕ} {d : Result Float Refusal} {x : Float} → NumberPromise bytes d → d ≡ Ok x → T (not (is_nan x))
has_bits {bytes} {d} {x} p e = go (is_nan x) refl
  where
    go : (b : Bool) → is_nan x ≡ b → T (not (is_nan x))
    go true h = absurd (nan_unread x h bytes (sym p.answer ∙ e))
    go false h = rw h tt

-- ---- the lookup

-- a result that is 0 of every refusal is 0 where the lines hold already
already : (ls : List Line) (given : Result Found Refusal)
    → answered (λ n. 0) ls (found_result (answered Err ls given)) ≡ found_result (answered Err ls given)
already [] given = refl
already (l ∷ ls) given = go l.holds (already ls given)
  where
    go : (b : Bool) → answered (λ n. 0) ls (found_result (answered Err ls given)) ≡ found_result (answered Err ls given)
        → cond b 0 (answered (λ n. 0) ls (found_result (cond b (Err l.reason) (answered Err ls given))))
        ≡ found_result (cond b (Err l.reason) (answered Err ls given))
    go true later = refl
    go false later = later

placed : (o : Option ℕ) → ((place : ℕ) → o ≡ Some place → place < 100000) → PlaceFits o
placed (Some place) h = h place refl
placed None h = tt

module _ {bytes : List ℕ} {wanted : ℕ} {f : Result Found Refusal} (p : FindPromise bytes wanted f) where
  abbrev xs : List ℕ
  xs = instants_in bytes

  abbrev lines : List Line
  lines = length_lines bytes ++ find_lines xs

  number_is : number_of f ≡ refusal lines
  number_is =
      let q = p.promised in
      let g : Result Found Refusal = Ok (found q.low q.looks) in
      let answer : f ≡ answered Err lines g =
      p.answer ∙ ap (answered Err (length_lines bytes)) q.answers.answer ∙ sym (answered-append Err (length_lines bytes) (find_lines xs) g) in
      ap number_of answer ∙ numbered lines (found q.low q.looks)

  result_is : found_result f ≡ answered (λ n. 0) lines (found_result p.found)
  result_is =
      let q = p.promised in
      let same : answered (λ n. 0) (find_lines xs) (found_result p.found) ≡ found_result p.found =
      rw q.answers.answer (already (find_lines xs) (Ok (found q.low q.looks))) in
      ap found_result p.answer
      ∙ answered-of found_result Err (length_lines bytes) p.found
      ∙ ap (answered (λ n. 0) (length_lines bytes)) (sym same)
      ∙ sym (answered-append (λ n. 0) (length_lines bytes) (find_lines xs) (found_result p.found))

  short : (b : Bool) → ltb 100000 (length xs) ≡ b → ◌≡◌ {A = ℕ} (cond b 12 0) 0 → length xs ≤ 100000
  short true h e = absurd (omega arith)
  short false h e = ltb-false 100000 (length xs) h

  -- where a place is found, it is found among the instants, of which there are few enough
  found_at : {a : Found} → f ≡ Ok a → p.found ≡ Ok a
  found_at {a} e = (answered-none Err (length_lines bytes) p.found (Ok a) (λ r h. cc) (sym p.answer ∙ e)).1

  pub halves : {a : Found} → f ≡ Ok a → Halves a.place a.looks
  halves {a} e =
      let q = p.promised in
      let at = found_at e in
      let few : length xs ≤ 100000 = short (ltb 100000 (length xs)) refl (sym q.answers.refusal_is ∙ ap number_of at) in
      record {
        upper = placed a.place (λ place there. omega (arith, q.there place (ap place_of at ∙ there)));
        lower = omega (arith, ap looks_of at, q.few_looks 17 (omega arith));
      }

  lower : (b : Bool) → ltb 100000 (length xs) ≡ b → p.found ≡ cond b (Err ListTooLong) (Ok (found p.promised.low p.promised.looks))
      → looks_of p.found < 2 ^ 32
  lower true h e = rw e (omega arith)
  lower false h e = omega (arith, p.promised.few_looks 17 (omega (arith, ltb-false 100000 (length xs) h)))

  pub find_answer : {number result r : ℕ} {old new : List ℕ} → number ≡ number_of f → result ≡ found_result f
      → Answered number result r old new → FindAnswer bytes wanted r old new
  find_answer n e w = record {
    found = p.found;
    promised = p.promised;
    lower_half = lower (ltb 100000 (length xs)) refl p.promised.answers.answer;
    answers = said (n ∙ number_is) (e ∙ result_is) w;
  }
