-- What `book` tells of a header or a place, said of what crosses. Assumes nothing.
use Rattle.std.proofs.Common.{◌≡◌, refl, sym, ap, ◌∙◌, List, [], ◌∷◌, ℕ, Result, Ok, Err}
use Rattle.base.specs.declared.refusal.Refusal.{Refusal}
use Rattle.base.specs.Refusals.{number, number_of, Line, answered, refusal, Answers}
use Rattle.base.proofs.Lines.{ok-none, answered-of, numbered}
use Rattle.book.specs.declared.faults.Fault.{Fault}
use Rattle.book.specs.declared.header.Header.{Header}
use Rattle.book.specs.Layout.{entry_start, body_start, cycles_said, year_said}
use Rattle.book.specs.Faults.{first_fault, fault_number, fault_entry}
use Rattle.book.specs.Header.{header_lines, header_of, header_refusal}
use Rattle.book_parts.specs.declared.Place.{Place}
use Rattle.book_parts.specs.Parts.{part_lines, part_refusal, place, try_entry_place, try_body_place}
use Rattle.book_check.specs.Promise.{CheckPromise}
use Rattle.book_api.specs.Books.{CheckCrossed, HeaderCrossed, EntryCrossed, BodyCrossed, place_or}

-- each case of the verdict is the first fault
pub check_crossed : (b : List ℕ) (r a : Result Unit Fault) → CheckPromise b r → r ≡ a → CheckCrossed b (fault_number a) (fault_entry a)
check_crossed b r a p e =
    let is : a ≡ first_fault b = sym e ∙ p.first_is in
    record { number_is = ap fault_number is; entry-is = ap fault_entry is }

-- what an answer leaves, given as numbers
abbrev header_or : List ℕ → Result Header Refusal → List ℕ
header_or old (Ok h) = h.cycles ∷ h.year ∷ []
header_or old (Err k) = old

pub header_crossed : (b old : List ℕ) (r a : Result Header Refusal) → Answers (header_lines b) (header_of b) r → r ≡ a
    → HeaderCrossed b (number_of a) old (header_or old a)
unfolding header_refusal
header_crossed b old r a p e =
    let is : a ≡ answered Err (header_lines b) (Ok (header_of b)) = sym e ∙ p.answer in
    record {
      refusal_is = ap number_of is ∙ numbered (header_lines b) (header_of b);
      numbers_are = ap (header_or old) is ∙ answered-of (header_or old) Err (header_lines b) (Ok (header_of b));
    }

module _ (b old : List ℕ) (i : ℕ) (r : Result Place Refusal) where
  pub entry_crossed : (n : ℕ) (new : List ℕ) → r ≡ try_entry_place b i → n ≡ number_of r → new ≡ place_or old r → EntryCrossed b i n old new
  unfolding try_entry_place part_refusal
  entry_crossed n new e k is = record {
    refusal_is = k ∙ ap number_of e ∙ numbered (part_lines b i) (place (entry_start i) 12);
    numbers_are = is ∙ ap (place_or old) e ∙ answered-of (place_or old) Err (part_lines b i) (Ok (place (entry_start i) 12));
  }

  pub body_crossed : (n : ℕ) (new : List ℕ) → r ≡ try_body_place b i → n ≡ number_of r → new ≡ place_or old r → BodyCrossed b i n old new
  unfolding try_body_place part_refusal
  body_crossed n new e k is =
      let given = place (body_start (cycles_said b) i) 65536 in
      record {
        refusal_is = k ∙ ap number_of e ∙ numbered (part_lines b i) given;
        numbers_are = is ∙ ap (place_or old) e ∙ answered-of (place_or old) Err (part_lines b i) (Ok given);
      }
