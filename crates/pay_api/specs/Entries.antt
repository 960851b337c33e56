-- What each of the pay system's entries answers (02, request 14), by the definitions of the inner entries: its lines of the refusal table and its
-- result. Definitions only.
use Rattle.std.specs.Prelude.{List, [], ◌++◌, ℕ, ◌+◌, ◌*◌, ◌^◌, ◌<◌, ◌≤◌, Option, Some, None, Result, Ok, Err}
use Rattle.base.specs.declared.refusal.Refusal.{Refusal}
use Rattle.base.specs.Refusals.{Line, answered, refusal}
use Rattle.labelling.specs.declared.Word.{Word}
use Rattle.labelling.specs.declared.Word.TheVariants.{Voted, Erased}
use Rattle.time_code.specs.Codec.{decode_lines as timeLines}
use Rattle.time_code.specs.Fields.{instant}
use Rattle.float1750.specs.Codec.{decode_lines as numberLines}
use Rattle.float1750.specs.Double.{bits_of}
use Rattle.float1750.specs.Word.{value}
use Rattle.lookup.specs.declared.Found.{Found}
use Rattle.lookup.specs.Answer.{find_lines, looks_of}
use Rattle.lookup.specs.Promise.{FindPromise}
use Rattle.lookup_bytes.specs.Promise.{instants_in, length_lines}
use Rattle.pay_api.specs.Answer.{Answered}

-- an entry that these lines refuse, with the result 0 then, and that else has this result
abbrev pub Answers : List Line → ℕ → ℕ → List ℕ → List ℕ → Type 0
Answers lines result r old new = Answered (refusal lines) (answered (λ n. 0) lines result) r old new

-- ---- the votes: nothing is refused, and a split is 256
abbrev pub word_result : Word → ℕ
word_result (Voted value) = value
word_result Erased = 256

abbrev pub VoteAnswer : Word → ℕ → List ℕ → List ℕ → Type 0
VoteAnswer word r old new = Answers [] (word_result word) r old new

-- ---- the codecs
abbrev pub InstantAnswer : ℕ → List ℕ → ℕ → List ℕ → List ℕ → Type 0
InstantAnswer year bytes r old new = Answers (timeLines year bytes) (instant bytes) r old new

abbrev pub NumberAnswer : List ℕ → ℕ → List ℕ → List ℕ → Type 0
NumberAnswer bytes r old new = Answers (numberLines bytes) (bits_of (value bytes)) r old new

-- ---- the lookup

-- the place plus one in the upper 32 bits, 0 for none; the looks in the lower
abbrev pub PlaceFits : Option ℕ → Type 0
PlaceFits (Some place) = place < 100000
PlaceFits None = Unit {0}

-- the two fit the halves
pub record Halves (place : Option ℕ) (looks : ℕ) : Type 0 where
  pub upper : PlaceFits place
  pub lower : looks ≤ 17

abbrev pub halves_of : Option ℕ → ℕ → ℕ
halves_of (Some place) looks = (place + 1) * 2 ^ 32 + looks
halves_of None looks = looks

abbrev pub found_result : Result Found Refusal → ℕ
found_result (Ok f) = halves_of f.place f.looks
found_result (Err r) = 0

pub record FindAnswer (bytes : List ℕ) (wanted r : ℕ) (old new : List ℕ) : Type 0 where
  -- an answer of which all that `find` promises on the instants holds
  pub found : Result Found Refusal
  pub promised : FindPromise (instants_in bytes) wanted found
  -- the looks keep to the lower half
  pub lower_half : looks_of found < 2 ^ 32
  pub answers : Answers (length_lines bytes ++ find_lines (instants_in bytes)) (found_result found) r old new
