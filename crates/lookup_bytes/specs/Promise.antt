-- Instants that come as bytes (02, request 14), and what `find` promises. Definitions only.
use Rattle.std.specs.Prelude.{◌≡◌, not, List, [], ◌∷◌, map, ℕ, ◌+◌, ◌*◌, ◌%◌, ◌^◌, ◌<◌, eqb, length, get_or, Result, Err}
use Rattle.base.specs.Numbers.{big_endian}
use Rattle.base.specs.declared.refusal.Refusal.{Refusal}
use Rattle.base.specs.declared.refusal.Refusal.TheVariants.{WrongLength}
use Rattle.base.specs.Refusals.{Line, ◌when◌, answered}
use Rattle.base.specs.Rows.{rows}
use Rattle.lookup.specs.declared.Found.{Found}
use Rattle.lookup.specs.Promise.{FindPromise as FoundAmong}

-- the instants that the bytes are: eight bytes each, first byte highest
unfoldable pub instants_in : List ℕ → List ℕ
instants_in bytes = map big_endian (rows 8 bytes)

-- any other length is refused before the instants are looked at
abbrev pub length_lines : List ℕ → List Line
length_lines bytes = WrongLength when not (eqb (length bytes % 8) 0) ∷ []

-- `find` of the wanted instant among these bytes answers r
pub record FindPromise (bytes : List ℕ) (wanted : ℕ) (r : Result Found Refusal) : Type 0 where
  -- an answer of which all that `lookup::find` promises on the instants holds
  pub found : Result Found Refusal
  pub promised : FoundAmong (instants_in bytes) wanted found
  pub answer : r ≡ answered Err (length_lines bytes) found

-- ---- within the reading of an instant

-- r is the number of the four bytes from place i on
pub record FourRead (bytes : List ℕ) (i r : ℕ) : Type 0 where
  pub value : r ≡ get_or bytes i 0 * 2 ^ 24 + get_or bytes (i + 1) 0 * 2 ^ 16 + get_or bytes (i + 2) 0 * 2 ^ 8 + get_or bytes (i + 3) 0
  pub below : r < 2 ^ 32
