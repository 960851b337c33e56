-- The answer of the pay system's entries (02, request 14). Definitions only.
use Rattle.std.specs.Prelude.{◌≡◌, not, List, [], ◌∷◌, ◌++◌, ℕ, eqb, length}
use Rattle.base.specs.Numbers.{bytes_of}
use Rattle.base.specs.declared.refusal.Refusal.TheVariants.{WrongLength}
use Rattle.base.specs.Refusals.{number, Line, ◌when◌, answered}

-- the refusal number, then the result: eight bytes each, first byte highest
abbrev pub answer_bytes : ℕ → ℕ → List ℕ
answer_bytes number result = bytes_of 8 number ++ bytes_of 8 result

-- an answer buffer of another length is refused before all else
abbrev pub buffer_lines : List ℕ → List Line
buffer_lines buffer = WrongLength when not (eqb (length buffer) 16) ∷ []

-- an entry whose refusal has this number, 0 for none, and that has this result returns r; the lent answer held old and holds new
pub record Answered (n result r : ℕ) (old new : List ℕ) : Type 0 where
  pub returns : r ≡ answered number (buffer_lines old) n
  pub bytes_are : new ≡ answered (λ n. old) (buffer_lines old) (answer_bytes n result)
