-- What `read_as` promises: its complete answer; the last three fields say it in the papers' number and values, with no enum on their right
-- sides. Definitions only.
use Rattle.std.specs.Prelude.{◌≡◌, List, [], ◌∷◌, ℕ, Float, Result}
use Rattle.base.specs.declared.refusal.Refusal.{Refusal}
use Rattle.base.specs.Refusals.{answered, refusal, number_of}
use Rattle.float1750.specs.Double.{Exact}
use Rattle.word72_items.specs.declared.Form.{Form}
use Rattle.word72_reading.specs.declared.Reading.{Reading}
use Rattle.word72_reading.specs.Values.{number, value_of}
use Rattle.word72_reading.specs.Readings.{values_of, suited_reading, read_as_lines, read_as}

-- the bytes of the year y are read by the form, and r is answered
pub record ReadAsPromise (y : ℕ) (f : Form) (bytes : List ℕ) (r : Result Reading Refusal) : Type 0 where
  pub answer : r ≡ read_as y f bytes
  pub refusal_is : number_of r ≡ refusal (read_as_lines y f bytes)
  pub value-is : values_of r ≡ answered (λ n. []) (read_as_lines y f bytes) (value_of f bytes ∷ [])
  -- a number is exactly that of the bytes
  pub exact : (v : Float) → values_of r ≡ number v ∷ [] → Exact bytes v

-- the same inside, of as many bytes as the form asks for and a year in the span
pub record SuitedPromise (y : ℕ) (f : Form) (bytes : List ℕ) (r : Result Reading Refusal) : Type 0 where
  pub answer : r ≡ suited_reading y f bytes
  pub exact : (v : Float) → values_of r ≡ number v ∷ [] → Exact bytes v

-- of bytes that are no time: whatever the year
abbrev pub InAnyYear : Form → List ℕ → Result Reading Refusal → Type 0
InAnyYear f bytes r = (y : ℕ) → SuitedPromise y f bytes r
