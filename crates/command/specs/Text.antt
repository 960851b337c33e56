-- Text in a lent buffer, and a number as text. Definitions only.
use Rattle.std.specs.Prelude.{◌≡◌, List, [], ◌∷◌, ◌++◌, ℕ, suc, ◌+◌, ◌^◌, ltb, length, take}
use Prim.Native.Char.{code}
use Prim.Native.String.{String, [], ◌∷◌}
use Rattle.base.specs.Ranges.{lowest}
use Rattle.command.specs.declared.text.Text.{Text}
use Rattle.io.specs.Counts.{IsPrefixLen}
use Rattle.io.specs.Digits.{last_digits}

-- the bytes of an ASCII text
abbrev pub ascii : String → List ℕ
ascii [] = []
ascii (c ∷ s) = code c ∷ ascii s

-- the text that ended at `at` in the buffer `old` goes on with these bytes, as far as there is room; in `new` it ends at `end`
pub record Adds (old : List ℕ) (at : ℕ) (bytes new : List ℕ) (end : ℕ) : Type 0 where
  pub text_is : take end new ≡ take (length old) (take at old ++ bytes)
  pub size_is : length new ≡ length old
  pub counts : IsPrefixLen end new

-- a text that keeps its place goes on with these bytes, in the same buffer
pub record Grows (old : Text) (bytes : List ℕ) (new : Text) : Type 0 where
  pub adds : Adds old.room.now old.length bytes new.room.now new.length
  pub same_reference : new.room.ghost_name ≡ old.room.ghost_name

-- how many decimal digits a number of 64 bits has: the lowest number of digits that hold it, 1 at least
abbrev pub places : ℕ → ℕ
places n = lowest (λ k. ltb n (10 ^ suc k)) 0 20 + 1

-- the decimal digits of a number of 64 bits
unfoldable pub decimal : ℕ → List ℕ
decimal n = last_digits 10 (places n) n
