-- The (10, 6) code of a VCDU header (02, request 11; the book, B.1): ten symbols are the coefficients of a polynomial over the field, the
-- first symbol highest, and a code word's polynomial vanishes at a^6, a^7, a^8 and a^9. Definitions only.
use Rattle.std.specs.Prelude.{◌≡◌, cond, List, [], ◌∷◌, ℕ, suc, ◌+◌, ◌*◌, ◌≤◌, ◌<◌, eqb, length}
use Rattle.std.proofs.Math.Option.{Option, none, some}
use Rattle.header_code.specs.Field.{◌⊕◌, times, power}

-- n symbols, each of four bits
pub data Word : ℕ → List ℕ → Type 0 where
  end : Word 0 []
  symbol : {n c : ℕ} {w : List ℕ} → c < 16 → Word n w → Word (suc n) (c ∷ w)

-- the polynomial's value at a^k
abbrev pub value : ℕ → List ℕ → ℕ
value k [] = 0
value k (c ∷ w) = times c (power (k * length w)) ⊕ value k w

pub record CodeWord (w : List ℕ) : Type 0 where
  pub word : Word 10 w
  pub vanishes : (k : ℕ) → 6 ≤ k → k ≤ 9 → value k w ≡ 0

-- in how many places two words of one length differ
abbrev pub distance : List ℕ → List ℕ → ℕ
distance [] w = 0
distance (c ∷ v) [] = 0
distance (c ∷ v) (d ∷ w) = cond (eqb c d) 0 1 + distance v w

-- the sum of two words, symbol by symbol
abbrev pub add : List ℕ → List ℕ → List ℕ
add [] w = []
add (c ∷ v) [] = []
add (c ∷ v) (d ∷ w) = (c ⊕ d) ∷ add v w

-- how many symbols are not 0
abbrev pub weight : List ℕ → ℕ
weight [] = 0
weight (c ∷ w) = cond (eqb c 0) 0 1 + weight w

-- the code word within two symbols of a word, and no other is; or there is none
pub data Near (w : List ℕ) : Option (List ℕ) → Type 0 where
  the_only : {c : List ℕ} → CodeWord c → distance w c ≤ 2 → ((d : List ℕ) → CodeWord d → distance w d ≤ 2 → d ≡ c) → Near w (some c)
  no_word : ((c : List ℕ) → CodeWord c → distance w c ≤ 2 → ⊥) → Near w none
