-- Reading the whole list (02, request 1), and the lists of which its answer is the halving rule's. Definitions only.
use Rattle.std.specs.Prelude.{cond, List, [], ◌∷◌, ℕ, ◌+◌, ◌≤◌, ◌<◌, leb, length, get_or, Option, Some, None}

-- reading on from place i, with the last place so far whose instant is at most the wanted one
abbrev pub read_on : ℕ → ℕ → Option ℕ → List ℕ → Option ℕ
read_on wanted i last [] = last
read_on wanted i last (x ∷ xs) = read_on wanted (i + 1) (cond (leb x wanted) (Some i) last) xs

-- the last place of the whole list whose instant is at most the wanted one, or none
abbrev pub last_at_most : ℕ → List ℕ → Option ℕ
last_at_most wanted xs = read_on wanted 0 None xs

-- each instant is above the one before it
abbrev pub StrictlyRises : List ℕ → Type 0
StrictlyRises xs = (i : ℕ) → i + 1 < length xs → get_or xs i 0 < get_or xs (i + 1) 0

-- no instant is below the one before it
abbrev pub NeverFalls : List ℕ → Type 0
NeverFalls xs = (i : ℕ) → i + 1 < length xs → get_or xs i 0 ≤ get_or xs (i + 1) 0
