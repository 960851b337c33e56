-- The halving rule (02, request 1). Definitions only.
use Rattle.std.specs.Prelude.{◌≡◌, List, ℕ, ◌+◌, ◌/◌, ◌≤◌, ◌<◌, length, get_or}

-- halfway, rounded down
abbrev pub halfway : ℕ → ℕ → ℕ
halfway low high = (low + high) / 2

-- the rule takes low and high to an end where they meet, with so many looks; a constructor for each line of the rule
pub data Halving (xs : List ℕ) (wanted : ℕ) : ℕ → ℕ → ℕ → ℕ → Type 0 where
  met : {end : ℕ} → Halving xs wanted end end end 0
  -- while they differ, look at the entry halfway; if it is at most the wanted instant, low becomes one past it
  past : {low high end looks : ℕ} → (low ≡ high → ⊥) → get_or xs (halfway low high) 0 ≤ wanted
      → Halving xs wanted (halfway low high + 1) high end looks → Halving xs wanted low high end (looks + 1)
  -- else high becomes it
  before : {low high end looks : ℕ} → (low ≡ high → ⊥) → wanted < get_or xs (halfway low high) 0
      → Halving xs wanted low (halfway low high) end looks → Halving xs wanted low high end (looks + 1)

-- the whole search begins with low 0 and high n; it ends with this low, after these looks
abbrev pub Search : List ℕ → ℕ → ℕ → ℕ → Type 0
Search xs wanted low looks = Halving xs wanted 0 (length xs) low looks
