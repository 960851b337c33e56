-- The data pointer's sequence (DFCB 3.2.6.2.5; 02, request 13). Definitions only.
use Rattle.std.specs.Prelude.{◌≡◌, cond, List, [], ◌∷◌, ℕ, zero, suc, ◌+◌, ◌-◌, ◌≤◌, eqb, leb, ltb, length}
use Rattle.base.specs.Lists.{count_by}

-- the pointers are 0 to 84
abbrev pub last_pointer : ℕ
last_pointer = 84

-- equation 1
unfoldable pub next : ℕ → ℕ
next p = cond (ltb p 47) (p + 38) (p - 47)

-- equation 2
unfoldable pub previous : ℕ → ℕ
previous p = cond (leb 38 p) (p - 38) (p + 47)

-- n single steps
unfoldable pub steps : ℕ → ℕ → ℕ
steps zero p = p
steps (suc n) p = steps n (next p)

-- the pointers of n frames, from p on
unfoldable pub walk : ℕ → ℕ → List ℕ
walk zero p = []
walk (suc n) p = p ∷ walk n (next p)

-- a round is 85 frames
abbrev pub round : ℕ → List ℕ
round p = walk 85 p

-- every pointer comes once in the round from p on, and after it p comes again
pub record Once (p : ℕ) : Type 0 where
  pub size : length (round p) ≡ 85
  pub each : (q : ℕ) → q ≤ last_pointer → count_by (eqb q) (round p) ≡ 1
  pub again : steps 85 p ≡ p

-- how many come before q
unfoldable pub before : ℕ → List ℕ → ℕ
before q [] = 0
before q (p ∷ ps) = cond (eqb p q) 0 (1 + before q ps)

-- the frames from p on to q
unfoldable pub frames : ℕ → ℕ → ℕ
frames p q = before q (round p)

-- the smallest number of steps that leads from p to q, and it is 0 to 84
pub record Fewest (p q n : ℕ) : Type 0 where
  pub leads : steps n p ≡ q
  pub smallest : (m : ℕ) → steps m p ≡ q → n ≤ m
  pub within : n ≤ 84
