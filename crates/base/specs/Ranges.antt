-- Over the n numbers from i on: i, i + 1, .., i + n - 1. Definitions only.
use Rattle.std.specs.Prelude.{Bool, true, cond, ◌&&◌, List, [], ◌∷◌, ◌++◌, ℕ, zero, suc}

-- p holds of each of them
abbrev pub each : (ℕ → Bool) → ℕ → ℕ → Bool
each p i zero = true
each p i (suc n) = p i && each p (suc i) n

-- the lowest of them of which p holds; i + n where it holds of none
abbrev pub lowest : (ℕ → Bool) → ℕ → ℕ → ℕ
lowest p i zero = i
lowest p i (suc n) = cond (p i) i (lowest p (suc i) n)

-- the values of f, in order
abbrev pub tabulate : {A : Type 0} → (ℕ → A) → ℕ → ℕ → List A
tabulate f i zero = []
tabulate f i (suc n) = f i ∷ tabulate f (suc i) n

-- the lists that f gives, joined in order
abbrev pub joined : (ℕ → List ℕ) → ℕ → ℕ → List ℕ
joined f i zero = []
joined f i (suc n) = f i ++ joined f (suc i) n
