-- A list cut into pieces, one after the other. Definitions only.
use Rattle.std.specs.Prelude.{List, [], ◌∷◌, ℕ, zero, suc}

-- what is cut off at the head of a list: the piece, the state in which the cut goes on, and the rest of the list
pub record CutOff (S A B : Type 0) : Type 0 where
  pub piece : B
  pub state : S
  pub rest : List A

-- the pieces of a list, at most n of them. Each has an element, so as many as there are elements are enough
abbrev pub cut_by : {S A B : Type 0} → (S → A → List A → CutOff S A B) → ℕ → S → List A → List B
cut_by first zero s l = []
cut_by first (suc n) s [] = []
cut_by first (suc n) s (a ∷ l) = (first s a l).piece ∷ cut_by first n (first s a l).state (first s a l).rest
