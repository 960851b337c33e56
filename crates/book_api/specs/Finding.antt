-- What finding an instant leaves in the lent place. Definitions only.
use Rattle.std.specs.Prelude.{◌≡◌, List, [], ◌∷◌, ℕ, ◌+◌, Option, Some, None, Result, Ok, Err}
use Rattle.base.specs.declared.refusal.Refusal.{Refusal}
use Rattle.base.specs.Refusals.{refusal}
use Rattle.lookup.specs.declared.Found.{Found}
use Rattle.lookup.specs.Answer.{find_lines}
use Rattle.lookup.specs.Promise.{FindPromise}

-- the place plus one, 0 for none
abbrev pub place_number : Option ℕ → ℕ
place_number (Some place) = place + 1
place_number None = 0

-- it and the looks; or what was there
abbrev pub found_or : Result Found Refusal → List ℕ → List ℕ
found_or (Ok f) old = place_number f.place ∷ f.looks ∷ []
found_or (Err r) old = old

-- `pcd_find` of the wanted instant in the list xs returns r; the lent place held old and holds new
pub record FindCrossed (xs : List ℕ) (wanted r : ℕ) (old new : List ℕ) : Type 0 where
  pub refusal_is : r ≡ refusal (find_lines xs)
  -- what crosses is an answer of which all that `find` promises holds
  pub found : Result Found Refusal
  pub promised : FindPromise xs wanted found
  pub numbers_are : new ≡ found_or found old
