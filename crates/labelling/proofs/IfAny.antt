-- A piece made of a list, if the list has an element: what ends a cut. A count, a join or a last value that an empty piece does not change
-- is that of the piece. Assumes nothing.
use mathlib.Core.Path.{◌≡◌, refl, sym}
use mathlib.Core.List.{List, [], ◌∷◌, map, append-nil}
use Prim.Native.Nat.{ℕ}
use native.Mathlib.Nat.{add-zero}
use Rattle.base.specs.Lists.{concat_map, sum_by}
use Rattle.labelling.specs.Rest.{latest}

module _ {A B : Type 0} where
  abbrev pub if_any : (List A → B) → List A → List B
  if_any piece [] = []
  if_any piece (a ∷ l) = piece (a ∷ l) ∷ []

  pub sum_by-if_any : (g : B → ℕ) (piece : List A → B) (l : List A) → g (piece []) ≡ 0 → sum_by g (if_any piece l) ≡ g (piece l)
  sum_by-if_any g piece [] e = sym e
  sum_by-if_any g piece (a ∷ l) e = add-zero (g (piece (a ∷ l)))

  pub concat_map-if_any : {C : Type 0} (g : B → List C) (piece : List A → B) (l : List A) → g (piece []) ≡ [] → concat_map g (if_any piece l) ≡ g (piece l)
  concat_map-if_any g piece [] e = sym e
  concat_map-if_any g piece (a ∷ l) e = append-nil (g (piece (a ∷ l)))

  pub latest-if_any : {C : Type 0} (g : B → C) (d : C) (piece : List A → B) (l : List A) → g (piece []) ≡ d → latest d (map g (if_any piece l)) ≡ g (piece l)
  latest-if_any g d piece [] e = sym e
  latest-if_any g d piece (a ∷ l) e = refl
