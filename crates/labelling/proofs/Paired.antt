-- Two lists, element by element: what is joined or added up over them is the same where it is the same for each pair. Assumes nothing.
use mathlib.Core.Path.{◌≡◌, refl}
use mathlib.Core.List.{List, [], ◌∷◌}
use Prim.Native.Nat.{ℕ}
use Rattle.base.specs.Lists.{concat_map, sum_by}

pub data Paired {A : Type 0} (R : A → A → Type 0) : List A → List A → Type 0 where
  no_pair : Paired R [] []
  pair : {a b : A} {l m : List A} → R a b → Paired R l m → Paired R (a ∷ l) (b ∷ m)

module _ {A : Type 0} {R : A → A → Type 0} where
  pub concat_map-paired : {B : Type 0} {f g : A → List B} {l m : List A} → ((a b : A) → R a b → f a ≡ g b) → Paired R l m
      → concat_map f l ≡ concat_map g m
  concat_map-paired h no_pair = refl
  concat_map-paired h (pair {a} {b} r p) = rw (h a b r, concat_map-paired h p)

  pub sum_by-paired : {f g : A → ℕ} {l m : List A} → ((a b : A) → R a b → f a ≡ g b) → Paired R l m → sum_by f l ≡ sum_by g m
  sum_by-paired h no_pair = refl
  sum_by-paired h (pair {a} {b} r p) = rw (h a b r, sum_by-paired h p)
