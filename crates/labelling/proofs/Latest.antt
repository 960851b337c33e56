-- Laws of the last element of a list. Assumes nothing.
use mathlib.Core.Path.{◌≡◌, refl}
use mathlib.Core.List.{List, [], ◌∷◌, ◌++◌, map, map-append}
use Rattle.base.specs.Lists.{concat_map}
use Rattle.base.proofs.Lists.{concat_map-append}
use Rattle.labelling.specs.Rest.{latest}

module _ {A : Type 0} where
  -- of two lists joined: the second decides, if it can
  pub latest-append : (d : A) (l m : List A) → latest d (l ++ m) ≡ latest (latest d l) m
  latest-append d [] m = refl
  latest-append d (a ∷ l) m = latest-append a l m

module _ {A B : Type 0} where
  pub latest-map : (f : A → B) (d : B) (l m : List A) → latest d (map f (l ++ m)) ≡ latest (latest d (map f l)) (map f m)
  latest-map f d l m = rw map-append (latest-append d (map f l) (map f m))

  pub latest-concat_map : (f : A → List B) (d : B) (l m : List A)
      → latest d (concat_map f (l ++ m)) ≡ latest (latest d (concat_map f l)) (concat_map f m)
  latest-concat_map f d l m = rw (concat_map-append f l m) (latest-append d (concat_map f l) (concat_map f m))
