-- A cut whose pieces each have an element: how many pieces are asked for does not matter, if there are as many as elements, so the cut is its
-- first piece and the cut of the rest, and what holds of a list if it holds of the rest holds of every list. Assumes nothing.
use mathlib.Core.Path.{◌≡◌, refl, ap, ◌∙◌}
use mathlib.Core.List.{List, [], ◌∷◌, ◌++◌}
use Prim.Native.Nat.{ℕ, zero, suc, ◌≤◌}
use native.Mathlib.Omega.{arith}
use lib.ListN.{length}
use Rattle.base.specs.Lists.{concat_map}
use Rattle.labelling.specs.Cutting.{CutOff, cut_by}

module _ {S A B : Type 0} (first : S → A → List A → CutOff S A B) where
  -- the pieces of a list, all of them
  abbrev pub cuts_by : S → List A → List B
  cuts_by s l = cut_by first (length l) s l

  module _ (shorter : (s : S) (a : A) (l : List A) → length (first s a l).rest ≤ length l) where
    enough : (m n : ℕ) (s : S) (l : List A) → length l ≤ m → length l ≤ n → cut_by first m s l ≡ cut_by first n s l
    enough zero zero s l g h = refl
    enough zero (suc n) s [] g h = refl
    enough zero (suc n) s (a ∷ l) g h = absurd (omega arith)
    enough (suc m) zero s [] g h = refl
    enough (suc m) zero s (a ∷ l) g h = absurd (omega arith)
    enough (suc m) (suc n) s [] g h = refl
    enough (suc m) (suc n) s (a ∷ l) g h =
        rw (enough m n (first s a l).state (first s a l).rest (omega (arith, shorter s a l)) (omega (arith, shorter s a l)))

    pub cuts_first : (s : S) (a : A) (l : List A) → cuts_by s (a ∷ l) ≡ (first s a l).piece ∷ cuts_by (first s a l).state (first s a l).rest
    cuts_first s a l =
        let c = first s a l in
        rw (enough (length l) (length c.rest) c.state c.rest (shorter s a l) (omega arith))

    pub by_cuts : (P : S → List A → Type 0) → ((s : S) → P s [])
        → ((s : S) (a : A) (l : List A) → P (first s a l).state (first s a l).rest → P s (a ∷ l)) → (s : S) (l : List A) → P s l
    by_cuts P none more s l = go (length l) s l (omega arith)
      where
        go : (n : ℕ) (s : S) (l : List A) → length l ≤ n → P s l
        go zero s [] h = none s
        go zero s (a ∷ l) h = absurd (omega arith)
        go (suc n) s [] h = none s
        go (suc n) s (a ∷ l) h = more s a l (go n (first s a l).state (first s a l).rest (omega (arith, shorter s a l)))

    -- where each piece and the rest are the list, the pieces laid end to end are the list
    pub laid_out : (of : B → List A) → ((s : S) (a : A) (l : List A) → of (first s a l).piece ++ (first s a l).rest ≡ a ∷ l)
        → (s : S) (l : List A) → concat_map of (cuts_by s l) ≡ l
    laid_out of whole =
        by_cuts (λ s l. concat_map of (cuts_by s l) ≡ l) (λ s. refl) (λ s a l laid. ap (concat_map of) (cuts_first s a l) ∙ rw laid (whole s a l))
