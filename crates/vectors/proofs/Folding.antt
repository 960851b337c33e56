-- A count of other bytes over what is left of a list from a place on. Assumes nothing.
use Rattle.std.proofs.Common.{◌≡◌, refl, Bool, true, false, cond, List, [], ◌∷◌, ℕ, zero, suc, ◌+◌, ◌≤◌, ◌<◌, length, get_or, drop, drop-cons, add-one, arith}
use Rattle.std.specs.List as std
use Rattle.std.proofs.lemmas.List.Recursion.{is_count_by}
use lib.ListN.{drop_of_length-le}
use Rattle.base.specs.Lists.{count_by, one}
use Rattle.vectors.specs.Folds.{is_other_first, rest, differ}

-- base counts as the library does
pub count_by-std : (p : ℕ → Bool) (l : List ℕ) → count_by p l ≡ std.count_by p l
count_by-std p l = is_count_by (count_by p) p refl (λ x xs. one_more (p x) (count_by p xs)) l
  where
    one_more : (b : Bool) (n : ℕ) → one b + n ≡ cond b (1 + n) n
    one_more true n = refl
    one_more false n = omega arith

-- ---- a count that stands at place i with n counted, where left says how many there are from a place on
abbrev pub Counted : (ℕ → ℕ) → ℕ → ℕ → Type 0
Counted left n i = (n ≤ i) × (n + left i ≡ left 0)

pub one_at_most : (b : Bool) → one b ≤ 1
one_at_most true = omega arith
one_at_most false = omega arith

rest_of : (l : List ℕ) (i : ℕ) → rest (drop i l) ≡ drop (suc i) l
rest_of [] zero = refl
rest_of [] (suc i) = refl
rest_of (x ∷ xs) zero = refl
rest_of (x ∷ xs) (suc i) = rest_of xs i

pub differ-step : (l m : List ℕ) (i : ℕ) → i < length l
    → differ (drop i l) (drop i m) ≡ one (is_other_first (get_or l i 0) (drop i m)) + differ (drop (i + 1) l) (drop (i + 1) m)
differ-step l m i h = rw (add-one, drop-cons l i 0 h) (rw (rest_of m i))

pub differ-end : (l m : List ℕ) (i : ℕ) → length l ≤ i → differ (drop i l) (drop i m) ≡ 0
differ-end l m i h = rw (drop_of_length-le l {i = i} h)
