-- A search from the lowest number on. Assumes nothing.
use Rattle.std.proofs.Common.{◌≡◌, refl, ap, is_some, Bool, true, false, cond, ℕ, ◌≤◌, ◌<◌, ltb, Option, Some, None, MatchOption}
use native.Mathlib.Omega.{arith}
use borrow.Author.Tests.{lt-ltb, le-ltb}
use Rattle.base.specs.Ranges.{lowest}
use Rattle.base.proofs.Ranges.{stopped, none-holds, lowest-same}
use Rattle.book.specs.Sought.{first_such}

module _ (p : ℕ → Bool) (n : ℕ) where
  -- what a search from 0 on finds
  pub found : (r : Option ℕ)
      → MatchOption r ((k : ℕ) → 0 ≤ k → k < n → p k ≡ false) (λ i. (0 ≤ i) × (i < n) × (p i ≡ true) × ((k : ℕ) → 0 ≤ k → k < i → p k ≡ false))
      → r ≡ first_such p n
  found None h = rw (le-ltb (lowest p 0 n) n (none-holds p n (λ k l. h k (omega arith) l)))
  found (Some i) h = rw (← stopped p n i h.1 (λ k l. h.3 k (omega arith) l) h.2, lt-ltb i n h.1)

  pub found-some : is_some (first_such p n) ≡ ltb (lowest p 0 n) n
  found-some = go (ltb (lowest p 0 n) n)
    where
      go : (t : Bool) → is_some (cond t (Some (lowest p 0 n)) None) ≡ t
      go true = refl
      go false = refl

  -- two tests that agree find the same
  pub found-same : (q : ℕ → Bool) → ((k : ℕ) → k < n → p k ≡ q k) → first_such p n ≡ first_such q n
  found-same q h = ap (λ (l : ℕ). cond (ltb l n) (Some l) None) (lowest-same p q 0 n (λ k a b. h k (omega arith)))
