-- Laws of what is said over the n numbers from i on: by what the lowest one and all of them are known, and the values of a function in order.
-- Assumes nothing.
use mathlib.Core.Path.{◌≡◌, refl, sym, ap, ◌∙◌}
use mathlib.Core.Bool.{Bool, true, false, cond, and-false}
use mathlib.Core.List.{List, ◌++◌, append-nil, append_assoc}
use Prim.Native.Nat.{ℕ, zero, suc, ◌+◌, ◌≤◌, ◌<◌}
use native.Mathlib.Omega.{arith}
use lib.Dec.{ltb}
use lib.ListN.{length, get_or}
use borrow.Author.Tests.{ltb-true, ltb-false}
use Rattle.base.specs.Ranges.{each, lowest, tabulate, joined}

module _ (p : ℕ → Bool) where
  -- ---- the lowest
  pub lowest-le : (i n : ℕ) → lowest p i n ≤ i + n
  lowest-le i zero = omega arith
  lowest-le i (suc n) = go (p i) (lowest-le (suc i) n)
    where
      go : (b : Bool) → lowest p (suc i) n ≤ suc i + n → cond b i (lowest p (suc i) n) ≤ i + suc n
      go true l = omega arith
      go false l = omega arith

  lowest-none : (i n : ℕ) → ((k : ℕ) → i ≤ k → k < i + n → p k ≡ false) → lowest p i n ≡ i + n
  lowest-none i zero h = omega arith
  lowest-none i (suc n) h =
      let e : suc i + n ≡ i + suc n = omega arith in
      rw (h i (omega arith) (omega arith)) (lowest-none (suc i) n (λ k a b. h k (omega arith) (omega arith)) ∙ e)

  lowest-at : (i n j : ℕ) → i ≤ j → j < i + n → ((k : ℕ) → i ≤ k → k < j → p k ≡ false) → p j ≡ true → lowest p i n ≡ j
  lowest-at i zero j a b h t = absurd (omega arith)
  lowest-at i (suc n) j a b h t = go (ltb i j) refl (λ l. lowest-at (suc i) n j l (omega arith) (λ k c d. h k (omega arith) d) t)
    where
      go : (b : Bool) → ltb i j ≡ b → (suc i ≤ j → lowest p (suc i) n ≡ j) → lowest p i (suc n) ≡ j
      go true e later = let l = ltb-true i j e in rw (h i (omega arith) l) (later l)
      go false e later =
          let same : i ≡ j = let l = ltb-false i j e in omega arith in
          rw (ap p same ∙ t) same

  lowest-clear : (i n : ℕ) → lowest p i n ≡ i + n → (k : ℕ) → i ≤ k → k < i + n → p k ≡ false
  lowest-clear i zero e k a b = absurd (omega arith)
  lowest-clear i (suc n) e k a b = go (p i) refl (λ f l. lowest-clear (suc i) n f k l (omega arith))
    where
      after : p i ≡ false → lowest p (suc i) n ≡ suc i + n
      after f = let s : i + suc n ≡ suc i + n = omega arith in (rw f at e) ∙ s

      go : (b : Bool) → p i ≡ b → (lowest p (suc i) n ≡ suc i + n → suc i ≤ k → p k ≡ false) → p k ≡ false
      go true t later = let f : i ≡ i + suc n = rw t at e in absurd (omega arith)
      go false f later = split (ltb i k) refl
        where
          split : (b : Bool) → ltb i k ≡ b → p k ≡ false
          split true l = later (after f) (ltb-true i k l)
          split false l = let same : k ≡ i = let m = ltb-false i k l in omega arith in ap p same ∙ f

  -- a search from 0 on that stopped at i, and one that came to the end
  pub stopped : (n i : ℕ) → i < n → ((k : ℕ) → k < i → p k ≡ false) → p i ≡ true → i ≡ lowest p 0 n
  stopped n i h below t = sym (lowest-at 0 n i (omega arith) (omega arith) (λ k a b. below k b) t)

  pub searched : (n i : ℕ) → i ≡ n → ((k : ℕ) → k < i → p k ≡ false) → n ≡ lowest p 0 n
  searched n i e below = let l = lowest-none 0 n (λ k a b. below k (omega arith)) in omega arith

  -- p holds of none of the first n numbers exactly where the lowest is not below n
  pub none-holds : (n : ℕ) → ((k : ℕ) → k < n → p k ≡ false) → n ≤ lowest p 0 n
  none-holds n h = let e = lowest-none 0 n (λ k a b. h k (omega arith)) in omega arith

  pub holds-none : (n : ℕ) → n ≤ lowest p 0 n → (k : ℕ) → k < n → p k ≡ false
  holds-none n l k h = let m = lowest-le 0 n in lowest-clear 0 n (omega arith) k (omega arith) (omega arith)

  -- ---- all of them
  pub each-true : (i n : ℕ) → ((k : ℕ) → i ≤ k → k < i + n → p k ≡ true) → each p i n ≡ true
  each-true i zero h = refl
  each-true i (suc n) h = rw (h i (omega arith) (omega arith)) (each-true (suc i) n (λ k a b. h k (omega arith) (omega arith)))

  pub each-false : (i n j : ℕ) → i ≤ j → j < i + n → p j ≡ false → each p i n ≡ false
  each-false i zero j a b f = absurd (omega arith)
  each-false i (suc n) j a b f = go (ltb i j) refl (λ l. each-false (suc i) n j l (omega arith) f)
    where
      go : (b : Bool) → ltb i j ≡ b → (suc i ≤ j → each p (suc i) n ≡ false) → each p i (suc n) ≡ false
      go true e later = rw (later (ltb-true i j e)) (and-false (p i))
      go false e later = let same : i ≡ j = let l = ltb-false i j e in omega arith in rw (ap p same ∙ f)

-- two tests that agree have the same lowest number
pub lowest-same : (p q : ℕ → Bool) (i n : ℕ) → ((k : ℕ) → i ≤ k → k < i + n → p k ≡ q k) → lowest p i n ≡ lowest q i n
lowest-same p q i zero h = refl
lowest-same p q i (suc n) h =
    rw (h i (omega arith) (omega arith), lowest-same p q (suc i) n (λ k a b. h k (omega arith) (omega arith)))

-- ---- the values of a function
module _ {A : Type 0} (f : ℕ → A) where
  pub tabulate-length : (i n : ℕ) → length (tabulate f i n) ≡ n
  tabulate-length i zero = refl
  tabulate-length i (suc n) = ap suc (tabulate-length (suc i) n)

  pub tabulate-at : (i n k : ℕ) (d : A) → k < n → get_or (tabulate f i n) k d ≡ f (i + k)
  tabulate-at i zero k d h = absurd (omega arith)
  tabulate-at i (suc n) zero d h = let z : i ≡ i + 0 = omega arith in ap f z
  tabulate-at i (suc n) (suc k) d h = let z : suc i + k ≡ i + suc k = omega arith in tabulate-at (suc i) n k d (omega arith) ∙ ap f z

-- ---- lists joined: one more at the end
pub joined_end : (f : ℕ → List ℕ) (i n : ℕ) → joined f i (suc n) ≡ joined f i n ++ f (i + n)
joined_end f i zero = let z : i ≡ i + 0 = omega arith in append-nil (f i) ∙ ap f z
joined_end f i (suc n) =
    let z : suc i + n ≡ i + suc n = omega arith in
    ap (λ (r : List ℕ). f i ++ r) (joined_end f (suc i) n ∙ ap (λ (m : ℕ). joined f (suc i) n ++ f m) z)
    ∙ sym (append_assoc (f i) (joined f (suc i) n) (f (i + suc n)))
