-- The words of a column: a list is known by its values, and whether all bytes of a list hold the same. Assumes nothing.
use Rattle.std.proofs.Common.{◌≡◌, refl, ap, sym, ◌∙◌, Bool, true, false, List, [], ◌∷◌, length, get_or, ℕ, zero, suc, ◌+◌, ◌<◌, arith}
use Rattle.std.specs.List.{AllWithin, HoldsAt}
use Rattle.std.specs.Prelude.{MatchBool}
use mathlib.Core.Bool.{and-false}
use borrow.Author.Tests.{eq-eqb, ne_eqb}
use lib.Dec.{eqb}
use lib.Seq.{ext_get_or}
use Rattle.word72_column.specs.Columns.{values, word72, gathered, all_hold}

module _ (f : ℕ → ℕ) where
  values_length : (i n : ℕ) → length (values f i n) ≡ n
  values_length i zero = refl
  values_length i (suc n) = ap suc (values_length (suc i) n)

  values-at : (i n k : ℕ) → k < n → get_or (values f i n) k 0 ≡ f (i + k)
  values-at i zero k h = absurd (omega arith)
  values-at i (suc n) zero h = let e : i ≡ i + 0 = omega arith in ap f e
  values-at i (suc n) (suc k) h = let e : suc i + k ≡ i + suc k = omega arith in values-at (suc i) n k (omega arith) ∙ ap f e

  are_values : (n : ℕ) (l : List ℕ) → length l ≡ n → ((k : ℕ) → k < n → get_or l k 0 ≡ f k) → l ≡ values f 0 n
  are_values n l e h =
      ext_get_or 0 l (values f 0 n) (e ∙ sym (values_length 0 n))
      (λ k b. let z : 0 + k ≡ k = omega arith in h k (omega arith) ∙ sym (values-at 0 n k (omega arith) ∙ ap f z))

pub is_gathered : (area column : List ℕ) → length column ≡ 128 → ((m : ℕ) → m < 128 → get_or column m 0 ≡ word72 area m) → column ≡ gathered area
unfolding gathered
is_gathered area column l h = are_values (word72 area) 128 column l h

-- ---- whether all bytes hold k
module _ (k : ℕ) where
  all_true : (s : List ℕ) → ((p : ℕ) → p < length s → get_or s p 0 ≡ k) → all_hold k s ≡ true
  unfolding all_hold
  all_true [] h = refl
  all_true (b ∷ s) h = rw (eq-eqb b k (h 0 (omega arith))) (all_true s (λ p l. h (suc p) (omega arith)))

  one-false : (s : List ℕ) (p : ℕ) → p < length s → (get_or s p 0 ≡ k → ⊥) → all_hold k s ≡ false
  unfolding all_hold
  one-false [] p l h = absurd (omega arith)
  one-false (b ∷ s) zero l h = rw (ne_eqb b k h)
  one-false (b ∷ s) (suc p) l h = rw (one-false s p (omega arith) h) (and-false (eqb b k))

  -- the answer of a test of each byte
  pub tested : (s : List ℕ) (r : Bool)
      → MatchBool r (AllWithin (λ b. b ≡ k) s 0 (length s)) ((p : ℕ) × (p < length s) × HoldsAt (λ b. b ≡ k → ⊥) s p) → r ≡ all_hold k s
  tested s true m = sym (all_true s (λ p h. m p 0 (omega arith) h))
  tested s false m = sym (one-false s m.0 m.1 (m.2 0))
