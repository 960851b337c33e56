-- Quiet stretches joined end to end, the shortest ones, and blocks: a loop takes one more at each turn. Assumes nothing.
use mathlib.Core.Path.{◌≡◌, refl, ap, ◌∙◌}
use mathlib.Core.Bool.{Bool, true, false, not}
use mathlib.Core.List.{List, [], ◌∷◌, ◌++◌}
use Prim.Native.Nat.{ℕ, zero, suc, ◌+◌, ◌≤◌, ◌<◌}
use native.Mathlib.Nat.{zero-add, add-zero}
use native.Mathlib.Numerals.{add-one}
use native.Mathlib.Omega.{arith}
use lib.Dec.{eqb}
use lib.ListN.{length, length-drop, get_or, drop}
use lib.Seq.{take-suc, get_or-drop}
use borrow.Author.Tests.{eq-eqb, eqb-true, eqb-false}
use Rattle.base.specs.Format.{SYNC, FILL}
use Rattle.base.specs.Lists.{one, count_by}
use Rattle.base.proofs.Lists.{sum_by-append}
use Rattle.quiet.specs.Quiet.{Byte, Quiet, ends, fill, stray, block, is_sync, not_fill}

module _ {p : List ℕ} where
  pub quiet_join : {i j k n m : ℕ} → Quiet p i j n → Quiet p j k m → Quiet p i k (n + m)
  quiet_join {m = m} ends b = rw (zero-add m) b
  quiet_join (fill x a) b = fill x (quiet_join a b)
  quiet_join {m = m} (stray {n = n} x y s f a) b =
      let e : n + 1 + m ≡ n + m + 1 = omega arith in
      rw e (stray x y s f (quiet_join a b))

  pub quiet_far : {i j n : ℕ} → Quiet p i j n → i + n ≤ j
  quiet_far ends = omega arith
  quiet_far (fill x a) = omega (arith, quiet_far a)
  quiet_far (stray x y s f a) = omega (arith, quiet_far a)

  pub quiet_inside : {i j n : ℕ} → Quiet p i j n → i ≤ length p → j ≤ length p
  quiet_inside ends h = h
  quiet_inside (fill x a) h = quiet_inside a (omega (arith, x.inside))
  quiet_inside (stray x y s f a) h = quiet_inside a (omega (arith, y.inside))

  pub one-fill_quiet : {i : ℕ} → Byte p i FILL → Quiet p i (i + 1) 0
  one-fill_quiet b = fill b ends

  pub one-stray : {i b : ℕ} → Byte p i b → (b ≡ SYNC → ⊥) → (b ≡ FILL → ⊥) → Quiet p i (i + 1) 1
  one-stray {b = b} y s f = rw (← zero-add 1) (stray b y s f ends)

-- ---- a block: so many bytes looked at one by one

module _ (p : List ℕ) where
  one_byte : {j : ℕ} → j < length p → (get_or p j 0 ≡ SYNC → ⊥) → Quiet p j (j + 1) (one (not_fill (get_or p j 0)))
  one_byte {j} h s = go (eqb (get_or p j 0) FILL) refl
    where
      go : (b : Bool) → eqb (get_or p j 0) FILL ≡ b → Quiet p j (j + 1) (one (not b))
      go true e = one-fill_quiet record { inside = h; is = eqb-true (get_or p j 0) FILL e }
      go false e = one-stray record { inside = h; is = refl } s (eqb-false (get_or p j 0) FILL e)

  module _ (i : ℕ) where
    -- with one byte more
    pub count-more : (t : ℕ → Bool) (n : ℕ) → i + n < length p
        → count_by t (block p i (n + 1)) ≡ count_by t (block p i n) + one (t (get_or p (i + n) 0))
    count-more t n h =
        let inside : n < length (drop i p) = rw length-drop (omega arith) in
        let more : block p i (n + 1) ≡ block p i n ++ (get_or p (i + n) 0 ∷ []) =
        rw (add-one n) (take-suc (drop i p) n 0 inside ∙ rw (get_or-drop i p n 0)) in
        let sum = sum_by-append (λ b. one (t b)) (block p i n) (get_or p (i + n) 0 ∷ []) in
        rw more (omega (arith, sum))

    pub block-quiet : (n : ℕ) → i + n ≤ length p → count_by is_sync (block p i n) ≡ 0 → Quiet p i (i + n) (count_by not_fill (block p i n))
    block-quiet zero h k = rw (add-zero i) ends
    block-quiet (suc n) h k =
        let none : count_by is_sync (block p i (n + 1)) ≡ 0 = rw (add-one n) k in
        let syncs = count-more is_sync n (omega arith) in
        let other : get_or p (i + n) 0 ≡ SYNC → ⊥ = λ e. omega (arith, ap one (eq-eqb (get_or p (i + n) 0) SYNC e)) in
        let e : i + suc n ≡ i + n + 1 = omega arith in
        rw (e, ← add-one n, count-more not_fill n (omega arith)) (quiet_join (block-quiet n (omega arith) (omega arith)) (one_byte (omega arith) other))
