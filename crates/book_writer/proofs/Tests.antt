-- The tests of the code, by what they found: of an instant, and of a length with no product that could wrap. Assumes nothing.
use mathlib.Core.Path.{◌≡◌, refl, sym, ap, ◌∙◌}
use mathlib.Core.Bool.{Bool, true, false}
use mathlib.Core.List.{List}
use Prim.Native.Nat.{ℕ, ◌+◌, ◌*◌, ◌-◌, ◌/◌, ◌%◌, ◌≤◌, ◌<◌}
use native.Mathlib.Omega.{arith}
use lib.Dec.{eqb, leb}
use lib.ListN.{take, drop}
use borrow.Author.Tests.{eq-eqb, ne_eqb, eqb-true, eqb-false, lt-ltb, le-ltb}
use Rattle.base.proofs.Rows.{row_is}
use Rattle.cycle.specs.Cycle.{instant_of}
use Rattle.book.specs.Layout.{book_length}
use Rattle.book_writer.specs.Sought.{row_instant, falling_row}

-- ---- bodies end to end
module _ (y : ℕ) (bodies : List ℕ) (i : ℕ) where
  abbrev part : List ℕ
  part = take (65536 * i + 65536 - 65536 * i) (drop (65536 * i) bodies)

  pub row-instant : (t : ℕ) → t ≡ instant_of y part → t ≡ row_instant y bodies i
  unfolding row_instant
  row-instant t e = e ∙ ap (instant_of y) (row_is 65536 bodies i)

  pub later-row : (t u : ℕ) → 0 < i → t ≡ row_instant y bodies i → u ≡ row_instant y bodies (i - 1) → leb t u ≡ falling_row y bodies i
  unfolding falling_row
  later-row t u h e f = rw (lt-ltb 0 i h, e, f)

  pub first-row : i ≤ 0 → false ≡ falling_row y bodies i
  unfolding falling_row
  first-row h = rw (le-ltb 0 i h)

-- ---- the length of a book of n cycles
module _ (l n : ℕ) where
  pub too_short : l < 4 → false ≡ eqb l (book_length n)
  too_short h = sym (ne_eqb l (book_length n) (λ e. omega arith))

  pub uneven : ((l - 4) % 65548 ≡ 0 → ⊥) → false ≡ eqb l (book_length n)
  uneven h = sym (ne_eqb l (book_length n) (λ e. h (omega arith)))

  pub even : 4 ≤ l → (l - 4) % 65548 ≡ 0 → eqb ((l - 4) / 65548) n ≡ eqb l (book_length n)
  even h e = go (eqb ((l - 4) / 65548) n) refl
    where
      go : (b : Bool) → eqb ((l - 4) / 65548) n ≡ b → b ≡ eqb l (book_length n)
      go true t = let q = eqb-true ((l - 4) / 65548) n t in sym (eq-eqb l (book_length n) (omega arith))
      go false f = sym (ne_eqb l (book_length n) (λ q. eqb-false ((l - 4) / 65548) n f (omega arith)))
