-- What a book says in its bytes: the numbers that were read there, its sizes, and where its bodies lie. Assumes nothing.
use mathlib.Core.Path.{◌≡◌, refl, ap, ◌∙◌}
use mathlib.Core.Bool.{Bool, true, false, ◌&&◌}
use mathlib.Core.List.{List}
use Prim.Native.Nat.{ℕ, ◌+◌, ◌*◌, ◌-◌, ◌^◌, ◌≤◌, ◌<◌}
use native.Mathlib.Nat.{pow-le-pow_right}
use native.Mathlib.Omega.{arith}
use lib.Dec.{eqb, leb, lit<}
use lib.ListN.{length, take, drop}
use borrow.Author.Tests.{eqb-true, leb-true}
use Rattle.base.specs.Numbers.{big_endian, NumberOf}
use Rattle.base.specs.Rows.{row}
use Rattle.base.proofs.Numbers.{Bytes, big_endian-below, take-bytes, short-take}
use Rattle.base.proofs.Rows.{part-is, row-after}
use Rattle.book.specs.Layout.{body_start, book_length, cycles_said, year_said, entry_start, instant_at, offset_at, body_at}
use Rattle.book.specs.Faults.{contents, is_sized}
use Rattle.book.specs.Sought.{Sized}

-- ---- numbers read
read-in : (w : ℕ) (l : List ℕ) (r : ℕ) → w ≤ 8 → NumberOf (take w l) r → r ≡ big_endian (take w l)
read-in w l r h e = e.whole (let s = short-take w l in omega arith)

module _ (b : List ℕ) (r : ℕ) where
  pub cycles_read : NumberOf (take 2 b) r → r ≡ cycles_said b
  unfolding cycles_said
  cycles_read e = read-in 2 b r (omega arith) e

  pub year_read : NumberOf (take 2 (drop 2 b)) r → r ≡ year_said b
  unfolding year_said
  year_read e = read-in 2 (drop 2 b) r (omega arith) e

  pub instant-read : (i : ℕ) → NumberOf (take (entry_start i + 8 - entry_start i) (drop (entry_start i) b)) r → r ≡ instant_at b i
  unfolding instant_at
  instant-read i e = read-in 8 (drop (entry_start i) b) r (omega arith) (rw (part-is (entry_start i) 8 b) at e)

  pub offset_read : (i : ℕ) → NumberOf (take (entry_start i + 8 + 4 - (entry_start i + 8)) (drop (entry_start i + 8) b)) r → r ≡ offset_at b i
  unfolding offset_at
  offset_read i e = read-in 4 (drop (entry_start i + 8) b) r (omega arith) (rw (part-is (entry_start i + 8) 4 b) at e)

pub cycles_below : (b : List ℕ) → Bytes b → cycles_said b < 65536
unfolding cycles_said
cycles_below b h =
    let p : 256 ^ length (take 2 b) ≤ 256 ^ 2 = pow-le-pow_right (lit< tt) {i = length (take 2 b)} {j = 2} (short-take 2 b) in
    omega (arith, big_endian-below (take 2 b) (take-bytes 2 b h))

-- ---- sizes

-- the tests of the code are the definition's
pub sized_is : (b : List ℕ) (n : ℕ) → n ≡ cycles_said b → (eqb (length b) (4 + 65548 * n) && leb n 255) ≡ is_sized (contents b)
unfolding is_sized
sized_is b n e =
    let same : 4 + 65548 * n ≡ book_length n = omega arith in
    rw (same, e)

pub sized : (b : List ℕ) → is_sized (contents b) ≡ true → Sized b (cycles_said b)
unfolding is_sized
sized b = go (eqb (length b) (book_length (cycles_said b))) (leb (cycles_said b) 255) refl refl
  where
    never : false ≡ true → Sized b (cycles_said b)
    never e = let z : ◌≡◌ {A = ℕ} 0 1 = cc in absurd (impossible z)
      where
        impossible : ◌≡◌ {A = ℕ} 0 1 → ⊥
        impossible z = omega arith

    go : (p q : Bool) → eqb (length b) (book_length (cycles_said b)) ≡ p → leb (cycles_said b) 255 ≡ q → (p && q) ≡ true → Sized b (cycles_said b)
    go true true ep eq e = record { said = refl; few = leb-true _ _ eq; long = eqb-true _ _ ep }
    go true false ep eq e = never e
    go false q ep eq e = never e

-- ---- bodies

-- body i, by its start and end, and as a row of all that follows the entries
module _ (b : List ℕ) (n i : ℕ) (e : n ≡ cycles_said b) where
  pub body-part : take (body_start n i + 65536 - body_start n i) (drop (body_start n i) b) ≡ body_at b i
  unfolding body_at
  body-part = part-is (body_start n i) 65536 b ∙ ap (λ (m : ℕ). take 65536 (drop (body_start m i) b)) e

  pub body-row : row 65536 (drop (4 + 12 * n) b) i ≡ body_at b i
  unfolding body_at
  body-row = row-after 65536 (4 + 12 * n) b i ∙ ap (λ (m : ℕ). take 65536 (drop (body_start m i) b)) e
