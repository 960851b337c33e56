-- What is written has no fault: the bytes of a book say what it was written from. Assumes nothing.
use mathlib.Core.Path.{◌≡◌, refl, sym, ◌∙◌}
use mathlib.Core.Bool.{Bool, true, false, ◌&&◌}
use mathlib.Core.List.{List, []}
use Prim.Native.Nat.{ℕ, zero, suc, ◌-◌, ◌≤◌, ◌<◌}
use native.Mathlib.Omega.{arith}
use lib.Dec.{leb}
use lib.ListN.{length, get_or}
use borrow.Author.Tests.{eq-eqb, le-leb, leb-true, not-false}
use Rattle.time_code.specs.Calendar.{in_span}
use Rattle.cycle.specs.Cycle.{is_cycle, instant_of}
use Rattle.cycle.proofs.Frames.{cycle_length}
use Rattle.book.specs.Layout.{body_start, book_length, book, cycles_said, year_said, instant_at, body_at, cycles_of}
use Rattle.book.specs.Faults.{contents, contents_of, is_sized, bad_body, falls, bad_instant, bad_offset, view_refusal}
use Rattle.book_writer.proofs.Placed.{book-length, cycles_said_lem, year_said_lem, instant-at, offset_at_lem, body-at, cycles_of_lem}
use Rattle.book.proofs.Ways.{long_number, Sound, sound_none}

module _ (y : ℕ) (cs : List (List ℕ)) (s : Sound (contents_of y cs)) where
  abbrev n : ℕ
  n = length cs

  abbrev B : List ℕ
  B = book y cs

  good : (i : ℕ) → i < n → is_cycle y (get_or cs i []) ≡ true
  unfolding bad_body
  good i h = not-false (is_cycle y (get_or cs i [])) (s.bodies i h)

  wide : (i : ℕ) → i < n → length (get_or cs i []) ≡ 65536
  wide i h = cycle_length y (get_or cs i []) (good i h)

  few : n ≤ 255
  unfolding is_sized
  few = leb-true n 255 s.sized

  year_below : y < 65536
  unfolding in_span
  year_below = go (leb 1999 y) (leb y 2099) refl s.span
    where
      go : (p q : Bool) → leb y 2099 ≡ q → (p && q) ≡ true → y < 65536
      go true true e f = let l = leb-true y 2099 e in omega arith
      go true false e f = let z : ◌≡◌ {A = ℕ} 0 1 = cc in omega arith
      go false q e f = let z : ◌≡◌ {A = ℕ} 0 1 = cc in omega arith

  -- ---- what it says
  count-is : cycles_said B ≡ n
  count-is = let f = few in cycles_said_lem y cs wide (omega arith)

  pub year_is : year_said B ≡ y
  year_is = year_said_lem y cs wide year_below

  pub cycles_are : cycles_of B ≡ cs
  cycles_are = let f = few in cycles_of_lem y cs wide (omega arith)

  body_is : (i : ℕ) → i < n → body_at B i ≡ get_or cs i []
  body_is i h = let f = few in body-at y cs wide i h (omega arith)

  instant-is : (i : ℕ) → i < n → instant_at B i ≡ instant_of y (get_or cs i [])
  instant-is i h = instant-at y cs wide i h

  -- ---- no fault
  sized : is_sized (contents B) ≡ true
  unfolding is_sized
  sized = rw (count-is, eq-eqb (length B) (book_length n) (book-length y cs wide), le-leb n 255 few)

  bodies : (i : ℕ) → i < n → bad_body (contents B) i ≡ false
  unfolding bad_body
  bodies i h = rw (year_is, body_is i h, good i h)

  instants : (i : ℕ) → i < n → bad_instant (contents B) i ≡ false
  unfolding bad_instant falls
  instants zero h = rw (year_is, instant-is zero h, body_is zero h, eq-eqb (instant_of y (get_or cs zero [])) (instant_of y (get_or cs zero [])) refl)
  instants (suc i) h =
      let before : suc i - 1 ≡ i = omega arith in
      rw (year_is, before, instant-is (suc i) h, instant-is i (omega arith), body_is (suc i) h)
      (rw before at (s.instants (suc i) h))

  offsets : (i : ℕ) → i < n → bad_offset (contents B) i ≡ false
  unfolding bad_offset
  offsets i h =
      let f = few in
      let at = offset_at_lem y cs wide i h (omega arith) in
      rw (count-is, at, eq-eqb (body_start n i) (body_start n i) refl)

  pub accepted : view_refusal B ≡ 0
  accepted =
      let c = count-is in
      let l = book-length y cs wide in
      sym
      (sound_none (contents B)
      (record {
        span = rw year_is s.span;
        sized = sized;
        bodies = λ i h. bodies i (omega arith);
        instants = λ i h. instants i (omega arith);
        offsets = λ i h. offsets i (omega arith);
      })
      ∙ long_number B (omega arith))
