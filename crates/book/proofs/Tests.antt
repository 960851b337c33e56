-- The tests of the code, by what they found: of a body, an instant, an offset. Assumes nothing.
use mathlib.Core.Path.{◌≡◌, ap, ◌∙◌}
use mathlib.Core.Bool.{Bool, true, false, not}
use mathlib.Core.List.{List}
use Prim.Native.Nat.{ℕ, ◌+◌, ◌*◌, ◌-◌, ◌≤◌, ◌<◌}
use lib.Dec.{eqb, leb}
use lib.ListN.{take, drop}
use borrow.Author.Tests.{eq-eqb, ne_eqb, lt-ltb, le-ltb}
use Rattle.base.proofs.Rows.{row_is}
use Rattle.cycle.specs.Cycle.{instant_of, is_cycle}
use Rattle.book.specs.Layout.{body_start, cycles_said, year_said, instant_at, offset_at, body_at}
use Rattle.book.specs.Faults.{contents, falls, bad_instant, bad_offset}
use Rattle.book.specs.Sought.{bad_row}
use Rattle.book.proofs.Said.{body-part}

-- ---- bodies end to end
module _ (y : ℕ) (bodies : List ℕ) (i : ℕ) where
  abbrev part : List ℕ
  part = take (65536 * i + 65536 - 65536 * i) (drop (65536 * i) bodies)

  pub row-tested : (r : Bool) → r ≡ is_cycle y part → not r ≡ bad_row y bodies i
  unfolding bad_row
  row-tested r e = ap not e ∙ ap (λ (l : List ℕ). not (is_cycle y l)) (row_is 65536 bodies i)

-- ---- the entries of a book
module _ (b : List ℕ) (i : ℕ) where
  -- the instant that is stored, and the body's
  module _ (y n t u : ℕ) (year : y ≡ year_said b) (count : n ≡ cycles_said b) (stored : t ≡ instant_at b i)
      (own : u ≡ instant_of y (take (body_start n i + 65536 - body_start n i) (drop (body_start n i) b))) where
    own-instant : u ≡ instant_of (year_said b) (body_at b i)
    own-instant = own ∙ ap (instant_of y) (body-part b n i count) ∙ ap (λ (z : ℕ). instant_of z (body_at b i)) year

    pub other-instant : (t ≡ u → ⊥) → true ≡ bad_instant (contents b) i
    unfolding bad_instant
    other-instant h = rw (← stored, ← own-instant, ne_eqb t u h)

    pub later-instant : (v : ℕ) → t ≡ u → 0 < i → v ≡ instant_at b (i - 1) → leb t v ≡ bad_instant (contents b) i
    unfolding bad_instant falls
    later-instant v h l f = rw (← stored, ← own-instant, ← f, eq-eqb t u h, lt-ltb 0 i l)

    pub first-instant : t ≡ u → i ≤ 0 → false ≡ bad_instant (contents b) i
    unfolding bad_instant falls
    first-instant h l = rw (← stored, ← own-instant, eq-eqb t u h, le-ltb 0 i l)

  -- the offset that is stored, and where the body starts
  module _ (n x s : ℕ) (count : n ≡ cycles_said b) (stored : x ≡ offset_at b i) (start : s ≡ body_start n i) where
    start_is : s ≡ body_start (cycles_said b) i
    start_is = start ∙ ap (λ (m : ℕ). body_start m i) count

    pub offset-tested : not (eqb x s) ≡ bad_offset (contents b) i
    unfolding bad_offset
    offset-tested = rw (stored, start_is)
