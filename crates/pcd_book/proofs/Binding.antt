-- What is gathered is not refused as a book: each line of the refusal table is false. Assumes nothing.
use mathlib.Core.Path.{◌≡◌, refl, ap, ◌∙◌}
use mathlib.Core.Bool.{Bool, true, false, not}
use mathlib.Core.List.{List, []}
use Prim.Native.Nat.{ℕ, ◌-◌, ◌*◌, ◌/◌, ◌%◌, ◌≤◌, ◌<◌}
use native.Mathlib.Nat.{mul-mod_right, mul-div_cancel_left}
use native.Mathlib.Omega.{arith}
use lib.Dec.{ltb}
use lib.ListN.{length, take, drop, get_or}
use lib.Seq.{take-take, length-take-le}
use borrow.Author.Tests.{ltb-true, le-ltb, lt-leb, le-leb, eq-eqb}
use borrow.Rule.Slice.PartMut.{mid_of, mid_len}
use Rattle.base.specs.Ranges.{lowest}
use Rattle.base.specs.Rows.{row}
use Rattle.base.proofs.Ranges.{none-holds}
use Rattle.base.proofs.Rows.{rows-length, rows_at}
use Rattle.book.specs.Faults.{Contents, contents_of, bad_body, bad_instant, bad_offset, falls, is_sized}
use Rattle.book.specs.Layout.{book_length}
use Rattle.book.proofs.Answered.{of_none}
use Rattle.book_writer.specs.Writing.{bodies_in, write_lines, write_refusal}
use Rattle.time_code.specs.Calendar.{in_span}
use Rattle.book_shelf.specs.declared.Shelf.{Shelf}
use Rattle.pcd_book.specs.Shelves.{Kept, GatherPromise, Bound, Writable, room_for}
use Rattle.pcd_book.proofs.Keeping.{same_row}

module _ (y : ℕ) (bodies : List ℕ) (b : Bound y bodies) where
  abbrev said : Contents
  said = contents_of y (bodies_in bodies)

  many : length (bodies_in bodies) ≡ b.count
  many = rows-length 65536 bodies b.count (omega arith) b.length-is

  at : (i : ℕ) → i < b.count → get_or (bodies_in bodies) i [] ≡ row 65536 bodies i
  at i h = rows_at 65536 bodies b.count (omega arith) b.length-is i h

  sized : is_sized said ≡ true
  unfolding is_sized
  sized = rw many (le-leb b.count 255 b.few)

  good-body : (i : ℕ) → i < b.count → bad_body said i ≡ false
  unfolding bad_body
  good-body i h = rw (at i h, b.each_cycle i h)

  risen : (i : ℕ) (z : Bool) → ltb 0 i ≡ z → i < b.count → falls said i ≡ false
  unfolding falls
  risen i false e h = rw e
  risen i true e h =
      let p = ltb-true 0 i e in
      rw (e, at i h, at (i - 1) (omega arith)) (lt-leb _ _ (b.rise i p h))

  good-instant : (i : ℕ) → i < b.count → bad_instant said i ≡ false
  unfolding bad_instant
  good-instant i h = rw (eq-eqb (said.instant i) (said.instant i) refl, risen i (ltb 0 i) refl h)

  good-offset : (i : ℕ) → bad_offset said i ≡ false
  unfolding bad_offset
  good-offset i = rw (eq-eqb (said.offset i) (said.offset i) refl)

  -- none of the entries has a fault
  clear : (p : ℕ → Bool) → ((i : ℕ) → i < b.count → p i ≡ false) → ltb (lowest p 0 said.count) said.count ≡ false
  clear p h = le-ltb _ _ (none-holds p said.count (λ i l. h i (omega (arith, many))))

  pub never_refused : (out : List ℕ) → length out ≡ book_length b.count → write_refusal y bodies out ≡ 0
  unfolding write_refusal
  never_refused out room =
      let whole : length bodies % 65536 ≡ 0 = ap (λ (n : ℕ). n % 65536) b.length-is ∙ mul-mod_right 65536 b.count in
      let fits : length out ≡ book_length (length (bodies_in bodies)) = rw many room in
      let lines = write_lines y bodies out in
      of_none lines (
        ap not (eq-eqb _ 0 whole),
        (
          ap not (eq-eqb _ _ fits),
          (
            ap not b.year_in,
            (
              ap not sized,
              (clear (bad_body said) good-body, (clear (bad_instant said) good-instant, (clear (bad_offset said) (λ i l. good-offset i), tt))),
            ),
          ),
        ),
      )

-- the front of a room, as far as it is gathered
pub gathered : (y : ℕ) (room : List ℕ) (s : Shelf) → in_span y ≡ true → Kept y room s → s.cycles ≤ 255 → 65536 * s.cycles ≤ length room
    → Bound y (take (65536 * s.cycles) room)
gathered y room s span kept few fits =
    let n = 65536 * s.cycles in
    let long : length (take n room) ≡ n = length-take-le n room fits in
    let same : (i : ℕ) → i < s.cycles → row 65536 (take n room) i ≡ row 65536 room i = λ i h.
    same_row s.cycles i (take n room) room h (omega arith) fits (take-take n n room (omega arith)) in
    record {
      year_in = span;
      count = s.cycles;
      few = few;
      length-is = long;
      each_cycle = λ i h. rw (same i h) (kept.each_cycle i h);
      rise = λ i p h. rw (same (i - 1) (omega arith), same i h) (kept.rise i p h);
    }

pub bound_front : (y : ℕ) (old new : List ℕ) (s : Shelf) → in_span y ≡ true → GatherPromise y old new s → length new ≡ length old
    → Bound y (take (65536 * s.cycles - 0) (drop 0 new))
bound_front y old new s span g same =
    let f = g.fits in
    let n : 65536 * s.cycles - 0 ≡ 65536 * s.cycles = omega arith in
    rw n (gathered y new s span g.kept (omega (arith, f.one_more, f.roomy.most)) (omega (arith, f.one_more)))

-- a room that is long enough, as far as their book goes
pub writable : (y : ℕ) (bodies room : List ℕ) (b : Bound y bodies) (len : ℕ) → len ≡ room_for (length bodies / 65536) → len ≤ length room
    → Writable y bodies (mid_of 0 (len - 0) room)
writable y bodies room b len e h =
    let many : length bodies / 65536 ≡ b.count = ap (λ (m : ℕ). m / 65536) b.length-is ∙ mul-div_cancel_left b.count (omega arith) in
    let long : len ≡ book_length b.count = e ∙ rw (many, le-ltb 255 b.count b.few) in
    record { bound = b; room_is = mid_len 0 len room h ∙ omega (arith, long) }
