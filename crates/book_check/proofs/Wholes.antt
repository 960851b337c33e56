-- A book without a fault is the book of the year and the cycles that it says, and the writer gives it. That there is no fault is turned into facts
-- about the contents once (`sound`); by these each entry and each body is what the layout puts there, so that the bytes are equal piece by piece,
-- and the writer's own tests are passed. Assumes nothing.
use mathlib.Core.Path.{◌≡◌, refl, sym, ap, ◌∙◌}
use mathlib.Core.Bool.{Bool, true, false, cond, not, ◌||◌}
use mathlib.Core.List.{List, [], ◌++◌}
use Prim.Native.Nat.{ℕ, zero, suc, ◌+◌, ◌*◌, ◌-◌, ◌/◌, ◌%◌, ◌≤◌, ◌<◌}
use native.Mathlib.Nat.{mul-div_cancel_left}
use native.Mathlib.Omega.{arith}
use lib.Dec.{eqb, lit<}
use lib.ListN.{length, get_or, take, drop, length-drop, take-append-drop}
use lib.Seq.{drop-drop, length-take-le, take-add, drop-append-le, take-append-le}
use borrow.Author.Tests.{not-false, le-leb, eq-eqb, eqb-true}
use Rattle.base.specs.Numbers.{big_endian, bytes_of}
use Rattle.base.specs.Ranges.{tabulate, joined}
use Rattle.base.specs.Refusals.{refusal}
use Rattle.base.specs.Rows.{row, rows}
use Rattle.base.proofs.Numbers.{Bytes, written_back, take-bytes, drop-bytes}
use Rattle.base.proofs.Ranges.{tabulate-length, tabulate-at}
use Rattle.base.proofs.Lines.{given_is}
use Rattle.base.proofs.Rows.{of_rows, row-after}
use Rattle.cycle.specs.Cycle.{instant_of}
use Rattle.book.specs.Layout.{body_start, book_length, entry, book, bytes_at, cycles_said, year_said, entry_start, instant_at, offset_at, body_at, cycles_of}
use Rattle.book.specs.Faults.{contents, contents_of, is_sized, bad_body, falls, bad_instant, bad_offset, view_refusal}
use Rattle.book_writer.specs.Writing.{bodies_in, write_lines, write_refusal, write_after}
use Rattle.book.proofs.Ways.{number, Sound, sound_none, none-sound}
use Rattle.book.proofs.Said.{body-row}
use Rattle.book.proofs.Holding.{sound, size}
use Rattle.book_writer.proofs.Accepted.{accepted}
use Rattle.book_check.specs.Checking.{Given}

-- ---- lists

-- row k of the first m elements is that of all of them
row_of_take : (w m : ℕ) (l : List ℕ) (k : ℕ) → w * k + w ≤ m → m ≤ length l → row w (take m l) k ≡ row w l k
unfolding row
row_of_take w m l k h j =
    let front = take m l in
    let long : length front ≡ m = length-take-le m l j in
    let rest : w ≤ length (drop (w * k) front) = omega (arith, length-drop (w * k) front) in
    sym
    (ap (λ (r : List ℕ). take w (drop (w * k) r)) (sym (take-append-drop m l))
    ∙ ap (λ (r : List ℕ). take w r) (drop-append-le (w * k) front (drop m l) (omega arith))
    ∙ take-append-le w (drop (w * k) front) (drop m l) rest)

tabulate-same : {A : Type 0} (f g : ℕ → A) (i n : ℕ) → ((k : ℕ) → i ≤ k → k < i + n → f k ≡ g k) → tabulate f i n ≡ tabulate g i n
tabulate-same f g i zero h = refl
tabulate-same f g i (suc n) h = rw (h i (omega arith) (omega arith), tabulate-same f g (suc i) n (λ k a b. h k (omega arith) (omega arith)))

-- so many bytes are those of the number that they are
number_at : (b : List ℕ) → Bytes b → (start width : ℕ) → start + width ≤ length b
    → bytes_at start width b ≡ bytes_of width (big_endian (bytes_at start width b))
number_at b bytes start width h =
    let part = bytes_at start width b in
    let long : length part ≡ width = length-take-le width (drop start b) (omega (arith, length-drop start b)) in
    sym (written_back part (take-bytes width (drop start b) (drop-bytes start b bytes))) ∙ ap (λ (k : ℕ). bytes_of k (big_endian part)) long

-- ---- a book without a fault
module _ (b : List ℕ) (none : view_refusal b ≡ 0) where
  abbrev n : ℕ
  n = cycles_said b

  abbrev y : ℕ
  y = year_said b

  abbrev cs : List (List ℕ)
  cs = cycles_of b

  pub count : length cs ≡ n
  unfolding cycles_of
  count = tabulate-length (body_at b) 0 n

  pub cycle_is : (i : ℕ) → i < n → get_or cs i [] ≡ body_at b i
  unfolding cycles_of
  cycle_is i h = let z : 0 + i ≡ i = omega arith in tabulate-at (body_at b) 0 n i [] h ∙ ap (body_at b) z

  offset_is : (i : ℕ) → i < n → offset_at b i ≡ body_start n i
  unfolding bad_offset
  offset_is i h = eqb-true (offset_at b i) (body_start n i) (not-false (eqb (offset_at b i) (body_start n i)) ((sound b none).offsets i h))

  pub instant-is : (i : ℕ) → i < n → instant_at b i ≡ instant_of y (body_at b i)
  unfolding bad_instant
  instant-is i h = go (eqb (instant_at b i) (instant_of y (body_at b i))) refl (falls (contents b) i) ((sound b none).instants i h)
    where
      go : (p : Bool) → eqb (instant_at b i) (instant_of y (body_at b i)) ≡ p → (q : Bool) → (not p || q) ≡ false
          → instant_at b i ≡ instant_of y (body_at b i)
      go true e q f = eqb-true (instant_at b i) (instant_of y (body_at b i)) e
      go false e q f = let z : ◌≡◌ {A = ℕ} 0 1 = cc in absurd (omega arith)

  -- ---- the same faults are none of the year and the cycles
  small : is_sized (contents_of y cs) ≡ true
  unfolding is_sized
  small = rw count (le-leb n 255 (size b none).few)

  whole : (i : ℕ) → i < n → bad_body (contents_of y cs) i ≡ false
  unfolding bad_body
  whole i h = rw (cycle_is i h) ((sound b none).bodies i h)

  rises : (i : ℕ) → i < n → bad_instant (contents_of y cs) i ≡ false
  unfolding bad_instant falls
  rises i h =
      rw (cycle_is i h, cycle_is (i - 1) (omega arith))
      (rw (instant-is i h, instant-is (i - 1) (omega arith)) at ((sound b none).instants i h))

  starts : (i : ℕ) → bad_offset (contents_of y cs) i ≡ false
  unfolding bad_offset
  starts i = rw (eq-eqb (body_start (length cs) i) (body_start (length cs) i) refl)

  pub writable : Sound (contents_of y cs)
  writable =
      let c = count in
      record {
        span = (sound b none).span;
        sized = small;
        bodies = λ i h. whole i (omega arith);
        instants = λ i h. rises i (omega arith);
        offsets = λ i h. starts i;
      }

  -- ---- its bytes
  module _ (bytes : Bytes b) where
    entry-is : (i : ℕ) → i < n → bytes_at (entry_start i) 12 b ≡ entry y cs i
    unfolding entry instant_at offset_at
    entry-is i h =
        let s = size b none in
        let start = entry_start i in
        let instant : bytes_at start 8 b ≡ bytes_of 8 (instant_of y (get_or cs i [])) =
        number_at b bytes start 8 (omega arith) ∙ ap (bytes_of 8) (instant-is i h ∙ ap (instant_of y) (sym (cycle_is i h))) in
        let offset : bytes_at (start + 8) 4 b ≡ bytes_of 4 (body_start (length cs) i) =
        number_at b bytes (start + 8) 4 (omega arith) ∙ ap (bytes_of 4) (offset_is i h ∙ ap (λ (m : ℕ). body_start m i) (sym count)) in
        take-add 8 4 (drop start b)
        ∙ ap (λ (r : List ℕ). bytes_at start 8 b ++ take 4 r) (drop-drop 8 start b)
        ∙ rw (instant, offset)

    -- what follows the header, and of that the entries and the bodies
    abbrev after : List ℕ
    after = drop 4 b

    after-length : length after ≡ 65548 * n
    after-length = let s = size b none in omega (arith, length-drop 4 b)

    entries_are : take (12 * n) after ≡ joined (entry y cs) 0 n
    entries_are =
        let l = after-length in
        of_rows 12 (entry y cs) 0 n (take (12 * n) after) (length-take-le (12 * n) after (omega arith))
        (λ k h.
        let z : k ≡ 0 + k = omega arith in
        row_of_take 12 (12 * n) after k (omega arith) (omega arith) ∙ row-after 12 4 b k ∙ entry-is k h ∙ ap (entry y cs) z)

    bodies-are : drop (12 * n) after ≡ joined (λ i. get_or cs i []) 0 n
    bodies-are =
        let l = after-length in
        let past : drop (12 * n) after ≡ drop (4 + 12 * n) b = drop-drop (12 * n) 4 b in
        of_rows 65536 (λ i. get_or cs i []) 0 n (drop (12 * n) after) (omega (arith, length-drop (12 * n) after))
        (λ k h.
        let z : k ≡ 0 + k = omega arith in
        ap (λ (r : List ℕ). row 65536 r k) past ∙ body-row b n k refl ∙ sym (cycle_is k h) ∙ ap (λ (m : ℕ). get_or cs m []) z)

    pub is_book : b ≡ book y cs
    unfolding book cycles_said year_said
    is_book =
        let s = size b none in
        let many : take 2 b ≡ bytes_of 2 n = number_at b bytes 0 2 (omega arith) in
        let year : take 2 (drop 2 b) ≡ bytes_of 2 y = number_at b bytes 2 2 (omega arith) in
        let rest : after ≡ joined (entry y cs) 0 n ++ joined (λ i. get_or cs i []) 0 n =
        sym (take-append-drop (12 * n) after) ∙ rw (entries_are, bodies-are) in
        let second : drop 2 b ≡ bytes_of 2 y ++ (joined (entry y cs) 0 n ++ joined (λ i. get_or cs i []) 0 n) =
        sym (take-append-drop 2 (drop 2 b))
        ∙ ap (λ (r : List ℕ). r ++ drop 2 (drop 2 b)) year
        ∙ ap (λ (r : List ℕ). bytes_of 2 y ++ r) (drop-drop 2 2 b ∙ rest) in
        sym (take-append-drop 2 b)
        ∙ ap (λ (r : List ℕ). r ++ drop 2 b) many
        ∙ ap (λ (r : List ℕ). bytes_of 2 n ++ r) second
        ∙ ap (λ (m : ℕ). bytes_of 2 m ++ (bytes_of 2 y ++ (joined (entry y cs) 0 m ++ joined (λ i. get_or cs i []) 0 m))) (sym count)

    -- ---- the writer gives it, of the year that it says and of its bodies
    abbrev bodies : List ℕ
    bodies = drop (4 + 12 * n) b

    bodies-length : length bodies ≡ 65536 * n
    bodies-length = let s = size b none in omega (arith, length-drop (4 + 12 * n) b)

    cycles_in : bodies_in bodies ≡ cs
    unfolding rows cycles_of
    cycles_in =
        let many : length bodies / 65536 ≡ n = ap (λ (m : ℕ). m / 65536) bodies-length ∙ mul-div_cancel_left n (lit< tt) in
        ap (λ (m : ℕ). tabulate (row 65536 bodies) 0 m) many
        ∙ tabulate-same (row 65536 bodies) (body_at b) 0 n (λ k a h. body-row b n k refl)

    pub is_given : Given b
    unfolding write_refusal write_after
    is_given =
        let even : length bodies % 65536 ≡ 0 = let l = bodies-length in omega arith in
        let fits : length b ≡ book_length (length cs) = (size b none).long ∙ ap book_length (sym count) in
        let clear : number (contents_of y cs) ≡ 0 = sym (sound_none (contents_of y cs) writable) in
        let none-holds : refusal (write_lines y bodies b) ≡ 0 =
        rw (even, cycles_in, eq-eqb (length b) (book_length (length cs)) fits) clear in
        record {
          year = y;
          bodies = bodies;
          out = b;
          unrefused = none-holds;
          is = is_book ∙ sym (ap (book y) cycles_in) ∙ sym (given_is b (book y (bodies_in bodies)) (write_lines y bodies b) none-holds);
        }

-- ---- what the writer gives has no fault
pub given-clear : (b : List ℕ) → Given b → view_refusal b ≡ 0
unfolding write_refusal write_after
given-clear b g =
    let cycles = bodies_in g.bodies in
    let lines = write_lines g.year g.bodies g.out in
    let whole = eqb (length g.bodies % 65536) 0 in
    let none = clear whole (eqb (length g.out) (book_length (length cycles))) g.unrefused in
    ap view_refusal (g.is ∙ given_is g.out (book g.year cycles) lines g.unrefused)
    ∙ accepted g.year cycles (none-sound (contents_of g.year cycles) none)
  where
    clear : (p q : Bool) → ◌≡◌ {A = ℕ} (cond (not p) 2 (cond (not q) 2 (number (contents_of g.year (bodies_in g.bodies))))) 0
        → number (contents_of g.year (bodies_in g.bodies)) ≡ 0
    clear true true z = z
    clear true false z = absurd (omega arith)
    clear false q z = absurd (omega arith)
