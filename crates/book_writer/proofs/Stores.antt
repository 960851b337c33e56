-- The stores of the writer: the header, an entry behind those before it, and the bodies; together they are the book. Assumes nothing.
use mathlib.Core.Path.{◌≡◌, refl, sym, ap, ◌∙◌}
use mathlib.Core.List.{List, [], ◌++◌, append_assoc, append-nil}
use Prim.Native.Nat.{ℕ, ◌+◌, ◌*◌, ◌-◌, ◌≤◌, ◌<◌}
use native.Mathlib.Numerals.{add-one}
use native.Mathlib.Omega.{arith}
use lib.Dec.{lit<}
use lib.ListN.{length, get_or, take, drop, length-append, length-drop, take-append-drop, drop_of_length-le}
use lib.Seq.{take_at, drop_at, drop-drop, length-take-le}
use borrow.Rule.Slice.PartMut.{mid_of, put_mid}
use Rattle.base.specs.Numbers.{bytes_of}
use Rattle.base.specs.Ranges.{joined}
use Rattle.base.proofs.Numbers.{length-bytes_of}
use Rattle.base.proofs.Ranges.{joined_end}
use Rattle.base.proofs.Rows.{joined_length, rows-length, rows_at, rows-joined}
use Rattle.cycle.specs.Cycle.{instant_of}
use Rattle.book.specs.Layout.{body_start, book_length, entry, book}
use Rattle.book_writer.specs.Writing.{bodies_in}
use Rattle.book_writer.specs.Sought.{row_instant}

-- two numbers, of m and of k bytes, written one behind the other at the front
both-put : (m k x y : ℕ) (l u v : List ℕ) → m + k ≤ length l → u ≡ bytes_of (length (mid_of 0 m l)) x
    → v ≡ bytes_of (length (mid_of m k (put_mid 0 m l u))) y
    → put_mid m k (put_mid 0 m l u) v ≡ bytes_of m x ++ (bytes_of k y ++ drop (m + k) l)
both-put m k x y l u v h f g =
    let first : u ≡ bytes_of m x = f ∙ ap (λ (w : ℕ). bytes_of w x) (length-take-le m l (omega arith)) in
    let wide : length u ≡ m = rw first (length-bytes_of m x) in
    let rest : drop m (u ++ drop m l) ≡ drop m l = drop_at u (drop m l) m wide in
    let second : v ≡ bytes_of k y =
    g ∙ rw rest (ap (λ (w : ℕ). bytes_of w y) (length-take-le k (drop m l) (omega (arith, length-drop m l)))) in
    rw (take_at u (drop m l) m wide, rest, drop-drop k m l, first, second)

-- ---- the header
pub header_put : (n y : ℕ) (l u v : List ℕ) → 4 ≤ length l → u ≡ bytes_of (length (mid_of 0 2 l)) n
    → v ≡ bytes_of (length (mid_of 2 2 (put_mid 0 2 l u))) y
    → put_mid 2 2 (put_mid 0 2 l u) v ≡ bytes_of 2 n ++ (bytes_of 2 y ++ drop 4 l)
header_put = both-put 2 2

-- ---- an entry
pub entry-put : (t s : ℕ) (l u v : List ℕ) → length l ≡ 12 → u ≡ bytes_of (length (mid_of 0 8 l)) t
    → v ≡ bytes_of (length (mid_of 8 4 (put_mid 0 8 l u))) s
    → put_mid 8 4 (put_mid 0 8 l u) v ≡ bytes_of 8 t ++ bytes_of 4 s
entry-put t s l u v h f g = both-put 8 4 t s l u v (omega arith) f g ∙ rw (drop_of_length-le l {i = 12} (omega arith))

-- ---- the entries, and the whole
module _ (y : ℕ) (bodies : List ℕ) (n : ℕ) (whole : length bodies ≡ 65536 * n) where
  many : length (bodies_in bodies) ≡ n
  many = rows-length 65536 bodies n (lit< tt) whole

  abbrev E : ℕ → List ℕ
  E i = joined (entry y (bodies_in bodies)) 0 i

  -- `out` holds the first i entries behind its header, and then what it held before
  abbrev pub Holds : List ℕ → ℕ → List ℕ → Type 0
  Holds old i out = out ≡ take 4 old ++ (E i ++ drop (4 + 12 * i) old)

  entry_length : (i : ℕ) → length (entry y (bodies_in bodies) i) ≡ 12
  unfolding entry
  entry_length i = refl

  E-length : (i : ℕ) → length (E i) ≡ 12 * i
  E-length i = joined_length 12 (entry y (bodies_in bodies)) 0 i (λ k a b. entry_length k)

  pub entry-is : (i t s : ℕ) → i < n → t ≡ row_instant y bodies i → s ≡ body_start n i
      → bytes_of 8 t ++ bytes_of 4 s ≡ entry y (bodies_in bodies) i
  unfolding entry row_instant
  entry-is i t s l e f =
      let same = e ∙ ap (instant_of y) (sym (rows_at 65536 bodies n (lit< tt) whole i l)) in
      let start = f ∙ ap (λ (m : ℕ). body_start m i) (sym many) in
      ap (λ (m : ℕ). bytes_of 8 m ++ bytes_of 4 s) same ∙ ap (λ (m : ℕ). bytes_of 8 (instant_of y (get_or (bodies_in bodies) i [])) ++ bytes_of 4 m) start

  pub holds-none : (old : List ℕ) → Holds old 0 old
  holds-none old = sym (take-append-drop 4 old)

  pub holds_more : (old : List ℕ) (i : ℕ) (out e : List ℕ) → length old ≡ book_length n → i < n → Holds old i out
      → e ≡ entry y (bodies_in bodies) i → Holds old (i + 1) (put_mid (4 + 12 * i) (4 + 12 * i + 12 - (4 + 12 * i)) out e)
  holds_more old i out e l lt holds is =
      let start = 4 + 12 * i in
      let rest = drop start old in
      let before = take 4 old ++ E i in
      let width : start + 12 - start ≡ 12 = omega arith in
      let lb : length before ≡ start = omega (arith, length-append (take 4 old) (E i), E-length i, length-take-le 4 old (omega arith)) in
      let parts : out ≡ before ++ rest = holds ∙ sym (append_assoc (take 4 old) (E i) rest) in
      let next : start + 12 ≡ 4 + 12 * (i + 1) = omega arith in
      let last : 0 + i ≡ i = omega arith in
      let more : E (i + 1) ≡ E i ++ entry y (bodies_in bodies) i =
      ap E (add-one i) ∙ joined_end (entry y (bodies_in bodies)) 0 i ∙ ap (λ (m : ℕ). E i ++ entry y (bodies_in bodies) m) last in
      rw (width, parts, take_at before rest start lb, drop_at before rest start lb, drop-drop 12 start old, next, is, more)
      (simp append_assoc)

  -- the header h1, the entries h2 behind it, and the bodies from there on
  pub book-put : (old h1 h2 new : List ℕ) → length old ≡ book_length n → h1 ≡ bytes_of 2 n ++ (bytes_of 2 y ++ drop 4 old) → Holds h1 n h2
      → new ≡ bodies
      → put_mid (4 + 12 * n) (length h2 - (4 + 12 * n)) h2 new ≡ book y (bodies_in bodies)
  unfolding book
  book-put old h1 h2 new l e1 e2 copied =
      let start = 4 + 12 * n in
      let header = bytes_of 2 n ++ bytes_of 2 y in
      let rest = drop start h1 in
      let four : take 4 h1 ≡ header = ap (λ (r : List ℕ). take 4 r) e1 in
      let lh1 : length h1 ≡ book_length n = ap length e1 ∙ omega (arith, length-drop 4 old) in
      let before = header ++ E n in
      let lb : length before ≡ start = omega (arith, length-append header (E n), E-length n) in
      let parts : h2 ≡ before ++ rest = e2 ∙ ap (λ (r : List ℕ). r ++ (E n ++ rest)) four ∙ sym (append_assoc header (E n) rest) in
      let lh2 : length h2 ≡ book_length n = ap length parts ∙ omega (arith, length-append before rest, length-drop start h1) in
      let width = length h2 - start in
      let head : take start h2 ≡ before = ap (λ (r : List ℕ). take start r) parts ∙ take_at before rest start lb in
      let tail : drop width (drop start h2) ≡ [] = drop_of_length-le (drop start h2) {i = width} (omega (arith, length-drop start h2)) in
      ap (λ (r : List ℕ). r ++ (new ++ drop width (drop start h2))) head
      ∙ ap (λ (r : List ℕ). before ++ (new ++ r)) tail
      ∙ ap (λ (r : List ℕ). before ++ r) (append-nil new ∙ copied ∙ rows-joined 65536 bodies n (lit< tt) whole)
      ∙ ap (λ (m : ℕ). bytes_of 2 m ++ (bytes_of 2 y ++ (joined (entry y (bodies_in bodies)) 0 m ++ joined (λ i. get_or (bodies_in bodies) i []) 0 m))) (sym many)
