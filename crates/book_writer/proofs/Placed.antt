-- What stands where in the bytes of a book of a year and a list of cycles. Assumes nothing.
use mathlib.Core.Path.{◌≡◌, refl, sym, ap, ◌∙◌}
use mathlib.Core.List.{List, [], ◌++◌, append_assoc}
use Prim.Native.Nat.{ℕ, ◌+◌, ◌*◌, ◌^◌, ◌≤◌, ◌<◌}
use native.Mathlib.Omega.{arith}
use lib.ListN.{length, get_or, take, drop, length-append, take-append-drop}
use lib.Seq.{drop_at, drop-drop, drop-append-le, ext_get_or}
use Rattle.base.specs.Numbers.{big_endian}
use Rattle.base.specs.Ranges.{joined, tabulate}
use Rattle.base.specs.Rows.{row}
use Rattle.base.proofs.Numbers.{read_back}
use Rattle.base.proofs.Ranges.{tabulate-length, tabulate-at}
use Rattle.base.proofs.Rows.{joined_length, joined-row, row-after}
use Rattle.cycle.specs.Cycle.{instant_of}
use Rattle.cycle.proofs.Instants.{instant-fits}
use Rattle.book.specs.Layout.{entry_start, body_start, book_length, entry, book, cycles_said, year_said, instant_at, offset_at, body_at, cycles_of}

module _ (y : ℕ) (cs : List (List ℕ)) (wide : (i : ℕ) → i < length cs → length (get_or cs i []) ≡ 65536) where
  abbrev n : ℕ
  n = length cs

  abbrev B : List ℕ
  B = book y cs

  -- the entries, and the bodies
  abbrev E : List ℕ
  E = joined (entry y cs) 0 n

  abbrev C : List ℕ
  C = joined (λ i. get_or cs i []) 0 n

  entry_length : (i : ℕ) → length (entry y cs i) ≡ 12
  unfolding entry
  entry_length i = refl

  E-length : length E ≡ 12 * n
  E-length = joined_length 12 (entry y cs) 0 n (λ k a b. entry_length k)

  C-wide : (k : ℕ) → 0 ≤ k → k < 0 + n → length (get_or cs k []) ≡ 65536
  C-wide k a b = wide k (omega arith)

  C-length : length C ≡ 65536 * n
  C-length = joined_length 65536 (λ i. get_or cs i []) 0 n C-wide

  pub book-length : length B ≡ book_length n
  unfolding book
  book-length = omega (arith, length-append E C, E-length, C-length)

  past_header : drop 4 B ≡ E ++ C
  unfolding book
  past_header = refl

  past_entries : drop (4 + 12 * n) B ≡ C
  past_entries =
      sym (drop-drop (12 * n) 4 B) ∙ ap (λ (r : List ℕ). drop (12 * n) r) past_header ∙ drop_at E C (12 * n) E-length

  -- ---- the header
  pub cycles_said_lem : n < 65536 → cycles_said B ≡ n
  unfolding cycles_said book
  cycles_said_lem h = read_back 2 n h

  pub year_said_lem : y < 65536 → year_said B ≡ y
  unfolding year_said book
  year_said_lem h = read_back 2 y h

  -- ---- an entry
  from-entry : (i : ℕ) → i < n → drop (entry_start i) B ≡ entry y cs i ++ (drop 12 (drop (12 * i) E) ++ C)
  unfolding row
  from-entry i h =
      let l = E-length in
      let last : 0 + i ≡ i = omega arith in
      let from = drop (12 * i) E in
      let own : take 12 from ≡ entry y cs i = joined-row 12 (entry y cs) 0 n i (λ k a b. entry_length k) h ∙ ap (entry y cs) last in
      sym (drop-drop (12 * i) 4 B)
      ∙ ap (λ (r : List ℕ). drop (12 * i) r) past_header
      ∙ drop-append-le (12 * i) E C (omega arith)
      ∙ ap (λ (r : List ℕ). r ++ C) (sym (take-append-drop 12 from) ∙ ap (λ (r : List ℕ). r ++ drop 12 from) own)
      ∙ append_assoc (entry y cs i) (drop 12 from) C

  pub instant-at : (i : ℕ) → i < n → instant_at B i ≡ instant_of y (get_or cs i [])
  unfolding instant_at entry
  instant-at i h = ap (λ (l : List ℕ). big_endian (take 8 l)) (from-entry i h) ∙ read_back 8 (instant_of y (get_or cs i [])) (instant-fits y (get_or cs i []))

  pub offset_at_lem : (i : ℕ) → i < n → body_start n i < 256 ^ 4 → offset_at B i ≡ body_start n i
  unfolding offset_at entry
  offset_at_lem i h f =
      ap (λ (l : List ℕ). big_endian (take 4 l)) (sym (drop-drop 8 (entry_start i) B))
      ∙ ap (λ (l : List ℕ). big_endian (take 4 (drop 8 l))) (from-entry i h)
      ∙ read_back 4 (body_start n i) f

  -- ---- a body
  pub body-at : (i : ℕ) → i < n → n < 65536 → body_at B i ≡ get_or cs i []
  unfolding body_at
  body-at i h few =
      let last : 0 + i ≡ i = omega arith in
      ap (λ (m : ℕ). take 65536 (drop (body_start m i) B)) (cycles_said_lem few)
      ∙ sym (row-after 65536 (4 + 12 * n) B i)
      ∙ ap (λ (r : List ℕ). row 65536 r i) past_entries
      ∙ joined-row 65536 (λ i. get_or cs i []) 0 n i C-wide h
      ∙ ap (λ (k : ℕ). get_or cs k []) last

  pub cycles_of_lem : n < 65536 → cycles_of B ≡ cs
  unfolding cycles_of
  cycles_of_lem few =
      let said = cycles_said_lem few in
      let many = tabulate-length (body_at B) 0 (cycles_said B) in
      ext_get_or [] (tabulate (body_at B) 0 (cycles_said B)) cs (many ∙ said)
      (λ i h.
      let last : 0 + i ≡ i = omega arith in
      tabulate-at (body_at B) 0 (cycles_said B) i [] (omega arith) ∙ ap (body_at B) last ∙ body-at i (omega arith) few)
