-- A gathered column has 128 places, and a count that is read from it fits. Assumes nothing.
use mathlib.Core.Path.{◌≡◌, refl, sym, ap, ◌∙◌, subst}
use mathlib.Core.Bool.{Bool, true, false}
use mathlib.Core.List.{List, []}
use Prim.Native.Nat.{ℕ, zero, suc, ◌+◌, ◌*◌, ◌-◌, ◌^◌, ◌≤◌, ◌<◌, min}
use native.Mathlib.Nat.{lt_of_lt_of_le, pow-le-pow_right}
use native.Mathlib.Omega.{arith}
use lib.Dec.{ltb, leb, lit<}
use lib.ListN.{length, get_or, take, drop, replicate, length-take, length-drop, drop_of_length-le, get_or-eq_default}
use lib.Seq.{take_all, get_or-take, get_or-drop}
use borrow.Author.Tests.{ltb-true, ltb-false, leb-true, leb-false, le-leb, lt-leb, ne_eqb}
use Rattle.base.specs.Numbers.{NumberOf}
use Rattle.base.proofs.Numbers.{Bytes, big_endian-below}
use Rattle.cycle.proofs.Frames.{gathers}
use Rattle.base.specs.Rows.{row}
use Rattle.base.proofs.Rows.{row_is, row-length}
use Rattle.word72_column.specs.Columns.{values, word72, gathered, gather_after}
use Rattle.cycle_records.specs.Columns.{column_of, count_at}
use Rattle.cycle_records.proofs.Known.{Cycle}
use Rattle.cycle_columns.specs.Values.{column_in}

values_length : (f : ℕ → ℕ) (i n : ℕ) → length (values f i n) ≡ n
values_length f i zero = refl
values_length f i (suc n) = ap suc (values_length f (suc i) n)

pub column-length : (body : List ℕ) (k : ℕ) → length (column_of body k) ≡ 128
unfolding column_of gathered
column-length body k = values_length (word72 (row 16384 body k)) 0 128

-- what the code gathers into a column of 128 places
pub column-is : (body : List ℕ) (k : ℕ) (old new : List ℕ) → length body ≡ 65536 → k ≤ 3 → length old ≡ 128
    → new ≡ gather_after (take (k * 16384 + 16384 - k * 16384) (drop (k * 16384) body)) old → new ≡ column_of body k
unfolding column_of
column-is body k old new long h wide e =
    let swapped : k * 16384 ≡ 16384 * k = omega arith in
    let part : take (k * 16384 + 16384 - k * 16384) (drop (k * 16384) body) ≡ row 16384 body k = rw swapped (row_is 16384 body k) in
    let whole : length (row 16384 body k) ≡ 16384 = row-length 16384 body k (omega arith) in
    e ∙ rw part (gathers (row 16384 body k) old whole wide)

-- zeros for other than a cycle, and for a frame that it has not
module _ (body : List ℕ) (k : ℕ) where
  pub column-there : length body ≡ 65536 → k ≤ 3 → column_of body k ≡ column_in body k
  unfolding column_in
  column-there long h = rw (long, le-leb k 3 h)

  pub no_cycle : (length body ≡ 65536 → ⊥) → replicate 128 0 ≡ column_in body k
  unfolding column_in
  no_cycle short = rw (ne_eqb (length body) 65536 short)

  pub no_frame : length body ≡ 65536 → 3 < k → replicate 128 0 ≡ column_in body k
  unfolding column_in
  no_frame long h = rw (long, lt-leb k 3 h)

  -- so it is the frame's column where the cycle is not refused
  pub column-given : {y : ℕ} {c : List ℕ} → Cycle body y k → c ≡ column_in body k → c ≡ column_of body k
  column-given known e = e ∙ sym (column-there known.sized known.frame)

-- ---- counts
module _ (width : ℕ) (column : List ℕ) (place : ℕ) where
  abbrev part : List ℕ
  part = take (place + width - place) (drop place column)

  part-short : length part ≤ width
  part-short = simp (length-take, length-drop) (omega arith)

  -- what the code reads: as much of it as there is
  read-part : (start n : ℕ) → start ≡ min place (length column) → n ≡ min width (length column - start)
      → take (start + n - start) (drop start column) ≡ part
  read-part start n at up = go (leb place (length column)) refl
    where
      past : (m i : ℕ) → length column ≤ i → take m (drop i column) ≡ []
      past m i h = rw (drop_of_length-le column {i = i} h) (take_all m [] (omega arith))

      all : (m : ℕ) → length column ≤ place + m → take m (drop place column) ≡ drop place column
      all m h = take_all m (drop place column) (simp length-drop (omega arith))

      within : (b : Bool) → leb width (length column - place) ≡ b → start ≡ place → take (start + n - start) (drop place column) ≡ part
      within true e same =
          let whole : start + n - start ≡ place + width - place = omega (arith, leb-true width (length column - place) e) in
          rw whole
      within false e same =
          let short = leb-false width (length column - place) e in
          all (start + n - start) (omega (arith, short)) ∙ sym (all (place + width - place) (omega (arith, short)))

      go : (b : Bool) → leb place (length column) ≡ b → take (start + n - start) (drop start column) ≡ part
      go true e =
          let same : start ≡ place = omega (arith, leb-true place (length column) e) in
          subst (λ (i : ℕ). take (start + n - start) (drop i column) ≡ part) (sym same) (within (leb width (length column - place)) refl same)
      go false e =
          let beyond = leb-false place (length column) e in
          past (start + n - start) start (omega (arith, beyond)) ∙ sym (past (place + width - place) place (omega (arith, beyond)))

  pub count-is : (start n r : ℕ) → width ≤ 8 → start ≡ min place (length column) → n ≡ min width (length column - start)
      → NumberOf (take (start + n - start) (drop start column)) r → r ≡ count_at width column place
  unfolding count_at
  count-is start n r w at up read =
      let whole : NumberOf part r = subst (λ (l : List ℕ). NumberOf l r) (read-part start n at up) read in
      whole.whole (omega (arith, part-short))

  pub count-below : Bytes column → count_at width column place < 256 ^ width
  unfolding count_at
  count-below b = lt_of_lt_of_le (big_endian-below part part_bytes) (pow-le-pow_right (lit< tt) part-short)
    where
      part_bytes : (k : ℕ) → get_or part k 0 < 256
      part_bytes k = go (ltb k (place + width - place)) refl
        where
          go : (c : Bool) → ltb k (place + width - place) ≡ c → get_or part k 0 < 256
          go true e = rw (get_or-take (place + width - place) (drop place column) k 0 (ltb-true _ _ e), get_or-drop) (b (place + k))
          go false e =
              let past : length part ≤ k = omega (arith, part-short, ltb-false k (place + width - place) e) in
              rw (get_or-eq_default part 0 past) (omega arith)
