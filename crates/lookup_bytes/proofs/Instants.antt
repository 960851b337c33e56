-- Instants as bytes: how many there are, that instant k is the number of the eight bytes from 8 k on, and the promise of `find` on each of its
-- ways out. Assumes nothing.
use mathlib.Core.Path.{◌≡◌, refl, sym, ap, ◌∙◌}
use mathlib.Core.List.{List, [], ◌∷◌, map}
use Rattle.std.proofs.Common.{Result, Err}
use Prim.Native.Nat.{ℕ, zero, suc, ◌+◌, ◌*◌, ◌/◌, ◌%◌, ◌^◌, ◌≤◌, ◌<◌}
use native.Mathlib.Omega.{arith}
use lib.ListN.{length, get_or}
use lib.Seq.{get_or-take, get_or-drop}
use borrow.Author.Tests.{ne_eqb}
use Rattle.base.specs.Numbers.{big_endian}
use Rattle.base.specs.declared.refusal.Refusal.{Refusal}
use Rattle.base.specs.declared.refusal.Refusal.TheVariants.{WrongLength}
use Rattle.base.specs.Rows.{row, rows}
use Rattle.base.proofs.Lists.{spelled}
use Rattle.base.proofs.Ranges.{tabulate-length, tabulate-at}
use Rattle.base.proofs.Rows.{row-length}
use Rattle.lookup.specs.declared.Found.{Found}
use Rattle.lookup.specs.Promise.{FindPromise as FoundAmong}
use Rattle.lookup.proofs.Promises.{answerable}
use Rattle.lookup_bytes.specs.Promise.{instants_in, FourRead, FindPromise}

-- ---- the number of each row
map-length : (ls : List (List ℕ)) → length (map big_endian ls) ≡ length ls
map-length [] = refl
map-length (l ∷ ls) = ap suc (map-length ls)

map_at : (ls : List (List ℕ)) (k : ℕ) → get_or (map big_endian ls) k 0 ≡ big_endian (get_or ls k [])
unfolding big_endian
map_at [] k = refl
map_at (l ∷ ls) zero = refl
map_at (l ∷ ls) (suc k) = map_at ls k

-- eight bytes as one sum
eight : (w : List ℕ) → length w ≡ 8
    → big_endian w
    ≡ get_or w 0 0 * 2 ^ 56 + get_or w 1 0 * 2 ^ 48 + get_or w 2 0 * 2 ^ 40 + get_or w 3 0 * 2 ^ 32
    + get_or w 4 0 * 2 ^ 24 + get_or w 5 0 * 2 ^ 16 + get_or w 6 0 * 2 ^ 8 + get_or w 7 0
unfolding big_endian
eight w h = ap big_endian (spelled w 8 h) ∙ omega arith

module _ (bytes : List ℕ) where
  -- as many rows as there are eights; a rest counts as none
  pub count_is : length bytes / 8 ≡ length (instants_in bytes)
  unfolding instants_in rows
  count_is = sym (map-length (rows 8 bytes) ∙ tabulate-length (row 8 bytes) 0 (length bytes / 8))

  module _ (k : ℕ) (inside : 8 * k + 8 ≤ length bytes) where
    byte_of : (i j : ℕ) → i < 8 → j ≡ 8 * k + i → get_or (row 8 bytes k) i 0 ≡ get_or bytes j 0
    unfolding row
    byte_of i j h e = rw (e, get_or-take, get_or-drop)

    instant-is : get_or (instants_in bytes) k 0 ≡ big_endian (row 8 bytes k)
    unfolding instants_in rows
    instant-is =
        let z : 0 + k ≡ k = omega arith in
        map_at (rows 8 bytes) k ∙ ap big_endian (tabulate-at (row 8 bytes) 0 (length bytes / 8) k [] (omega arith) ∙ ap (row 8 bytes) z)

    -- instant k is made of the four bytes from 8 k on and of the four after them
    pub instant-read : (upper lower : ℕ) → FourRead bytes (8 * k) upper → FourRead bytes (8 * k + 4) lower
        → lower + 2 ^ 32 * upper ≡ get_or (instants_in bytes) k 0
    instant-read upper lower u l =
        let b0 = byte_of 0 (8 * k) (omega arith) (omega arith) in
        let b1 = byte_of 1 (8 * k + 1) (omega arith) refl in
        let b2 = byte_of 2 (8 * k + 2) (omega arith) refl in
        let b3 = byte_of 3 (8 * k + 3) (omega arith) refl in
        let b4 = byte_of 4 (8 * k + 4) (omega arith) refl in
        let b5 = byte_of 5 (8 * k + 4 + 1) (omega arith) (omega arith) in
        let b6 = byte_of 6 (8 * k + 4 + 2) (omega arith) (omega arith) in
        let b7 = byte_of 7 (8 * k + 4 + 3) (omega arith) (omega arith) in
        omega (arith, instant-is, eight (row 8 bytes k) (row-length 8 bytes k inside), u.value, l.value)

-- ---- the promise on each way out
module _ (bytes : List ℕ) (wanted : ℕ) where
  pub refused-2 : (length bytes % 8 ≡ 0 → ⊥) → FindPromise bytes wanted (Err WrongLength)
  refused-2 h =
      let a = answerable (instants_in bytes) wanted in
      record { found = a.found; promised = a.promised; answer = rw (ne_eqb (length bytes % 8) 0 h) }

  -- bytes of the right length have the answer of `lookup::find`
  pub as_numbers : (r : Result Found Refusal) → length bytes % 8 ≡ 0 → FoundAmong (instants_in bytes) wanted r → FindPromise bytes wanted r
  as_numbers r whole p = record { found = r; promised = p; answer = rw whole }
