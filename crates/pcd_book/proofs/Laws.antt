-- What a cycle does to what is gathered. Assumes nothing.
use mathlib.Core.Path.{◌≡◌, refl, sym, ap, ◌∙◌}
use mathlib.Core.Bool.{true, false}
use mathlib.Core.List.{List}
use Prim.Native.Nat.{ℕ, ◌+◌, ◌*◌, ◌-◌, ◌≤◌, ◌<◌}
use native.Mathlib.Omega.{arith}
use lib.ListN.{length, take, drop}
use borrow.Rule.Slice.PartMut.{mid_of, mid_len, same_len_mid}
use Rattle.base.proofs.Rows.{row_is}
use Rattle.cycle.specs.Cycle.{is_cycle, instant_of}
use Rattle.book_shelf.specs.declared.Shelf.{Shelf}
use Rattle.book_shelf.specs.Shelves.{EndPromise, rises_above, left_out, added_to}
use Rattle.pcd_book.specs.Shelves.{Fits, Kept, TurnPromise}
use Rattle.pcd_book.proofs.Keeping.{after, after_front, after-row, kept-still, kept_more}

clash : {A : Type 0} → true ≡ false → A
clash e = let z : ◌≡◌ {A = ℕ} 0 1 = cc in absurd (omega arith)

pub fits-as : {m n : ℕ} {s : Shelf} → m ≡ n → Fits n s → Fits m s
fits-as e f = rw e f

-- nothing is gathered yet
pub none_kept : (y : ℕ) (room : List ℕ) (s : Shelf) → s.cycles ≡ 0 → Kept y room s
none_kept y room s e =
    record { each_cycle = λ i h. absurd (omega arith); rise = λ i p h. absurd (omega arith); last_is = λ p. absurd (omega arith) }

-- a turn that puts another part behind what is gathered
module _ (y : ℕ) (old part : List ℕ) (s r : Shelf) (f : Fits (length old) s)
    (len : length part ≡ length (mid_of (65536 * s.cycles) (65536 * s.cycles + 65536 - 65536 * s.cycles) old))
  where
    room : 65536 * s.cycles + 65536 ≤ length old
    room = omega (arith, f.one_more)

    stays_is : take (65536 * s.cycles) (after s.cycles old part) ≡ take (65536 * s.cycles) old
    stays_is = after_front s.cycles old part room

    size_is : length (after s.cycles old part) ≡ length old
    size_is = same_len_mid (65536 * s.cycles) (65536 * s.cycles + 65536 - 65536 * s.cycles) old part len

    still : (t : Shelf) → t.cycles ≡ s.cycles → t.last ≡ s.last → Kept y old s → Kept y (after s.cycles old part) t
    still t c l k = kept-still (after s.cycles old part) k (omega (arith, room)) size_is stays_is c l

    pub ended_turn : EndPromise s r → TurnPromise y old (after s.cycles old part) s r
    ended_turn e =
        record {
          fits = record { roomy = f.roomy; one_more = omega (arith, f.one_more, e.same) };
          further = λ m. clash (sym m ∙ e.over);
          stays = stays_is;
          kept = still r e.same e.last_same;
        }

    pub left-turn : {k : ℕ} → r ≡ left_out s k → s.frames < k → TurnPromise y old (after s.cycles old part) s r
    left-turn {k} e l =
        rw e
        (record {
          fits = record { roomy = f.roomy; one_more = f.one_more };
          further = λ m. l;
          stays = stays_is;
          kept = still (left_out s k) refl refl;
        })

    -- the part is a cycle of the year, later than the last that is gathered
    module _ (t : ℕ) (is_cycle_fact : is_cycle y part ≡ true)
        (its : t ≡ instant_of y (take (65536 * s.cycles + 65536 - 65536 * s.cycles) (drop (65536 * s.cycles) (after s.cycles old part))))
        (rises : rises_above s t ≡ true)
      where
        wide : length part ≡ 65536
        wide =
            let n = mid_len (65536 * s.cycles) (65536 * s.cycles + 65536) old room in
            omega (arith, len, n)

        pub added_turn : {k : ℕ} → r ≡ added_to s (s.cycles + 1) k t → 65536 ≤ length old - (65536 * s.cycles + 65536) → s.frames < k
            → TurnPromise y old (after s.cycles old part) s r
        added_turn e h l =
            let row-cycle = ap (is_cycle y) (after-row s.cycles old part room wide) ∙ is_cycle_fact in
            let row-instant = its ∙ ap (instant_of y) (row_is 65536 (after s.cycles old part) s.cycles) in
            rw e
            (record {
              fits = record { roomy = f.roomy; one_more = omega (arith, f.one_more) };
              further = λ m. l;
              stays = stays_is;
              kept = λ k. kept_more (after s.cycles old part) k (omega (arith, room)) size_is stays_is row-cycle row-instant rises;
            })
