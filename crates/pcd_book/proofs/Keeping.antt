-- A turn changes the room behind what is gathered alone: that stays, and a cycle that is added follows it. Assumes nothing.
use mathlib.Core.Path.{◌≡◌, refl, sym, ap, ◌∙◌}
use mathlib.Core.Bool.{Bool, true, false}
use mathlib.Core.List.{List}
use Prim.Native.Nat.{ℕ, ◌+◌, ◌-◌, ◌*◌, ◌≤◌, ◌<◌}
use native.Mathlib.Omega.{arith}
use lib.Dec.{ltb}
use lib.ListN.{length, take, drop}
use lib.Seq.{take_at, drop_at, take-take, take-add, length-take-le}
use borrow.Author.Tests.{ltb-true, ltb-false, ne_eqb}
use borrow.Rule.Slice.PartMut.{put_mid}
use Rattle.base.specs.Rows.{row}
use Rattle.cycle.specs.Cycle.{is_cycle, instant_of}
use Rattle.book_shelf.specs.declared.Shelf.{Shelf}
use Rattle.book_shelf.specs.Shelves.{rises_above, added_to}
use Rattle.pcd_book.specs.Shelves.{Kept}

-- ---- rows

front-row : (i : ℕ) (a : List ℕ) → 65536 * i ≤ length a → row 65536 a i ≡ drop (65536 * i) (take (65536 * i + 65536) a)
unfolding row
front-row i a h =
    let s = 65536 * i in
    sym (ap (drop s) (take-add s 65536 a) ∙ drop_at (take s a) (take 65536 (drop s a)) s (length-take-le s a h))

-- the rows of equal fronts are equal
pub same_row : (k i : ℕ) (a b : List ℕ) → i < k → 65536 * k ≤ length a → 65536 * k ≤ length b → take (65536 * k) a ≡ take (65536 * k) b
    → row 65536 a i ≡ row 65536 b i
same_row k i a b h la lb e =
    let m = 65536 * i + 65536 in
    let below : m ≤ 65536 * k = omega arith in
    let fronts = sym (take-take m (65536 * k) a below) ∙ ap (take m) e ∙ take-take m (65536 * k) b below in
    front-row i a (omega arith) ∙ ap (drop (65536 * i)) fronts ∙ sym (front-row i b (omega arith))

-- ---- the room after a turn, which has another part behind k cycles

abbrev pub after : ℕ → List ℕ → List ℕ → List ℕ
after k old part = put_mid (65536 * k) (65536 * k + 65536 - 65536 * k) old part

module _ (k : ℕ) (old part : List ℕ) (room : 65536 * k + 65536 ≤ length old) where
  pub after_front : take (65536 * k) (after k old part) ≡ take (65536 * k) old
  after_front = take_at (take (65536 * k) old) _ (65536 * k) (length-take-le (65536 * k) old (omega arith))

  pub after-row : length part ≡ 65536 → row 65536 (after k old part) k ≡ part
  unfolding row
  after-row len =
      ap (take 65536) (drop_at (take (65536 * k) old) _ (65536 * k) (length-take-le (65536 * k) old (omega arith))) ∙ take_at part _ 65536 len

-- ---- what is gathered
module _ {y : ℕ} {old : List ℕ} {s : Shelf} (new : List ℕ) (kept : Kept y old s) (room : 65536 * s.cycles ≤ length old)
    (size : length new ≡ length old)
    (stays : take (65536 * s.cycles) new ≡ take (65536 * s.cycles) old)
  where
    same : (i : ℕ) → i < s.cycles → row 65536 new i ≡ row 65536 old i
    same i h = same_row s.cycles i new old h (omega arith) room stays

    pub kept-still : {r : Shelf} → r.cycles ≡ s.cycles → r.last ≡ s.last → Kept y new r
    kept-still c l =
        record {
          each_cycle = λ i h. rw (same i (omega arith)) (kept.each_cycle i (omega arith));
          rise = λ i p h. rw (same (i - 1) (omega arith), same i (omega arith)) (kept.rise i p (omega arith));
          last_is = λ p. rw (l, c, same (s.cycles - 1) (omega arith)) (kept.last_is (omega arith));
        }

    module _ {t : ℕ} (is_cycle_fact : is_cycle y (row 65536 new s.cycles) ≡ true) (its : t ≡ instant_of y (row 65536 new s.cycles))
        (rises : rises_above s t ≡ true)
      where
        cycle_at : (i : ℕ) (b : Bool) → ltb i s.cycles ≡ b → i < s.cycles + 1 → is_cycle y (row 65536 new i) ≡ true
        cycle_at i true e h = let below = ltb-true i s.cycles e in rw (same i below) (kept.each_cycle i below)
        cycle_at i false e h = let last : i ≡ s.cycles = omega (arith, ltb-false i s.cycles e) in rw last is_cycle_fact

        later : 0 < s.cycles → s.last < t
        later p = ltb-true s.last t (rw (ne_eqb s.cycles 0 (λ z. omega arith)) at rises)

        rise_at : (i : ℕ) (b : Bool) → ltb i s.cycles ≡ b → 0 < i → i < s.cycles + 1
            → instant_of y (row 65536 new (i - 1)) < instant_of y (row 65536 new i)
        rise_at i true e p h =
            let below = ltb-true i s.cycles e in rw (same (i - 1) (omega arith), same i below) (kept.rise i p below)
        rise_at i false e p h =
            let last : i ≡ s.cycles = omega (arith, ltb-false i s.cycles e) in
            rw (last, same (s.cycles - 1) (omega arith), ← kept.last_is (omega arith), ← its) (later (omega arith))

        pub kept_more : {f : ℕ} → Kept y new (added_to s (s.cycles + 1) f t)
        kept_more =
            record {
              each_cycle = λ i h. cycle_at i (ltb i s.cycles) refl h;
              rise = λ i p h. rise_at i (ltb i s.cycles) refl p h;
              last_is = λ p. let back : s.cycles + 1 - 1 ≡ s.cycles = omega arith in rw back its;
            }
