-- Blocks of cells: one lane more, the lanes that hold nothing, and the cells of a block after a run. Assumes nothing.
use mathlib.Core.Path.{◌≡◌, refl, sym, ap, subst, ◌∙◌}
use mathlib.Core.List.{List}
use Prim.Native.Nat.{ℕ, zero, suc, ◌+◌, ◌*◌, ◌-◌, ◌≤◌, ◌<◌}
use native.Mathlib.Nat.{add-zero, add-suc}
use native.Mathlib.Numerals.{add-one}
use native.Mathlib.Omega.{arith}
use borrow.Author.Count.{below_more}
use lib.Dec.{eqb}
use lib.ListN.{length, length-set, get_or, set, replicate, length-replicate}
use lib.Seq.{get_or-set_same, get_or-set_other}
use Rattle.base.specs.Lists.{one}
use Rattle.voted.specs.Lanes.{Columns, columns, lane, lanes, total, Sized, Gathered, Blank, copied}
use Rattle.voted.specs.Copies.{Copies, copies, copies_at, IsVoted, word_of, side_by_side, agreement}
use Rattle.voted.specs.Stretches.{Spaced, Kept}
use Rattle.voted.proofs.Agreeing.{one-few, agreement-few}
use Rattle.voted.proofs.Joining.{run, cell-fill, group_at, kept-group}

-- ---- totals

pub total-none : (f : Copies → ℕ) (l : Columns) → total f l 0 ≡ 0
unfolding total
total-none f l = refl

pub total-more : (f : Copies → ℕ) (l : Columns) (n : ℕ) → total f l (n + 1) ≡ total f l n + f (lane l n)
unfolding total
total-more f l n = rw (add-one n)

abbrev pub first_two : Copies → ℕ
first_two g = one (eqb g.first g.second)

abbrev pub outer_two : Copies → ℕ
outer_two g = one (eqb g.first g.third)

abbrev pub last_two : Copies → ℕ
last_two g = one (eqb g.second g.third)

-- three totals side by side are the total of what stands side by side
pub total-sides : (l : Columns) (n : ℕ) → side_by_side (total first_two l n) (total outer_two l n) (total last_two l n) ≡ total agreement l n
unfolding total
total-sides l zero = refl
total-sides l (suc n) = omega (arith, total-sides l n)

module _ (l : Columns) (n : ℕ) (free : (k : ℕ) → n ≤ k → lane l k ≡ copies 0 0 0) where
  -- a lane that holds nothing has three equal copies
  pub total-free : (d : ℕ) → total agreement l (n + d) ≡ total agreement l n + 0x100010001 * d
  unfolding total
  total-free zero = let z : n + 0 ≡ n = omega arith in rw z (omega arith)
  total-free (suc d) =
      let alike : agreement (lane l (n + d)) ≡ 0x100010001 = ap agreement (free (n + d) (omega arith)) in
      rw (add-suc n d) (omega (arith, total-free d, alike))

-- no more than three agreements for each lane
pub total-few : (l : Columns) (n : ℕ) → total agreement l n ≤ 0x100010001 * n
unfolding total
total-few l zero = omega arith
total-few l (suc n) = omega (arith, total-few l n, agreement-few (lane l n))

-- what is left of m lanes where those that hold nothing are taken off
module _ (l : Columns) (n m : ℕ) (most : n ≤ m) (free : (k : ℕ) → n ≤ k → lane l k ≡ copies 0 0 0) where
  all-total : total agreement l m ≡ total agreement l n + 0x100010001 * (m - n)
  all-total =
      let all : n + (m - n) ≡ m = omega arith in
      ap (total agreement l) (sym all) ∙ total-free l n free (m - n)

  pub taken-off : {s : ℕ} → s ≡ total agreement l m → (0x100010001 * (m - n) ≤ s) × (s - 0x100010001 * (m - n) ≡ total agreement l n)
  taken-off e = (omega (arith, all-total), omega (arith, all-total))

-- ---- one cell more is gathered

zeros_at : (n k : ℕ) → ◌≡◌ {A = ℕ} (get_or (replicate n 0) k 0) 0
zeros_at zero k = refl
zeros_at (suc n) zero = refl
zeros_at (suc n) (suc k) = zeros_at n k

pub zeros_blank : Blank (columns (replicate lanes 0) (replicate lanes 0) (replicate lanes 0))
zeros_blank =
    let size = length-replicate {A = ℕ} lanes 0 in
    record { sized = record { firsts_sized = size; seconds_sized = size; thirds_sized = size }; free = λ k. rw (zeros_at lanes k) }

pub blank-gathered : {p : List ℕ} {i : ℕ} {l : Columns} → Blank l → Gathered p i 0 l
blank-gathered b = record { sized = b.sized; spaced = λ k h. absurd (omega arith); held = λ k h. absurd (omega arith); free = λ k h. b.free k }

module _ {a b c p : List ℕ} {i n : ℕ} (g : Gathered p i n (columns a b c)) (x y z : ℕ) where
  abbrev more : Columns
  more = columns (set a n x) (set b n y) (set c n z)

  more-sized : Sized more
  more-sized = record {
    firsts_sized = length-set a n x ∙ g.sized.firsts_sized;
    seconds_sized = length-set b n y ∙ g.sized.seconds_sized;
    thirds_sized = length-set c n z ∙ g.sized.thirds_sized;
  }

  more-here : n < lanes → lane more n ≡ copies x y z
  more-here h =
      rw (
        get_or-set_same a n x 0 (omega (arith, g.sized.firsts_sized)),
        get_or-set_same b n y 0 (omega (arith, g.sized.seconds_sized)),
        get_or-set_same c n z 0 (omega (arith, g.sized.thirds_sized)),
      )

  more-there : (k : ℕ) → (k ≡ n → ⊥) → lane more k ≡ lane (columns a b c) k
  more-there k h = rw (get_or-set_other a n k x 0 h, get_or-set_other b n k y 0 h, get_or-set_other c n k z 0 h)

  pub more-gathered : n < lanes → Spaced p (i + 9 * n) → copies x y z ≡ copies_at p (i + 9 * n) → Gathered p i (n + 1) more
  more-gathered h there e = record {
    sized = more-sized;
    spaced = below_more (λ k. Spaced p (i + 9 * k)) n g.spaced there;
    held = below_more (λ k. lane more k ≡ copies_at p (i + 9 * k)) n (λ k l. more-there k (λ q. omega arith) ∙ g.held k l) (more-here h ∙ e);
    free = λ k l. more-there k (λ q. omega arith) ∙ g.free k (omega arith);
  }

-- ---- one lane more is voted

-- the first k of n lanes: how often copies agree in them, and that no lane is split where none is counted. Their words stand in w, and after
-- them the first copies of the lanes to come
pub record Voting (l : Columns) (n : ℕ) (w : List ℕ) (x y z none k : ℕ) : Type 0 where
  pub few : k ≤ n
  pub sized : length w ≡ lanes
  pub x_is : x ≡ total first_two l k
  pub y_is : y ≡ total outer_two l k
  pub z_is : z ≡ total last_two l k
  pub x_few : x ≤ k
  pub y_few : y ≤ k
  pub z_few : z ≤ k
  pub none_few : none ≤ k
  pub voted : none ≡ 0 → (m : ℕ) → m < k → IsVoted (lane l m)
  pub words_are : (m : ℕ) → m < k → IsVoted (lane l m) → get_or w m 0 ≡ word_of (lane l m)
  pub firsts_left : (m : ℕ) → k ≤ m → get_or w m 0 ≡ get_or l.firsts m 0

pub voting_none : (l : Columns) (n : ℕ) → length l.firsts ≡ lanes → Voting l n l.firsts 0 0 0 0 0
voting_none l n e = record {
  few = omega arith;
  sized = e;
  x_is = sym (total-none first_two l);
  y_is = sym (total-none outer_two l);
  z_is = sym (total-none last_two l);
  x_few = omega arith;
  y_few = omega arith;
  z_few = omega arith;
  none_few = omega arith;
  voted = λ z m h. absurd (omega arith);
  words_are = λ m h. absurd (omega arith);
  firsts_left = λ m h. refl;
}

module _ {l : Columns} {n : ℕ} {w : List ℕ} {x y z none k : ℕ} (b : Voting l n w x y z none k) (h : k < n) (most : n ≤ lanes) where
  -- the copies that stand in lane k
  abbrev here : Copies
  here = lane (columns w l.seconds l.thirds) k

  here-is : here ≡ lane l k
  here-is = rw (b.firsts_left k (omega arith))

  pub voting_more : {v x' y' z' d : ℕ} → (IsVoted here → v ≡ word_of here) → x' ≡ first_two here → y' ≡ outer_two here → z' ≡ last_two here → d ≤ 1
      → (d ≡ 0 → IsVoted here) → Voting l n (set w k v) (x + x') (y + y') (z + z') (none + d) (k + 1)
  voting_more {v} {x'} {y'} {z'} {d} is ex ey ez few whole = record {
    few = omega arith;
    sized = length-set w k v ∙ b.sized;
    x_is = omega (arith, ex, ap first_two here-is, b.x_is, total-more first_two l k);
    y_is = omega (arith, ey, ap outer_two here-is, b.y_is, total-more outer_two l k);
    z_is = omega (arith, ez, ap last_two here-is, b.z_is, total-more last_two l k);
    x_few = omega (arith, ex, b.x_few, one-few (eqb here.first here.second));
    y_few = omega (arith, ey, b.y_few, one-few (eqb here.first here.third));
    z_few = omega (arith, ez, b.z_few, one-few (eqb here.second here.third));
    none_few = omega (arith, b.none_few);
    voted = λ e. below_more (λ m. IsVoted (lane l m)) k (b.voted (omega arith)) (subst IsVoted here-is (whole (omega arith)));
    words_are =
        below_more (λ m. IsVoted (lane l m) → get_or (set w k v) m 0 ≡ word_of (lane l m)) k
        (λ m n i. get_or-set_other w k m v 0 (λ q. omega arith) ∙ b.words_are m n i)
        (λ i. get_or-set_same w k v 0 (omega (arith, b.sized)) ∙ is (subst IsVoted (sym here-is) i) ∙ ap word_of here-is);
    firsts_left = λ m e. get_or-set_other w k m v 0 (λ q. omega arith) ∙ b.firsts_left m (omega arith);
  }

-- ---- the words

pub copied_none : (f : List ℕ) (q : ℕ) (w : List ℕ) → copied f q w 0 ≡ f
unfolding copied
copied_none f q w = refl

pub copied_more : (f : List ℕ) (q : ℕ) (w : List ℕ) (n : ℕ) → copied f q w (n + 1) ≡ set (copied f q w n) (q + n) (get_or w n 0)
unfolding copied
copied_more f q w n = rw (add-one n)

-- ---- the cells of a block after a run

module _ {p : List ℕ} {i q : ℕ} {f : List ℕ} {j k l s t : ℕ} {f' : List ℕ} (b : Kept p i q f (run j k l s t) f') where
  -- the run after n cells more, of which the last stands at l'
  abbrev After : Columns → List ℕ → ℕ → ℕ → Type 0
  After ls w n l' = Kept p i q f (run (j + 9 * n) (k + n) l' (s + total agreement ls n) t) (copied f' k w n)

  module _ {n : ℕ} {ls : Columns} (w : List ℕ) (g : Gathered p j n ls) (voted : (m : ℕ) → m < n → IsVoted (lane ls m))
      (words_are : (m : ℕ) → m < n → get_or w m 0 ≡ word_of (lane ls m)) where
    one_more : (m l' : ℕ) → m < n → After ls w m l' → After ls w (m + 1) (j + 9 * m)
    one_more m l' h before =
        let cell = g.spaced m h in
        let group = group_at cell.sync (omega (arith, cell.fifth.inside)) in
        let is = g.held m h in
        let next = kept-group before (rw is group) (voted m h) (cell-fill cell) (words_are m h) refl in
        let at : j + 9 * m + 9 ≡ j + 9 * (m + 1) = omega arith in
        let place : k + m + 1 ≡ k + (m + 1) = omega arith in
        let sums : s + total agreement ls m + agreement (lane ls m) ≡ s + total agreement ls (m + 1) = omega (arith, total-more agreement ls m) in
        rw (at, place, sums, add-zero t, ← copied_more f' k w m) at next

    cells_kept : (m : ℕ) → m < n → After ls w (m + 1) (j + 9 * m)
    cells_kept zero h =
        let at : j ≡ j + 9 * 0 = omega arith in
        let place : k ≡ k + 0 = omega arith in
        let sums : s ≡ s + total agreement ls 0 = omega (arith, total-none agreement ls) in
        one_more 0 l h (rw (at, place, sums, ← copied_none f' k w) at b)
    cells_kept (suc m) h =
        let n-is : suc m ≡ m + 1 = omega arith in
        one_more (suc m) (j + 9 * m) h (rw (← n-is) at (cells_kept m (omega arith)))

    pub block-kept : {s' : ℕ} {f'' : List ℕ} → 0 < n → s' ≡ s + total agreement ls n → f'' ≡ copied f' k w n
        → Kept p i q f (run (j + 9 * n) (k + n) (j + 9 * (n - 1)) s' t) f''
    block-kept some es ef =
        let all : n - 1 + 1 ≡ n = omega arith in
        rw (es, ef) (rw all at (cells_kept (n - 1) (omega arith)))
