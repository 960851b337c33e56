-- Voted stretches joined end to end, and one more group, or FILL, after them: a loop takes one more at each turn. Assumes nothing.
use mathlib.Core.Path.{◌≡◌, refl, sym, ◌∙◌}
use mathlib.Core.List.{List, [], ◌∷◌, ◌++◌, append-nil}
use Prim.Native.Nat.{ℕ, suc, ◌+◌, ◌*◌, ◌-◌, ◌≤◌, ◌<◌}
use native.Mathlib.Nat.{zero-add, add-zero, add-suc, suc-add}
use native.Mathlib.Omega.{arith}
use lib.ListN.{length, length-append, get_or, set}
use lib.Seq.{sets}
use Rattle.base.specs.Format.{SYNC, sync_word}
use Rattle.quiet.specs.Quiet.{Byte, Quiet, ToSync}
use Rattle.quiet.specs.Quiet as quiet
use Rattle.quiet.proofs.Joining.{quiet_far}
use Rattle.labelling.specs.declared.Weak.{Weak}
use Rattle.nominal.specs.Stretches.{Nominal, last_place, NoneBegins, none, other}
use Rattle.nominal.specs.Stretches as nominal
use Rattle.nominal.proofs.Joining.{nominal_join, four-fill, one-fill}
use Rattle.voted.specs.declared.hunting.Hunt.{Hunt}
use Rattle.voted.specs.declared.placing.Run.{Run}
use Rattle.voted.specs.Copies.{Copies, copies, copies_at, IsVoted, word_of, words, weak_in, last_or, agreement, agreements, Summed}
use Rattle.voted.specs.Stretches.{Group, Spaced, Alike, Decided, ends, fill, stray, group, Stops, Kept, RunsOn, Longest, no_group, Placed}
use Rattle.voted.specs.Stretches.{most_groups, LeftTo, Going, Sought, none_passed, Hunted}
use Rattle.voted.proofs.Agreeing.{agreement-few, split_of, voted_of, alike-agreement, alike-word, alike, summed_of}

-- ---- voted stretches

module _ {p : List ℕ} where
  pub decided_join : {i j k n m : ℕ} {gs hs : List Copies} → Decided p i j n gs → Decided p j k m hs → Decided p i k (n + m) (gs ++ hs)
  decided_join {m = m} ends d = rw (zero-add m) d
  decided_join (fill b a) d = fill b (decided_join a d)
  decided_join {m = m} (stray {n = n} x b s f a) d =
      let e : n + 1 + m ≡ n + m + 1 = omega arith in
      rw e (stray x b s f (decided_join a d))
  decided_join (group g s v a) d = group g s v (decided_join a d)

  -- four bytes for each group and one for each stray one, at the least; and not past the end
  pub decided_far : {i j n : ℕ} {gs : List Copies} → Decided p i j n gs → i + 4 * length gs + n ≤ j
  decided_far ends = omega arith
  decided_far (fill b a) = omega (arith, decided_far a)
  decided_far (stray x b s f a) = omega (arith, decided_far a)
  decided_far (group g s v a) = omega (arith, decided_far a)

  pub decided_inside : {i j n : ℕ} {gs : List Copies} → Decided p i j n gs → i ≤ length p → j ≤ length p
  decided_inside ends h = h
  decided_inside (fill b a) h = decided_inside a (omega (arith, b.inside))
  decided_inside (stray x b s f a) h = decided_inside a (omega (arith, b.inside))
  decided_inside (group g s v a) h = decided_inside a (omega (arith, s.third.inside))

  pub past_fill : {i j : ℕ} → Nominal p i j [] → Decided p i j 0 []
  past_fill nominal.ends = ends
  past_fill (nominal.fill b n) = fill b (past_fill n)

  pub past_quiet : {i j n : ℕ} → Quiet p i j n → Decided p i j n []
  past_quiet quiet.ends = ends
  past_quiet (quiet.fill b a) = fill b (past_quiet a)
  past_quiet (quiet.stray x b s f a) = stray x b s f (past_quiet a)

  -- past a byte that is no SYNC
  quiet_moves : {i j n : ℕ} → Quiet p i j n → (j < length p → Byte p j SYNC) → i < length p → (get_or p i 0 ≡ SYNC → ⊥) → i < j
  quiet_moves quiet.ends stops h unlike = absurd (unlike (stops h).is)
  quiet_moves (quiet.fill b a) stops h unlike = omega (arith, quiet_far a)
  quiet_moves (quiet.stray x b y f a) stops h unlike = omega (arith, quiet_far a)

  pub past_moves : {i j n : ℕ} → ToSync p i j n → i < length p → (get_or p i 0 ≡ SYNC → ⊥) → i < j
  past_moves s h unlike = quiet_moves s.quiet s.stops h unlike

  -- the FILL of a cell
  pub cell-fill : {i : ℕ} → Spaced p i → Decided p (i + 4) (i + 9) 0 []
  cell-fill {i} s =
      past_fill (nominal_join (four-fill {j = i + 8} (omega arith) s.four) (one-fill {j = i + 9} (omega arith) s.fifth))

-- SYNC stands at i, and three bytes follow it
pub group_at : {p : List ℕ} {i : ℕ} → Byte p i SYNC → i + 3 < length p → Group p i (copies_at p i)
group_at s h = record {
  sync = s;
  first = record { inside = omega arith; is = refl };
  second = record { inside = omega arith; is = refl };
  third = record { inside = h; is = refl };
}

-- and no others
pub copies-there : {p : List ℕ} {i : ℕ} {g : Copies} → Group p i g → g ≡ copies_at p i
copies-there {g = g} s = rw (s.first.is, s.second.is, s.third.is)

-- ---- one group more

words_last : (f : List ℕ) (q : ℕ) (gs : List Copies) (g : Copies) → sets f q (words (gs ++ g ∷ [])) ≡ set (sets f q (words gs)) (q + length gs) (word_of g)
words_last f q [] g = rw (add-zero q)
words_last f q (x ∷ gs) g = words_last (set f q (word_of x)) (suc q) gs g ∙ rw (suc-add q (length gs), add-suc q (length gs))

agreements-last : (gs : List Copies) (g : Copies) → agreements (gs ++ g ∷ []) ≡ agreements gs + agreement g
agreements-last [] g = omega arith
agreements-last (x ∷ gs) g = omega (arith, agreements-last gs g)

last_last : (gs : List Copies) (g d : Copies) → last_or (gs ++ g ∷ []) d ≡ g
last_last [] g d = refl
last_last (x ∷ gs) g d = last_last gs g x

abbrev pub run : ℕ → ℕ → ℕ → ℕ → ℕ → Run
run at placed last sums n = record { at = at; placed = placed; last = last; sums = sums; stray = n }

module _ {p : List ℕ} where
  pub kept-none : (i q : ℕ) (f : List ℕ) → Kept p i q f (run i q i 0 0) f
  kept-none i q f = record {
    groups = [];
    stretch = ends;
    place_is = omega arith;
    frame_is = refl;
    sums_are = refl;
    last_at = λ d h. absurd (omega arith);
  }

  module _ {i q k l s n : ℕ} {j : ℕ} {f f' : List ℕ} (b : Kept p i q f (run j k l s n) f') where
    pub kept-quiet : {j' m : ℕ} → Decided p j j' m [] → Kept p i q f (run j' k l s (n + m)) f'
    kept-quiet d = record {
      groups = b.groups;
      stretch = rw (append-nil b.groups) at (decided_join b.stretch d);
      place_is = b.place_is;
      frame_is = b.frame_is;
      sums_are = b.sums_are;
      last_at = b.last_at;
    }

    pub kept-group : {j' m w a : ℕ} {g : Copies} → Group p j g → IsVoted g → Decided p (j + 4) j' m [] → w ≡ word_of g → a ≡ agreement g
        → Kept p i q f (run j' (k + 1) j (s + a) (n + m)) (set f' k w)
    kept-group {j'} {m} {w} {a} {g} there v d ew ea = record {
      groups = b.groups ++ g ∷ [];
      stretch = decided_join b.stretch (group g there v d);
      place_is = omega (arith, b.place_is, length-append b.groups (g ∷ []));
      frame_is = rw (b.frame_is, b.place_is, ew) (sym (words_last f q b.groups g));
      sums_are = omega (arith, b.sums_are, agreements-last b.groups g);
      last_at = λ d h. rw (last_last b.groups g d) there;
    }

pub runs-join : {p : List ℕ} {r r' r'' : Run} {f f' f'' : List ℕ} → RunsOn p r f r' f' → RunsOn p r' f' r'' f'' → RunsOn p r f r'' f''
runs-join a b = record { kept = λ i q f k. b.kept i q f (a.kept i q f k); has_room = b.has_room }

-- ---- where a voted stretch stops

module _ {p : List ℕ} {j : ℕ} {Left : Copies → Type 0} where
  -- no whole group is left
  pub stops_short : length p < j + 4 → Stops p j Left
  stops_short l h = absurd (omega arith)

  module _ (sync : get_or p j 0 ≡ SYNC) where
    -- all three copies differ
    pub stops_split : agreement (copies_at p j) ≡ 0 → Stops p j Left
    stops_split e h = (record { inside = omega arith; is = sync }, λ g s v. absurd (split_of (copies_at p j) e (rw (copies-there s) at v)))

    -- a group stands there, and is left
    pub stops_left : ((g : Copies) → Left g) → Stops p j Left
    stops_left left h = (record { inside = omega arith; is = sync }, λ g s v. left g)

-- ---- the whole stretch

pub placed-none : {p : List ℕ} {i j q n : ℕ} {f : List ℕ} → Decided p i j n [] → Stops p j (λ g. last_place ≤ q) → Placed p i q f (no_group j q n) f
placed-none n s = record {
  groups = [];
  stretch = n;
  place_is = omega arith;
  room = λ h. h;
  frame_is = refl;
  weak_is = refl;
  first-is = λ d h. absurd (omega arith);
  second_is = λ d h. absurd (omega arith);
  stops = s;
}

module _ {p : List ℕ} {i q : ℕ} {f : List ℕ} {r : Run} {f' : List ℕ} (l : Longest p i q f r f') where
  -- no group
  pub placed-empty : r.placed ≡ q → Placed p i q f (no_group r.at q r.stray) f'
  placed-empty e = go l.kept.groups (omega (arith, l.kept.place_is)) l.kept.stretch l.kept.frame_is
    where
      go : (gs : List Copies) → length gs ≡ 0 → Decided p i r.at r.stray gs → f' ≡ sets f q (words gs)
          → Placed p i q f (no_group r.at q r.stray) f'
      go [] z n ef = rw ef (placed-none n (rw e at l.stops))
      go (g ∷ gs) z n ef = absurd (omega arith)

  -- some
  module _ (some : r.placed ≡ q → ⊥) where
    some_groups : 0 < length l.kept.groups
    some_groups = omega (arith, l.kept.place_is, some)

    pub last_inside : r.last + 3 < length p
    last_inside = (l.kept.last_at (copies 0 0 0) some_groups).third.inside

    pub run-summed : {n : ℕ} → n ≡ r.placed - q → Summed r.sums n (weak_in l.kept.groups) (alike l.kept.groups)
    run-summed {n} e =
        let k = l.kept in
        let room = l.has_room.room in
        let s = summed_of k.stretch (omega (arith, k.place_is)) in
        let count : n ≡ length k.groups = omega (arith, k.place_is) in
        rw (k.sums_are, count) s

    pub placed-some : {w : Weak} → w ≡ weak_in l.kept.groups
        → Placed p i q f
        record { at = r.at; placed = r.placed; weak = w; first = get_or p (r.last + 1) 0; second = get_or p (r.last + 2) 0; stray = r.stray }
        f'
    placed-some e =
        let k = l.kept in
        record {
          groups = k.groups;
          stretch = k.stretch;
          place_is = k.place_is;
          room = λ h. l.has_room.room;
          frame_is = k.frame_is;
          weak_is = e;
          first-is = λ d h. (k.last_at d h).first.is;
          second_is = λ d h. (k.last_at d h).second.is;
          stops = l.stops;
        }

-- ---- hunted groups

abbrev pub hunt : ℕ → ℕ → ℕ → ℕ → ℕ → Hunt
hunt at count last sums n = record { at = at; count = count; last = last; sums = sums; stray = n }

none_last : (gs : List Copies) (g : Copies) → NoneBegins (words gs) → (word_of g ≡ sync_word 0 → ⊥) → NoneBegins (words (gs ++ g ∷ []))
none_last [] g n h = other h none
none_last (x ∷ gs) g (other z n) h = other z (none_last gs g n h)

module _ {p : List ℕ} where
  pub going_none : (i : ℕ) → Going p i (hunt i 0 i 0 0)
  going_none i = record {
    groups = [];
    stretch = ends;
    none_begins = none;
    count-is = refl;
    most = omega arith;
    few = omega arith;
    few_stray = omega arith;
    sums_are = refl;
    last_at = λ d h. absurd (omega arith);
  }

  module _ {i j k l s n : ℕ} (b : Going p i (hunt j k l s n)) where
    pub going_quiet : {j' m : ℕ} → Decided p j j' m [] → Going p i (hunt j' k l s (n + m))
    going_quiet d = record {
      groups = b.groups;
      stretch = rw (append-nil b.groups) at (decided_join b.stretch d);
      none_begins = b.none_begins;
      count-is = b.count-is;
      most = b.most;
      few = b.few;
      few_stray = omega (arith, b.few_stray, decided_far d);
      sums_are = b.sums_are;
      last_at = b.last_at;
    }

    pub going_on : {j' m a : ℕ} {g : Copies} → k < most_groups → Group p j g → IsVoted g → (word_of g ≡ sync_word 0 → ⊥) → Decided p (j + 4) j' m []
        → a ≡ agreement g → Going p i (hunt j' (k + 1) j (s + a) (n + m))
    going_on {j'} {m} {a} {g} few there v h d ea = record {
      groups = b.groups ++ g ∷ [];
      stretch = decided_join b.stretch (group g there v d);
      none_begins = none_last b.groups g b.none_begins h;
      count-is = omega (arith, b.count-is, length-append b.groups (g ∷ []));
      most = omega arith;
      few = omega (arith, b.few, agreement-few g);
      few_stray = omega (arith, b.few_stray, decided_far d);
      sums_are = omega (arith, b.sums_are, agreements-last b.groups g);
      last_at = λ d h. rw (last_last b.groups g d) there;
    }

    pub sought : Stops p j (LeftTo k) → Sought p i (hunt j k l s n)
    sought stops = record { going = b; stops = stops }

  -- the word is FA
  pub stops_first : {j w v : ℕ} → get_or p j 0 ≡ SYNC → v ≡ word_of (copies_at p j) → v ≡ sync_word 0 → Stops p j (LeftTo w)
  stops_first sync e f h = (record { inside = omega arith; is = sync }, λ g s v few. rw (copies-there s) (sym e ∙ f))

-- ---- one cell of three equal copies more

module _ {p : List ℕ} {j : ℕ} (cell : Alike p j) where
  cell-group : Group p j (copies_at p j)
  cell-group = group_at cell.spaced.sync (omega (arith, cell.spaced.fifth.inside))

  cell-agrees : 0x100010001 ≡ agreement (copies_at p j)
  cell-agrees = alike-agreement _ _ _ cell.second cell.third

  cell-word : get_or p (j + 1) 0 ≡ word_of (copies_at p j)
  cell-word = alike-word _ _ _ cell.second cell.third

  cell-voted : IsVoted (copies_at p j)
  cell-voted = voted_of (copies_at p j) (λ e. omega (arith, cell-agrees, e))

  pub kept-cell : {i q k l s n : ℕ} {f f' : List ℕ} → Kept p i q f (run j k l s n) f'
      → Kept p i q f (run (j + 9) (k + 1) j (s + 0x100010001) n) (set f' k (get_or p (j + 1) 0))
  kept-cell {n = n} b = rw (add-zero n) at (kept-group b cell-group cell-voted (cell-fill cell.spaced) cell-word cell-agrees)

  pub going_cell : {i k l s n : ℕ} → k < most_groups → (get_or p (j + 1) 0 ≡ sync_word 0 → ⊥) → Going p i (hunt j k l s n)
      → Going p i (hunt (j + 9) (k + 1) j (s + 0x100010001) n)
  going_cell {n = n} few unlike b =
      rw (add-zero n) at (going_on b few cell-group cell-voted (λ e. unlike (cell-word ∙ e)) (cell-fill cell.spaced) cell-agrees)

module _ {p : List ℕ} {i : ℕ} {r : Hunt} (s : Sought p i r) where
  -- no group
  pub hunted_empty : r.count ≡ 0 → Hunted p i (none_passed r.at r.stray)
  hunted_empty e = go s.going.groups (omega (arith, s.going.count-is)) s.going.stretch
    where
      go : (gs : List Copies) → length gs ≡ 0 → Decided p i r.at r.stray gs → Hunted p i (none_passed r.at r.stray)
      go [] z n = record {
        groups = [];
        stretch = n;
        none_begins = none;
        count-is = refl;
        weak_is = refl;
        first-is = λ d h. absurd (omega arith);
        second_is = λ d h. absurd (omega arith);
        stops = rw e at s.stops;
      }
      go (g ∷ gs) z n = absurd (omega arith)

  pub hunt-summed : Summed r.sums r.count (weak_in s.going.groups) (alike s.going.groups)
  hunt-summed = rw (s.going.sums_are, s.going.count-is) (summed_of s.going.stretch (omega (arith, s.going.count-is, s.going.most)))

  -- some
  module _ (some : r.count ≡ 0 → ⊥) where
    pub hunt-inside : r.last + 3 < length p
    hunt-inside = (s.going.last_at (copies 0 0 0) (omega (arith, s.going.count-is, some))).third.inside

    pub hunted_some : {w : Weak} → w ≡ weak_in s.going.groups
        → Hunted p i record {
          at = r.at;
          count = r.count;
          weak = w;
          first = get_or p (r.last + 1) 0;
          second = get_or p (r.last + 2) 0;
          stray = r.stray;
        }
    hunted_some e = record {
      groups = s.going.groups;
      stretch = s.going.stretch;
      none_begins = s.going.none_begins;
      count-is = s.going.count-is;
      weak_is = e;
      first-is = λ d h. (s.going.last_at d h).first.is;
      second_is = λ d h. (s.going.last_at d h).second.is;
      stops = s.stops;
    }
