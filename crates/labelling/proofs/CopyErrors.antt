-- Copy errors (02, request 10) under any vote in which two equal copies decide: the words stay, each weak count rises by the copies truly changed at
-- its copy, and the kept copies stay unless those of the last closed group were changed. And there are such changes. Assumes nothing.
use mathlib.Core.Path.{◌≡◌, refl, sym, ◌∙◌}
use mathlib.Core.Bool.{Bool, true, false}
use mathlib.Core.List.{List, [], ◌∷◌, ◌++◌}
use Prim.Native.Nat.{ℕ, ◌+◌}
use native.Mathlib.Omega.{arith}
use lib.Dec.{eqb}
use lib.ListN.{length}
use borrow.Author.Tests.{eqb-true, eqb-false, eq-eqb, ne_eqb}
use Rattle.base.specs.Lists.{concat_map, one, count_by}
use Rattle.labelling.specs.Words.{SYNC, FILL, Outside, opening, filling, straying, outside, Group, fill, stray, closed, opened, groups, copies, bytes_of}
use Rattle.labelling.specs.Words.{Vote, weak_copy, weak_in, weakly}
use Rattle.labelling.specs.Votes.{Majority}
use Rattle.labelling.specs.Rest.{latest, first_in, second_in}
use Rattle.labelling.specs.CopyErrors.{Becomes, as_before, first_copy, second_copy, third_copy}
use Rattle.labelling.specs.CopyErrors.{CopyErrors, at-end, outer_byte, closed_group, open_group}
use Rattle.labelling.specs.CopyErrors.{copy_in, copies_at, differences, changed_at, with_group, EachCopy, CopyErrorsReach}
use Rattle.labelling.proofs.ByteLayer.{value_of, value-is, groups_whole}
use Rattle.labelling.proofs.Paired.{Paired, no_pair, pair}
use Rattle.labelling.proofs.SameWords.{outer_pair, closed_pair, open_groups, open_pair, SameWords, both_end, both-outer, both-close, both-open}

-- ---- group by group

data GroupErrors : Group → Group → Type 0 where
  same_group : (g : Group) → GroupErrors g g
  copies_become : {a b c a' b' c' : ℕ} → Becomes a b c a' b' c' → GroupErrors (closed a b c) (closed a' b' c')

in_groups : {bs cs : List ℕ} → CopyErrors bs cs → Paired GroupErrors (groups bs) (groups cs)
in_groups at-end = no_pair
in_groups (outer_byte {bs} {cs} b h s) = outer_pair bs cs (in_groups s) b h (same_group fill) (same_group (stray b))
in_groups (closed_group {bs} {cs} e s) = closed_pair bs cs (in_groups s) (copies_become e)
in_groups (open_group l h) = open_pair l l h refl (same_group (opened l))

-- ---- weak copies

-- the copy that differs from two equal ones is the weak one
module _ (x y : ℕ) (other : eqb x y ≡ false) (other' : eqb y x ≡ false) where
  weak_first : weak_copy y x x ≡ 1
  unfolding weak_copy
  weak_first = rw (other', eq-eqb x x refl)

  weak_second : weak_copy x y x ≡ 2
  unfolding weak_copy
  weak_second = rw (other, eq-eqb x x refl)

  weak_third : weak_copy x x y ≡ 3
  unfolding weak_copy
  weak_third = rw (eq-eqb x x refl, other)

weak_none : (x : ℕ) → weak_copy x x x ≡ 0
unfolding weak_copy
weak_none x = rw (eq-eqb x x refl)

no_difference : (l : List ℕ) → differences l l ≡ 0
no_difference [] = refl
no_difference (x ∷ l) = rw (eq-eqb x x refl) (omega (arith, no_difference l))

differences-append : (l m l' m' : List ℕ) → length m ≡ length l → differences (l ++ l') (m ++ m') ≡ differences l m + differences l' m'
differences-append [] [] l' m' e = omega arith
differences-append [] (y ∷ m) l' m' e = absurd (omega arith)
differences-append (x ∷ l) [] l' m' e = absurd (omega arith)
differences-append (x ∷ l) (y ∷ m) l' m' e = omega (arith, differences-append l m l' m' (omega arith))

-- a group has as many copies as before
as_many : (n : ℕ) {g h : Group} → GroupErrors g h → length (copy_in n h) ≡ length (copy_in n g)
as_many n (same_group g) = refl
as_many n (copies_become e) = refl

module _ {vote : Vote} (m : Majority vote) where
  -- from the group g to h each weak count rises where its copy has changed
  abbrev RisesAt : ℕ → Group → Group → Type 0
  RisesAt n g h = one (eqb (weak_in vote h) n) ≡ one (eqb (weak_in vote g) n) + differences (copy_in n g) (copy_in n h)

  record Rises (g h : Group) : Type 0 where
    first : RisesAt 1 g h
    second : RisesAt 2 g h
    third : RisesAt 3 g h

  stays : (g : Group) → Rises g g
  stays g = record { first = at 1; second = at 2; third = at 3 }
    where
      at : (n : ℕ) → RisesAt n g g
      at n = omega (arith, no_difference (copy_in n g))

  -- three equal copies, of which one has truly changed
  module _ (x y : ℕ) (e : eqb y x ≡ false) where
    e' : eqb x y ≡ false
    e' = ne_eqb x y (λ q. eqb-false y x e (sym q))

    same : eqb x x ≡ true
    same = eq-eqb x x refl

    all-equal : weak_in vote (closed x x x) ≡ 0
    all-equal = rw (m.first_two x x, weak_none x)

    first-rises : Rises (closed x x x) (closed y x x)
    first-rises =
        let now : weak_in vote (closed y x x) ≡ 1 = rw (m.last_two x y, weak_first x y e' e) in
        record { first = rw (now, all-equal, e); second = rw (now, all-equal, same); third = rw (now, all-equal, same) }

    second-rises : Rises (closed x x x) (closed x y x)
    second-rises =
        let now : weak_in vote (closed x y x) ≡ 2 = rw (m.outer_two x y, weak_second x y e' e) in
        record { first = rw (now, all-equal, same); second = rw (now, all-equal, e); third = rw (now, all-equal, same) }

    third_rises : Rises (closed x x x) (closed x x y)
    third_rises =
        let now : weak_in vote (closed x x y) ≡ 3 = rw (m.first_two x y, weak_third x y e' e) in
        record { first = rw (now, all-equal, same); second = rw (now, all-equal, same); third = rw (now, all-equal, e) }

  -- a copy that became y has truly changed, or not
  or_itself : {x y : ℕ} (h : ℕ → Group) → h x ≡ closed x x x → (eqb y x ≡ false → Rises (closed x x x) (h y)) → Rises (closed x x x) (h y)
  or_itself {x} {y} h itself changed = go (eqb y x) refl
    where
      go : (e : Bool) → eqb y x ≡ e → Rises (closed x x x) (h y)
      go true e = rw (eqb-true y x e, itself) (stays (closed x x x))
      go false e = changed e

  copies-rise : {a b c a' b' c' : ℕ} → Becomes a b c a' b' c' → Rises (closed a b c) (closed a' b' c')
  copies-rise (as_before {a} {b} {c}) = stays (closed a b c)
  copies-rise (first_copy {x} y) = or_itself (λ z. closed z x x) refl (first-rises x y)
  copies-rise (second_copy {x} y) = or_itself (λ z. closed x z x) refl (second-rises x y)
  copies-rise (third_copy {x} y) = or_itself (λ z. closed x x z) refl (third_rises x y)

  group_rises : {g h : Group} → GroupErrors g h → Rises g h
  group_rises (same_group g) = stays g
  group_rises (copies_become e) = copies-rise e

  -- what each pair of groups adds is added over the streams
  rises_over : (n : ℕ) {gs hs : List Group} → ((g h : Group) → GroupErrors g h → RisesAt n g h) → Paired GroupErrors gs hs
      → count_by (λ g. eqb (weak_in vote g) n) hs
      ≡ count_by (λ g. eqb (weak_in vote g) n) gs + differences (concat_map (copy_in n) gs) (concat_map (copy_in n) hs)
  rises_over n r no_pair = omega arith
  rises_over n r (pair {a = g} {b = h} {l = gs} {m = hs} e p) =
      let more = differences-append (copy_in n g) (copy_in n h) (concat_map (copy_in n) gs) (concat_map (copy_in n) hs) (as_many n e) in
      omega (arith, r g h e, rises_over n r p, more)

  pub record WeaklyMore (bs cs : List ℕ) : Type 0 where
    pub first : weakly vote 1 cs ≡ weakly vote 1 bs + changed_at 1 bs cs
    pub second : weakly vote 2 cs ≡ weakly vote 2 bs + changed_at 2 bs cs
    pub third : weakly vote 3 cs ≡ weakly vote 3 bs + changed_at 3 bs cs

  pub weakly-more : {bs cs : List ℕ} → CopyErrors bs cs → WeaklyMore bs cs
  unfolding weakly copies_at
  weakly-more s = record {
    first = rises_over 1 (λ g h e. (group_rises e).first) (in_groups s);
    second = rises_over 2 (λ g h e. (group_rises e).second) (in_groups s);
    third = rises_over 3 (λ g h e. (group_rises e).third) (in_groups s);
  }

  -- ---- the words

  copies-vote : {a b c a' b' c' : ℕ} → Becomes a b c a' b' c' → vote a' b' c' ≡ vote a b c
  copies-vote as_before = refl
  copies-vote (first_copy {x} y) = m.last_two x y ∙ sym (m.first_two x x)
  copies-vote (second_copy {x} y) = m.outer_two x y ∙ sym (m.first_two x x)
  copies-vote (third_copy {x} y) = m.first_two x y ∙ sym (m.first_two x x)

  pub words-stay : {bs cs : List ℕ} → CopyErrors bs cs → SameWords vote bs cs
  words-stay at-end = both_end
  words-stay (outer_byte b h s) = both-outer b h (words-stay s)
  words-stay (closed_group e s) = both-close (copies-vote e) (words-stay s)
  words-stay (open_group l h) = both-open h refl

-- ---- the kept copies

-- a byte outside a group has no copy
outer_aside : (f : Group → List ℕ) → f fill ≡ [] → ((b : ℕ) → f (stray b) ≡ []) → (b : ℕ) → (b ≡ SYNC → ⊥) → (bs : List ℕ)
    → concat_map f (groups (b ∷ bs)) ≡ concat_map f (groups bs)
outer_aside f of_fill of_stray b h bs = go (outside b) refl (value-is b)
  where
    go : (k : Outside) → outside b ≡ k → b ≡ value_of k b → concat_map f (groups (b ∷ bs)) ≡ concat_map f (groups bs)
    go opening e v = absurd (h v)
    go filling e v = rw (e, groups, of_fill)
    go straying e v = rw (e, groups, of_stray b)

-- of a closed group its copy n is kept, of one not closed what it has so far, and of a byte outside none
record KeptFrom (kept : Group → List ℕ) (n : ℕ) : Type 0 where
  of_closed : (a b c : ℕ) → kept (closed a b c) ≡ copy_in n (closed a b c)
  of_fill : kept fill ≡ []
  of_stray : (b : ℕ) → kept (stray b) ≡ []

-- d and e are kept before: where the last closed groups have the same copy n, the same is kept after
keeps : {kept : Group → List ℕ} {n : ℕ} → KeptFrom kept n → {bs cs : List ℕ} (d e : ℕ) → CopyErrors bs cs
    → latest e (concat_map (copy_in n) (groups cs)) ≡ latest d (concat_map (copy_in n) (groups bs))
    → latest e (concat_map kept (groups cs)) ≡ latest d (concat_map kept (groups bs))
unfolding outside
keeps k d e at-end q = q
keeps {kept} {n} k d e (outer_byte {bs} {cs} b h s) q =
    let q' = rw (outer_aside (copy_in n) refl (λ b. refl) b h cs, outer_aside (copy_in n) refl (λ b. refl) b h bs) at q in
    rw (outer_aside kept k.of_fill k.of_stray b h cs, outer_aside kept k.of_fill k.of_stray b h bs) (keeps k d e s q')
keeps k d e (closed_group {a} {b} {c} {a'} {b'} {c'} r s) q = rw (k.of_closed a b c, k.of_closed a' b' c') (keeps k _ _ s q)
keeps {n} k d e (open_group l h) q =
    let before : e ≡ d = rw (open_groups l h) at q in
    rw before refl

-- the kept copies of a stream
pub first-kept : {bs cs : List ℕ} → CopyErrors bs cs → latest 0 (copies_at 1 cs) ≡ latest 0 (copies_at 1 bs)
    → latest 0 (concat_map first_in (groups cs)) ≡ latest 0 (concat_map first_in (groups bs))
unfolding copies_at
first-kept s q = keeps {kept = first_in} {n = 1} record { of_closed = λ a b c. refl; of_fill = refl; of_stray = λ b. refl } 0 0 s q

pub second-kept : {bs cs : List ℕ} → CopyErrors bs cs → latest 0 (copies_at 2 cs) ≡ latest 0 (copies_at 2 bs)
    → latest 0 (concat_map second_in (groups cs)) ≡ latest 0 (concat_map second_in (groups bs))
unfolding copies_at
second-kept s q = keeps {kept = second_in} {n = 2} record { of_closed = λ a b c. refl; of_fill = refl; of_stray = λ b. refl } 0 0 s q

-- ---- there are such changes

-- FILL and a stray byte open no group
opens_none : (b : ℕ) → (outside b ≡ opening → ⊥) → b ≡ SYNC → ⊥
unfolding outside
opens_none b h e = h (rw e refl)

no_stray : straying ≡ opening → ⊥
no_stray e = let z : ◌≡◌ {A = ℕ} 0 1 = cc in omega arith

-- what is changed group by group is changed in the stream
abbrev Laid : List ℕ → List Group → Type 0
Laid bs gs = (hs : List Group) → Paired GroupErrors gs hs → CopyErrors bs (concat_map bytes_of hs)

fill_laid : (bs : List ℕ) (gs : List Group) → Laid bs gs → Laid (FILL ∷ bs) (fill ∷ gs)
fill_laid bs gs rest hs (pair {m} (same_group g) p) = outer_byte FILL (λ e. omega arith) (rest m p)

stray_laid : (b : ℕ) (bs : List ℕ) (gs : List Group) → (b ≡ SYNC → ⊥) → Laid bs gs → Laid (b ∷ bs) (stray b ∷ gs)
stray_laid b bs gs h rest hs (pair {m} (same_group g) p) = outer_byte b h (rest m p)

mutual
  laid_out : (bs : List ℕ) → Laid bs (groups bs)
  laid_out [] hs no_pair = at-end
  laid_out (b ∷ bs) hs p = go (outside b) refl (value-is b) (λ hs p. laid_out bs hs p) (λ hs p. laid_copies bs hs p) hs p
    where
      go : (k : Outside) → outside b ≡ k → b ≡ value_of k b → Laid bs (groups bs) → Laid (SYNC ∷ bs) (copies bs) → Laid (b ∷ bs) (groups (b ∷ bs))
      go opening e v rest inside = rw (e, groups, v) inside
      go filling e v rest inside = rw (e, groups, v) (fill_laid bs (groups bs) rest)
      go straying e v rest inside = rw (e, groups) (stray_laid b bs (groups bs) (opens_none b (λ o. no_stray (sym e ∙ o))) rest)

  laid_copies : (bs : List ℕ) → Laid (SYNC ∷ bs) (copies bs)
  laid_copies [] hs (pair (same_group g) no_pair) = open_group [] (omega arith)
  laid_copies (a ∷ []) hs (pair (same_group g) no_pair) = open_group (a ∷ []) (omega arith)
  laid_copies (a ∷ b ∷ []) hs (pair (same_group g) no_pair) = open_group (a ∷ b ∷ []) (omega arith)
  laid_copies (a ∷ b ∷ c ∷ bs) hs (pair {m} (same_group g) p) = closed_group as_before (laid_out bs m p)
  laid_copies (a ∷ b ∷ c ∷ bs) hs (pair {m} (copies_become e) p) = closed_group e (laid_out bs m p)

all_same : (gs : List Group) → Paired GroupErrors gs gs
all_same [] = no_pair
all_same (g ∷ gs) = pair (same_group g) (all_same gs)

one-becomes : (before after : List Group) {a b c a' b' c' : ℕ} → Becomes a b c a' b' c'
    → Paired GroupErrors (before ++ closed a b c ∷ after) (before ++ closed a' b' c' ∷ after)
one-becomes [] after e = pair (copies_become e) (all_same after)
one-becomes (g ∷ before) after e = pair (same_group g) (one-becomes before after e)

module _ (bs : List ℕ) (before after : List Group) (x y : ℕ) (e : groups bs ≡ before ++ closed x x x ∷ after) where
  whole : with_group before (closed x x x) after ≡ bs
  whole = rw e at (groups_whole bs)

  may_become : {a b c : ℕ} → Becomes x x x a b c → CopyErrors (with_group before (closed x x x) after) (with_group before (closed a b c) after)
  may_become {a} {b} {c} r = rw whole (laid_out bs (before ++ closed a b c ∷ after) (rw e (one-becomes before after r)))

  each_copy : EachCopy before after x y
  each_copy = record { first_may = may_become (first_copy y); second_may = may_become (second_copy y); third_may = may_become (third_copy y) }

pub reach : CopyErrorsReach
reach = record {
  itself = λ bs. rw (groups_whole bs) at (laid_out bs (groups bs) (all_same (groups bs)));
  each_copy = λ bs before after x y e. (whole bs before after x y e, each_copy bs before after x y e);
}
