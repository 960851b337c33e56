-- What a voted stretch does to a state is what plain steps do, a byte at a time, under any vote that two equal copies decide: both rules are such
-- (02, request 6). Assumes nothing.
use mathlib.Core.Path.{◌≡◌, refl, ◌∙◌}
use mathlib.Core.Bool.{true, false, or-false}
use mathlib.Core.List.{List, [], ◌∷◌}
use Prim.Native.Nat.{ℕ, suc, ◌+◌, ◌*◌, ◌-◌, ◌≤◌, ◌<◌}
use native.Mathlib.Nat.{add-zero}
use native.Mathlib.Numerals.{add-one}
use native.Mathlib.Omega.{arith}
use lib.Dec.{eqb}
use lib.ListN.{length, get_or}
use borrow.Author.Tests.{ne_eqb, lt-ltb}
use Rattle.base.specs.Format.{sync_word}
use Rattle.base.specs.Lists.{one}
use Rattle.labelling.specs.declared.Groups.{Groups}
use Rattle.labelling.specs.declared.Word.TheVariants.{Voted}
use Rattle.labelling.specs.Words.{Vote}
use Rattle.labelling.specs.Votes.{Majority}
use Rattle.labelling.specs.Machine.{State, word_event, byte_step}
use Rattle.labelling.proofs.Votes.{same_word}
use Rattle.nominal.specs.Stretches.{last_place, NoneBegins, other}
use Rattle.nominal.specs.Effect.{Leads, PlainSteps, stays, byte, with_quiet, after_quiet}
use Rattle.nominal.proofs.Effect.{plain_join, opened, fill_byte, quiet_plain, group_opens, four-more}
use Rattle.quiet.proofs.Joining.{one-stray}
use Rattle.voted.specs.Copies.{Copies, IsVoted, word_of, words, weak_of, named, last_or}
use Rattle.voted.specs.Stretches.{Group, Decided, ends, fill, stray, group}
use Rattle.voted.specs.Effect.{held, with_voted, after_placed, after_hunted}
use Rattle.voted.proofs.Joining.{decided_far}

-- ---- the first layer, with no group; with FILL or a stray byte first; with a group first

voted_none : (g : Groups) → g ≡ with_voted g 0 0 []
voted_none g =
    rw (
      add-zero g.bytes,
      add-zero g.fill,
      add-zero g.stray,
      add-zero g.voted,
      add-zero g.weak.first,
      add-zero g.weak.second,
      add-zero g.weak.third,
    )

-- the copies that are held do not depend on a third one before them
last_first : (gs : List Copies) (d e : Copies) → d.first ≡ e.first → (last_or gs d).first ≡ (last_or gs e).first
last_first [] d e h = h
last_first (g ∷ gs) d e h = refl

last_second : (gs : List Copies) (d e : Copies) → d.second ≡ e.second → (last_or gs d).second ≡ (last_or gs e).second
last_second [] d e h = h
last_second (g ∷ gs) d e h = refl

-- a count of one group, and of more
more : (w k : ℕ) (x : Copies) (gs : List Copies) → w + named k (x ∷ []) + named k gs ≡ w + named k (x ∷ gs)
more w k x gs = omega arith

module _ (g : Groups) (m k : ℕ) (gs : List Copies) (h : 4 * length gs + k ≤ m) where
  voted_fill : with_voted (with_quiet g 1 0) m k gs ≡ with_voted g (1 + m) k gs
  voted_fill =
      let bytes : g.bytes + 1 + m ≡ g.bytes + (1 + m) = omega arith in
      let fills : g.fill + 1 + (m - 4 * length gs - k) ≡ g.fill + (1 + m - 4 * length gs - k) = omega arith in
      rw (bytes, fills, add-zero g.stray)

  voted_stray : with_voted (with_quiet g 1 1) m k gs ≡ with_voted g (1 + m) (k + 1) gs
  voted_stray =
      let bytes : g.bytes + 1 + m ≡ g.bytes + (1 + m) = omega arith in
      let fills : g.fill + 0 + (m - 4 * length gs - k) ≡ g.fill + (1 + m - 4 * length gs - (k + 1)) = omega arith in
      let strays : g.stray + 1 + k ≡ g.stray + (k + 1) = omega arith in
      rw (bytes, fills, strays)

  voted_group : (x : Copies) → with_voted (with_voted g 4 0 (x ∷ [])) m k gs ≡ with_voted g (4 + m) k (x ∷ gs)
  voted_group x =
      let bytes : g.bytes + 4 + m ≡ g.bytes + (4 + m) = omega arith in
      let fills : g.fill + 0 + (m - 4 * length gs - k) ≡ g.fill + (4 + m - 4 * suc (length gs) - k) = omega arith in
      let votes : g.voted + 1 + length gs ≡ g.voted + suc (length gs) = omega arith in
      let one_more = held (with_voted g 4 0 (x ∷ [])) in
      rw (
        bytes,
        fills,
        add-zero g.stray,
        votes,
        more g.weak.first 1 x gs,
        more g.weak.second 2 x gs,
        more g.weak.third 3 x gs,
        last_first gs one_more x refl,
        last_second gs one_more x refl,
      )

-- ---- a group

module _ {vote : Vote} {p a : List ℕ} (t : State) (closed : t.groups.«open» ≡ 0) where
  -- its third copy completes nothing
  group_closes : {i : ℕ} {x : Copies} {u : State} → Group p i x
      → ((b : ℕ) → b ≡ x.third → Leads vote a (opened t 3 3 x.first x.second) b u) → PlainSteps vote p a i t (i + 4) u
  group_closes {i} {u = u} g last =
      let four : i + 3 + 1 ≡ i + 4 = omega arith in
      plain_join (group_opens t closed g.sync g.first g.second)
      (byte {j = i + 4} {v = u} g.third.inside (last (get_or p (i + 3) 0) g.third.is) (rw four stays))

-- ---- a voted stretch

-- A way to take groups: `after` is the state after so many bytes with so many stray ones and these groups, and `Fits` says of which groups and
-- states.
record Way (vote : Vote) (a : List ℕ) (after : State → ℕ → ℕ → List Copies → State) (Fits : List Copies → State → Type 0) : Type 0 where
  closed : {gs : List Copies} {t : State} → Fits gs t → t.groups.«open» ≡ 0
  none_is : (t : State) → t ≡ after t 0 0 []
  fill_first : (t : State) (m k : ℕ) (gs : List Copies) → 4 * length gs + k ≤ m → after (after_quiet t 1 0) m k gs ≡ after t (1 + m) k gs
  stray_first : (t : State) (m k : ℕ) (gs : List Copies) → 4 * length gs + k ≤ m → after (after_quiet t 1 1) m k gs ≡ after t (1 + m) (k + 1) gs
  group_first : (t : State) (m k : ℕ) (x : Copies) (gs : List Copies) → 4 * length gs + k ≤ m
      → after (after t 4 0 (x ∷ [])) m k gs ≡ after t (4 + m) k (x ∷ gs)
  fits_quiet : {gs : List Copies} {t : State} (k : ℕ) → Fits gs t → Fits gs (after_quiet t 1 k)
  fits_group : {x : Copies} {gs : List Copies} {t : State} → Fits (x ∷ gs) t → Fits gs (after t 4 0 (x ∷ []))
  third : {x : Copies} {gs : List Copies} {t : State} → Fits (x ∷ gs) t → IsVoted x → (b : ℕ) → b ≡ x.third
      → Leads vote a (opened t 3 3 x.first x.second) b (after t 4 0 (x ∷ []))

module _ {vote : Vote} {p a : List ℕ} (after : State → ℕ → ℕ → List Copies → State) (Fits : List Copies → State → Type 0)
    (way : Way vote a after Fits) where
  decided_plain : {i j k : ℕ} {gs : List Copies} → Decided p i j k gs → (t : State) → Fits gs t → PlainSteps vote p a i t j (after t (j - i) k gs)
  decided_plain {i} ends t f = let z : i - i ≡ 0 = omega arith in rw (z, ← way.none_is t) stays
  decided_plain {i} {j} {k} {gs} (fill b n) t f =
      let far = decided_far n in
      let far-on : 1 + (j - (i + 1)) ≡ j - i = omega arith in
      let same : after (after_quiet t 1 0) (j - (i + 1)) k gs ≡ after t (j - i) k gs =
      way.fill_first t (j - (i + 1)) k gs (omega arith) ∙ rw far-on in
      let rest = decided_plain n (after_quiet t 1 0) (way.fits_quiet 0 f) in
      byte {v = after t (j - i) k gs} b.inside (fill_byte vote t a (way.closed f) (get_or p i 0) b.is) (rw same at rest)
  decided_plain {i} {j} {gs = gs} (stray {n = k} x b s z n) t f =
      let far = decided_far n in
      let one_on : i + 1 - i ≡ 1 = omega arith in
      let far-on : 1 + (j - (i + 1)) ≡ j - i = omega arith in
      let same : after (after_quiet t 1 1) (j - (i + 1)) k gs ≡ after t (j - i) (k + 1) gs =
      way.stray_first t (j - (i + 1)) k gs (omega arith) ∙ rw far-on in
      let one_byte : PlainSteps vote p a i t (i + 1) (after_quiet t 1 1) =
      rw one_on at (quiet_plain {vote = vote} {a = a} (one-stray b s z) t (way.closed f)) in
      plain_join one_byte (rw same at (decided_plain n (after_quiet t 1 1) (way.fits_quiet 1 f)))
  decided_plain {i} {j} {k} (group {gs = gs} x g v n) t f =
      let far = decided_far n in
      let u : State = after t 4 0 (x ∷ []) in
      let far-on : 4 + (j - (i + 4)) ≡ j - i = omega arith in
      let same : after u (j - (i + 4)) k gs ≡ after t (j - i) k (x ∷ gs) = way.group_first t (j - (i + 4)) k x gs (omega arith) ∙ rw far-on in
      plain_join (group_closes t (way.closed f) g (way.third f v)) (rw same at (decided_plain n u (way.fits_group f)))

-- ---- while words are placed, and while the sync is hunted

pub record Placing (gs : List Copies) (t : State) : Type 0 where
  pub closed : t.groups.«open» ≡ 0
  pub places : t.framing.hunting ≡ false
  pub room : t.framing.placed + length gs ≤ last_place

pub record Hunting (gs : List Copies) (t : State) : Type 0 where
  pub closed : t.groups.«open» ≡ 0
  pub hunts : t.framing.hunting ≡ true
  pub unmatched : t.framing.matched ≡ 0
  pub none_begins : NoneBegins (words gs)

none_after : {x : ℕ} {ws : List ℕ} → NoneBegins (x ∷ ws) → NoneBegins ws
none_after (other h n) = n

not_first : {x : ℕ} {ws : List ℕ} → NoneBegins (x ∷ ws) → x ≡ sync_word 0 → ⊥
not_first (other h n) = h

module _ {vote : Vote} (decides : Majority vote) (t : State) (a : List ℕ) (x : Copies) (gs : List Copies) (v : IsVoted x) where
  word-is : vote x.first x.second x.third ≡ Voted (word_of x)
  word-is = same_word decides x.first x.second x.third (word_of x) v

  placed-third : Placing (x ∷ gs) t → (b : ℕ) → b ≡ x.third → Leads vote a (opened t 3 3 x.first x.second) b (after_placed t 4 0 (x ∷ []))
  unfolding byte_step word_event
  placed-third f b e =
      let l : t.framing.placed < last_place = omega (arith, f.room) in
      let early = lt-ltb t.framing.placed last_place l in
      let whole = or-false t.framing.erasure in
      let g = t.groups in
      rw (
        e,
        word-is,
        f.places,
        early,
        whole,
        four-more g.bytes,
        add-zero g.fill,
        add-zero g.stray,
        add-zero (one (eqb (weak_of x) 1)),
        add-zero (one (eqb (weak_of x) 2)),
        add-zero (one (eqb (weak_of x) 3)),
        f.closed,
      )

  hunted_third : Hunting (x ∷ gs) t → (b : ℕ) → b ≡ x.third → Leads vote a (opened t 3 3 x.first x.second) b (after_hunted t 4 0 (x ∷ []))
  unfolding byte_step word_event
  hunted_third f b e =
      let unlike = ne_eqb (word_of x) (sync_word 0) (not_first f.none_begins) in
      let g = t.groups in
      rw (
        e,
        word-is,
        f.hunts,
        f.unmatched,
        unlike,
        four-more g.bytes,
        add-zero g.fill,
        add-zero g.stray,
        add-zero (one (eqb (weak_of x) 1)),
        add-zero (one (eqb (weak_of x) 2)),
        add-zero (one (eqb (weak_of x) 3)),
        f.closed,
      )

placing_way : {vote : Vote} → Majority vote → (a : List ℕ) → Way vote a after_placed Placing
placing_way decides a = record {
  closed = λ f. f.closed;
  none_is = λ t. rw (← voted_none t.groups, add-zero t.framing.placed);
  fill_first = λ t m k gs h. rw (voted_fill t.groups m k gs h);
  stray_first = λ t m k gs h. rw (voted_stray t.groups m k gs h);
  group_first = λ t m k x gs h.
      let places : t.framing.placed + 1 + length gs ≡ t.framing.placed + suc (length gs) = omega arith in
      rw (voted_group t.groups m k gs h x, places, add-one t.framing.placed);
  fits_quiet = λ k f. record { closed = f.closed; places = f.places; room = f.room };
  fits_group = λ f. record { closed = f.closed; places = f.places; room = omega (arith, f.room) };
  third = λ {x} {gs} {t} f v. placed-third decides t a x gs v f;
}

hunting_way : {vote : Vote} → Majority vote → (a : List ℕ) → Way vote a after_hunted Hunting
hunting_way decides a = record {
  closed = λ f. f.closed;
  none_is = λ t. rw (← voted_none t.groups, add-zero t.framing.hunted);
  fill_first = λ t m k gs h. rw (voted_fill t.groups m k gs h);
  stray_first = λ t m k gs h. rw (voted_stray t.groups m k gs h);
  group_first = λ t m k x gs h.
      let words : t.framing.hunted + 1 + length gs ≡ t.framing.hunted + suc (length gs) = omega arith in
      rw (voted_group t.groups m k gs h x, words);
  fits_quiet = λ k f. record { closed = f.closed; hunts = f.hunts; unmatched = f.unmatched; none_begins = f.none_begins };
  fits_group = λ f. record { closed = f.closed; hunts = f.hunts; unmatched = f.unmatched; none_begins = none_after f.none_begins };
  third = λ {x} {gs} {t} f v. hunted_third decides t a x gs v f;
}

module _ {vote : Vote} (decides : Majority vote) {p a : List ℕ} {i j k : ℕ} {gs : List Copies} (n : Decided p i j k gs) (t : State) where
  pub placed-plain : Placing gs t → PlainSteps vote p a i t j (after_placed t (j - i) k gs)
  placed-plain f = decided_plain after_placed Placing (placing_way decides a) n t f

  pub hunted_plain : Hunting gs t → PlainSteps vote p a i t j (after_hunted t (j - i) k gs)
  hunted_plain f = decided_plain after_hunted Hunting (hunting_way decides a) n t f
