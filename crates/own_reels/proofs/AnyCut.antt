-- What lists of calls that lock on a frame's own sync hand in is what the whole reel says, byte by byte and shift by shift; so two of them that have taken the
-- same bytes leave the same. Assumes nothing.
use mathlib.Core.Path.{◌≡◌, refl, sym, ap, ◌∙◌}
use mathlib.Core.Bool.{Bool, true, false}
use mathlib.Core.List.{List, [], ◌∷◌, ◌++◌, map, append_assoc, append-nil, map-append}
use Prim.Native.Nat.{ℕ, zero, suc, ◌<◌}
use native.Mathlib.Nat.{zero-add}
use native.Mathlib.Omega.{arith}
use lib.Dec.{eqb-suc-zero}
use lib.ListN.{length, take}
use borrow.Author.Tests.{lt-ltb}
use Rattle.base.specs.Format.{SYNC}
use Rattle.labelling.specs.declared.Tally.{Tally}
use Rattle.labelling.specs.declared.Word.{Word}
use Rattle.labelling.specs.Words.{outside, Vote, words}
use Rattle.labelling.specs.Votes.{rule_vote}
use Rattle.labelling.specs.MinorFrames.{is_word}
use Rattle.labelling.specs.Machine.{state_of, fresh}
use Rattle.labelling.specs.Order.{is_rule}
use Rattle.labelling.specs.Calls.{TakeCall, take_refusal, answer, taken, Call, takes, changes, joined, stamped, last_duty}
use Rattle.labelling.proofs.Feeding.{inv_decides}
use Rattle.labelling.proofs.CallLaws.{refused-taken, accepted-extent}
use Rattle.labelling.proofs.Shifts.{joined-stamped}
use Rattle.own_sync.specs.Locks.{to_lock}
use Rattle.own_sync.specs.OwnCut.{own_found}
use Rattle.own_sync.specs.Relocking.{lead_in_bytes, lead_in, after_lead_in, OtherWord, other_word}
use Rattle.own_sync.specs.Relocking.{Relocked, done, refused, changed, takes_on, leads_in}
use Rattle.own_sync.specs.OwnOnce.{OwnOnce}
use Rattle.own_sync.proofs.Locks.{up_prefix, part-accepted}
use Rattle.own_sync.proofs.OpenGroup.{four-each}
use Rattle.own_sync.proofs.Beside.{found-now}
use Rattle.own_sync.proofs.Relocking.{Stands, stands_changed, stands_on, awaiting, lead_is, stands_led, took_all, start-stands, own-once}
use Rattle.own_reels.specs.HandedIn.{nowhere, at_first, lead_ins, inserted, handed_in}
use Rattle.own_reels.specs.AnyCut.{own_stamped, NoneNamed, SameLeft, AnyCut}
use Rattle.own_reels.proofs.Finding.{found_at-lock, found-more, awaits_now}
use Rattle.own_reels.proofs.Marks.{inserted-none, unmarked, marked}

-- ---- stamped bytes

-- on the duty of k
abbrev on_duty : ℕ → List ℕ → List (ℕ × ℕ)
on_duty k bs = map (λ b. (b, k)) bs

-- the lead-in is handed on the duty of whoever takes the byte behind it
abbrev lead_stamped : (ℕ × ℕ) → List (ℕ × ℕ)
lead_stamped x = on_duty x.1 lead_in_bytes

abbrev bytes_of : List (ℕ × ℕ) → List ℕ
bytes_of xs = map (λ x. x.0) xs

unstamped : (k : ℕ) (l : List ℕ) → bytes_of (on_duty k l) ≡ l
unstamped k [] = refl
unstamped k (b ∷ l) = ap (λ (r : List ℕ). b ∷ r) (unstamped k l)

inserted-bytes : (ms : List Bool) (xs : List (ℕ × ℕ)) → bytes_of (inserted lead_stamped ms xs) ≡ inserted (λ b. lead_in_bytes) ms (bytes_of xs)
inserted-bytes [] xs = refl
inserted-bytes (m ∷ ms) [] = refl
inserted-bytes (true ∷ ms) (x ∷ xs) = rw (inserted-bytes ms xs)
inserted-bytes (false ∷ ms) (x ∷ xs) = rw (inserted-bytes ms xs)

-- the reel's bytes are those of the reel
own-bytes : {w w' : Bool} {t t' : Tally} {a a' bs : List ℕ} {cs : List Call} {n : ℕ} (k : ℕ) (h : Relocked w t a bs cs w' t' a' n)
    → bytes_of (own_stamped k h) ≡ bs
own-bytes k done = refl
own-bytes k (refused c m e h) = own-bytes k h
own-bytes k (changed d e h) = own-bytes d.operator h
own-bytes k (takes_on w c e f h) =
    let y = taken (to_lock c) in
    map-append (λ (x : ℕ × ℕ). x.0) (on_duty k y) (own_stamped k h) ∙ rw (unstamped k y, own-bytes k h)
own-bytes k (leads_in c e f z o h) =
    let y = taken (to_lock (after_lead_in c)) in
    map-append (λ (x : ℕ × ℕ). x.0) (on_duty k y) (own_stamped k h) ∙ rw (unstamped k y, own-bytes k h)

-- where no call names an operator, all are taken on one duty
one-duty : {w w' : Bool} {t t' : Tally} {a a' bs : List ℕ} {cs : List Call} {n : ℕ} (h : Relocked w t a bs cs w' t' a' n) → NoneNamed cs
    → (own_stamped 0 h ≡ on_duty 0 bs) × (last_duty 0 cs ≡ 0)
one-duty done q = (refl, refl)
one-duty (refused (takes c) m e h) q = one-duty h q
one-duty (refused (changes d) m e h) q = absurd q
one-duty (changed d e h) q = absurd q
one-duty (takes_on w c e f h) q =
    let r = one-duty h q in
    (rw r.0 (sym (map-append (λ (b : ℕ). (b, 0)) (taken (to_lock c)) _)), r.1)
one-duty (leads_in c e f z o h) q =
    let r = one-duty h q in
    (rw r.0 (sym (map-append (λ (b : ℕ). (b, 0)) (taken (to_lock (after_lead_in c))) _)), r.1)

-- ---- the call after a lead-in takes the whole group

taken-prefix : (c : TakeCall) → take_refusal c ≡ 0 → taken (to_lock c) ≡ take (answer (to_lock c)).taken c.piece
unfolding taken
taken-prefix c e =
    up_prefix (rule_vote c.tally.rule) true c.piece (state_of c.tally) c.area (answer (to_lock c)).taken
    (accepted-extent (to_lock c) (part-accepted c e)).within

no_words : (vote : Vote) (ys : List ℕ) → length ys < 4 → words vote ys ≡ []
no_words vote ys h = go (words vote ys) (omega (arith, four-each vote ys))
  where
    go : (ws : List Word) → length ws ≡ 0 → ws ≡ []
    go [] e = refl
    go (w ∷ ws) e = absurd (omega arith)

-- a part of the bytes that has a word has the group
other-part : {vote : Vote} {ys : List ℕ} (k : ℕ) → OtherWord vote ys → (words vote (take k ys) ≡ [] → ⊥) → OtherWord vote (take k ys)
unfolding words
other-part zero (other_word x y z e) h = absurd (h refl)
other-part {vote} (suc zero) (other_word x y z e) h = absurd (h (no_words vote (SYNC ∷ []) (omega arith)))
other-part {vote} (suc (suc zero)) (other_word x y z e) h = absurd (h (no_words vote (SYNC ∷ x ∷ []) (omega arith)))
other-part {vote} (suc (suc (suc zero))) (other_word x y z e) h = absurd (h (no_words vote (SYNC ∷ x ∷ y ∷ []) (omega arith)))
other-part (suc (suc (suc (suc k)))) (other_word x y z e) h = other_word x y z e

module _ (rule : ℕ) (a₀ : List ℕ) where
  abbrev vote : Vote
  vote = rule_vote rule

  -- ---- what calls add to the reel and to the bytes handed in

  -- behind the bytes xs of the reel, the calls have taken `all`, of which `own` are the reel's bytes bs
  record Led (xs bs : List ℕ) (all own : List (ℕ × ℕ)) : Type 0 where
    marks : List Bool
    marks_are : lead_ins vote (xs ++ bs) ≡ lead_ins vote xs ++ marks
    all-is : all ≡ inserted lead_stamped marks own

  led_none : (xs : List ℕ) → Led xs [] [] []
  led_none xs = record { marks = []; marks_are = rw (append-nil xs) (sym (append-nil (lead_ins vote xs))); all-is = refl }

  -- bytes with these marks, and then others
  marks_on : (xs ys bs : List ℕ) (ms ns : List Bool) → lead_ins vote (xs ++ ys) ≡ lead_ins vote xs ++ ms
      → lead_ins vote ((xs ++ ys) ++ bs) ≡ lead_ins vote (xs ++ ys) ++ ns
      → lead_ins vote (xs ++ (ys ++ bs)) ≡ lead_ins vote xs ++ (ms ++ ns)
  marks_on xs ys bs ms ns e f =
      ap (lead_ins vote) (sym (append_assoc xs ys bs)) ∙ f ∙ ap (λ (l : List Bool). l ++ ns) e ∙ append_assoc (lead_ins vote xs) ms ns

  led_on : {bs : List ℕ} {all own : List (ℕ × ℕ)} (k : ℕ) (xs ys : List ℕ) → own_found (words vote (xs ++ ys)) ≡ own_found (words vote xs)
      → Led (xs ++ ys) bs all own → Led xs (ys ++ bs) (on_duty k ys ++ all) (on_duty k ys ++ own)
  led_on {bs} {all} {own} k xs ys e r = record {
    marks = nowhere ys ++ r.marks;
    marks_are = marks_on xs ys bs (nowhere ys) r.marks (unmarked vote xs ys e) r.marks_are;
    all-is = rw r.all-is (sym (inserted-none lead_stamped r.marks (λ (b : ℕ). (b, k)) ys own));
  }

  -- a group whose word finds a frame, where none is open
  module _ (xs : List ℕ) (none_open : (zs : List ℕ) → words vote (xs ++ zs) ≡ words vote xs ++ words vote zs)
      (finds : (w : Word) → is_word 0xfa w ≡ false → own_found (words vote xs) < own_found (words vote xs ++ w ∷ [])) where
    marked_other : {ys : List ℕ} → OtherWord vote ys → own_found (words vote (xs ++ ys)) ≡ suc (own_found (words vote xs))
        → lead_ins vote (xs ++ ys) ≡ lead_ins vote xs ++ at_first true ys
    unfolding words outside
    marked_other (other_word {rest} x y z e) f =
        let four = SYNC ∷ x ∷ y ∷ z ∷ [] in
        let w = vote x y z in
        let more : own_found (words vote xs) < own_found (words vote xs ++ w ∷ []) = finds w e in
        let now = marked vote xs none_open x y z (lt-ltb (own_found (words vote xs)) (own_found (words vote xs ++ w ∷ [])) more) in
        let at-four : words vote (xs ++ four) ≡ words vote xs ++ w ∷ [] = none_open four in
        let whole : words vote (xs ++ (four ++ rest)) ≡ (words vote xs ++ w ∷ []) ++ words vote rest =
        none_open (four ++ rest) ∙ sym (append_assoc (words vote xs) (w ∷ []) (words vote rest)) in
        let no_more : own_found (words vote ((xs ++ four) ++ rest)) ≡ own_found (words vote (xs ++ four)) =
        omega (
          arith,
          ap (λ (l : List ℕ). own_found (words vote l)) (append_assoc xs four rest),
          ap own_found at-four,
          ap own_found whole,
          f,
          more,
          found-more (words vote xs ++ w ∷ []) (words vote rest),
        ) in
        ap (lead_ins vote) (sym (append_assoc xs four rest)) ∙ unmarked vote (xs ++ four) rest no_more
        ∙ ap (λ (l : List Bool). l ++ nowhere rest) now ∙ append_assoc (lead_ins vote xs) (at_first true four) (nowhere rest)

    led_other : {bs : List ℕ} {all own : List (ℕ × ℕ)} (k : ℕ) {ys : List ℕ} → OtherWord vote ys
        → own_found (words vote (xs ++ ys)) ≡ suc (own_found (words vote xs)) → Led (xs ++ ys) bs all own
        → Led xs (ys ++ bs) (on_duty k lead_in_bytes ++ (on_duty k ys ++ all)) (on_duty k ys ++ own)
    led_other {bs} {all} {own} k {ys} o f r = record {
      marks = at_first true ys ++ r.marks;
      marks_are = marks_on xs ys bs (at_first true ys) r.marks (marked_other o f) r.marks_are;
      all-is = rw r.all-is (before o);
    }
      where
        before : {ys : List ℕ} → OtherWord vote ys
            → on_duty k lead_in_bytes ++ (on_duty k ys ++ inserted lead_stamped r.marks own)
            ≡ inserted lead_stamped (at_first true ys ++ r.marks) (on_duty k ys ++ own)
        before (other_word {rest} x y z e) =
            ap (λ (l : List (ℕ × ℕ)). on_duty k lead_in_bytes ++ ((SYNC, k) ∷ l))
            (sym (inserted-none lead_stamped r.marks (λ (b : ℕ). (b, k)) (x ∷ y ∷ z ∷ rest) own))

  -- ---- a list of calls

  -- how many frames are found where calls stand
  found_at : {w : Bool} {t : Tally} {a js xs : List ℕ} {m : ℕ} → Stands rule a₀ w t a js xs m → m ≡ own_found (words vote xs)
  found_at i = found-now i.along.beside i.settled

  -- the lead-in, and the call behind it
  module _ {js xs : List ℕ} {m : ℕ} (c : TakeCall) (e : take_refusal (lead_in c) ≡ 0) (f : take_refusal (after_lead_in c) ≡ 0) (z : c.tally.groups.«open» ≡ 0)
      (o : OtherWord (rule_vote c.tally.rule) c.piece) (i : Stands rule a₀ true c.tally c.area js xs m) where
    abbrev y : List ℕ
    y = taken (to_lock (after_lead_in c))

    none_open : (zs : List ℕ) → words vote (xs ++ zs) ≡ words vote xs ++ words vote zs
    none_open zs = rw z at (i.along.pending zs)

    one_found : own_found (words vote (xs ++ y)) ≡ suc (own_found (words vote xs))
    one_found = omega (arith, found_at i, found_at (stands_led rule a₀ c e f z o i))

    other : OtherWord vote y
    other =
        let d = after_lead_in c in
        let part = taken-prefix d f in
        let some : words vote (take (answer (to_lock d)).taken c.piece) ≡ [] → ⊥ =
        λ none. absurd (omega (
          arith,
          one_found,
          ap own_found (none_open y ∙ ap (λ (l : List Word). words vote xs ++ l) (ap (words vote) part ∙ none)
              ∙ append-nil (words vote xs)),
        )) in
        rw part (other-part (answer (to_lock d)).taken (rw i.rule_is at o) some)

    finds : (w : Word) → is_word 0xfa w ≡ false → own_found (words vote xs) < own_found (words vote xs ++ w ∷ [])
    finds w h = omega (arith, found_at i, found_at-lock w h (awaiting rule a₀ c e f z o i).beside)

    led_in : {bs : List ℕ} {all own : List (ℕ × ℕ)} (k : ℕ) → Led (xs ++ y) bs all own
        → Led xs (y ++ bs) (on_duty k (taken (lead_in c)) ++ (on_duty k y ++ all)) (on_duty k y ++ own)
    led_in k r = rw (lead_is rule a₀ c e f z o i) (led_other xs none_open finds k other one_found r)

  led_all : {w w' : Bool} {t t' : Tally} {a a' bs : List ℕ} {cs : List Call} {n : ℕ} (h : Relocked w t a bs cs w' t' a' n) (k : ℕ) (js xs : List ℕ) (m : ℕ)
      → Stands rule a₀ w t a js xs m → Led xs bs (stamped k cs) (own_stamped k h)
  led_all done k js xs m i = led_none xs
  led_all (refused (takes c) l e h) k js xs m i = rw (refused-taken c l e) (led_all h k js xs m i)
  led_all (refused (changes d) l e h) k js xs m i = rw (e, eqb-suc-zero) (led_all h k js xs m i)
  led_all (changed d e h) k js xs m i = rw e (led_all h d.operator js xs m (stands_changed rule a₀ d e i))
  led_all (takes_on w c e f h) k js xs m i =
      let next = stands_on rule a₀ w c e f i in
      led_on k xs (taken (to_lock c)) (sym (found_at next) ∙ found_at i) (led_all h k _ _ m next)
  led_all (leads_in c e f z o h) k js xs m i = led_in c e f z o i k (led_all h k _ _ (suc m) (stands_led rule a₀ c e f z o i))

-- ---- the claim

-- what one list of calls has come to
record Come (rule : ℕ) {a₀ bs : List ℕ} {w : Bool} {t : Tally} {a : List ℕ} {cs : List Call} {n : ℕ}
    (h : Relocked false (fresh rule) a₀ bs cs w t a n) : Type 0 where
  stamped_is : stamped 0 cs ≡ inserted lead_stamped (lead_ins (rule_vote rule) bs) (own_stamped 0 h)
  joined_is : joined cs ≡ handed_in (rule_vote rule) bs
  stands : Stands rule a₀ w t a (joined cs) bs n
  own : OwnOnce rule a₀ bs cs t a n

no_marks : (vote : Vote) → lead_ins vote [] ≡ []
unfolding lead_ins
no_marks vote = refl

module _ (rule : ℕ) (is_rule_fact : is_rule rule ≡ true) {a₀ : List ℕ} (whole : length a₀ ≡ 16384) where
  come : {bs : List ℕ} {w : Bool} {t : Tally} {a : List ℕ} {cs : List Call} {n : ℕ} (h : Relocked false (fresh rule) a₀ bs cs w t a n) → Come rule h
  unfolding handed_in
  come {bs} {cs = cs} {n = n} h =
      let begun = start-stands rule a₀ is_rule_fact whole in
      let r = led_all rule a₀ h 0 [] [] 0 begun in
      let marks : lead_ins (rule_vote rule) bs ≡ r.marks = r.marks_are ∙ ap (λ (l : List Bool). l ++ r.marks) (no_marks (rule_vote rule)) in
      let all : stamped 0 cs ≡ inserted lead_stamped (lead_ins (rule_vote rule) bs) (own_stamped 0 h) = rw marks r.all-is in
      record {
        stamped_is = all;
        joined_is = joined-stamped 0 cs ∙ ap bytes_of all ∙ inserted-bytes (lead_ins (rule_vote rule) bs) (own_stamped 0 h)
            ∙ ap (inserted (λ b. lead_in_bytes) (lead_ins (rule_vote rule) bs)) (own-bytes 0 h);
        stands = rw (zero-add n) at (took_all rule a₀ h [] [] 0 begun).stands;
        own = own-once rule a₀ is_rule_fact whole h;
      }

  module _ {bs : List ℕ} {w v : Bool} {t u : Tally} {a b : List ℕ} {cs ds : List Call} {n m : ℕ} (h : Relocked false (fresh rule) a₀ bs cs w t a n)
      (g : Relocked false (fresh rule) a₀ bs ds v u b m) where
    at-h : Come rule h
    at-h = come h

    at_g : Come rule g
    at_g = come g

    joined_same : joined ds ≡ joined cs
    joined_same = at_g.joined_is ∙ sym at-h.joined_is

    left : (state_of u ≡ state_of t) × (b ≡ a)
    left = inv_decides (rule_vote rule) a₀ (rw joined_same at at_g.stands.along.inv) at-h.stands.along.inv

    tally_same : own_stamped 0 g ≡ own_stamped 0 h → last_duty 0 ds ≡ last_duty 0 cs → u ≡ t
    tally_same e f =
        let same : stamped 0 ds ≡ stamped 0 cs = at_g.stamped_is ∙ ap (inserted lead_stamped (lead_ins (rule_vote rule) bs)) e ∙ sym at-h.stamped_is in
        (at-h.own.once.decided ds u b at_g.own.handed same f).0

    same_left : SameLeft rule h g
    same_left = record {
      state_same = left.0;
      rule_same = at_g.stands.rule_is ∙ sym at-h.stands.rule_is;
      awaits_same =
          sym at_g.stands.awaits_is ∙ sym (awaits_now at_g.stands.stage at_g.stands.settled at_g.stands.along.beside)
          ∙ awaits_now at-h.stands.stage at-h.stands.settled at-h.stands.along.beside ∙ at-h.stands.awaits_is;
      lead_ins_same = at_g.own.lead_ins_are ∙ sym at-h.own.lead_ins_are;
      area_same = left.1;
      joined_same = joined_same;
      paid-same = at_g.own.paid-is ∙ sym at-h.own.paid-is;
      tally_same = tally_same;
      one_shift = λ p q.
          let r = one-duty h p in
          let s = one-duty g q in
          tally_same (s.0 ∙ sym r.0) (s.1 ∙ sym r.1);
    }

  pub any_cut : {bs : List ℕ} {w : Bool} {t : Tally} {a : List ℕ} {cs : List Call} {n : ℕ} (h : Relocked false (fresh rule) a₀ bs cs w t a n) → AnyCut rule h
  any_cut h =
      let x = come h in
      record {
        joined_is = x.joined_is;
        counts = rw x.joined_is at x.own.once.counts;
        rest = rw x.joined_is at x.own.once.rest;
        awaits_is = sym x.stands.awaits_is ∙ sym (awaits_now x.stands.stage x.stands.settled x.stands.along.beside);
        same_left = λ g. same_left h g;
      }
