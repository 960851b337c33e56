-- The claim about every list of calls that locks on a frame's own sync: the two lists of words go side by side through its calls, a refused one changes
-- nothing, and one that names an operator nothing of the state. Assumes nothing.
use mathlib.Core.Path.{◌≡◌, refl, sym, ap, ap₂, ◌∙◌}
use mathlib.Core.Bool.{Bool, true, false, ◌||◌, true≢false, or-false}
use mathlib.Core.List.{List, [], ◌∷◌, ◌++◌, append_assoc, append-nil, map-append}
use Prim.Native.Nat.{ℕ, suc, ◌+◌, ◌*◌, ◌<◌}
use native.Mathlib.Nat.{add-zero, zero-add, add-suc, suc-add}
use native.Mathlib.Omega.{arith}
use lib.Dec.{ltb}
use lib.ListN.{length, take, length-append}
use lib.Seq.{take_all, length-take-le}
use borrow.Author.Tests.{lt-ltb, le-ltb}
use Rattle.base.specs.Lists.{concat_map, sum_by, one}
use Rattle.labelling.specs.declared.FrameClass.TheVariants.{Good, Damaged, Unsynced}
use Rattle.labelling.specs.declared.Tally.{Tally}
use Rattle.labelling.specs.declared.Word.{Word}
use Rattle.labelling.specs.Words.{outside, Vote, words}
use Rattle.labelling.specs.Votes.{rule_vote}
use Rattle.labelling.specs.MinorFrames.{frames, classed}
use Rattle.labelling.specs.MajorFrames.{values, majors, runs, in_broken, in_loose, in_building, stored, put_frames}
use Rattle.labelling.specs.Machine.{state_of, fresh}
use Rattle.labelling.specs.Order.{is_rule}
use Rattle.labelling.specs.Calls.{TakeCall, take_refusal, Answer, progress_of, answer, taken, DutyCall, duty_refusal, duty_answer}
use Rattle.labelling.specs.Calls.{Call, takes, changes, refusal_of, joined, paid, Handed}
use Rattle.labelling.specs.Calls as calls
use Rattle.labelling.specs.Once.{frames_in, majors_in, Once}
use Rattle.labelling.proofs.Votes.{unanimous}
use Rattle.labelling.proofs.Feeding.{WholeInv, FedRight, feed-right}
use Rattle.labelling.proofs.CallLaws.{refused-taken, accepted-under, accepted-extent, accepted-rule, duty_accepted, duty_rule}
use Rattle.labelling.proofs.Demand.{once}
use Rattle.own_sync.specs.Locks.{to_lock}
use Rattle.own_sync.specs.OwnCut.{ends_behind, own_frames, own_found}
use Rattle.own_sync.specs.Recovery.{bytes_in}
use Rattle.own_sync.specs.Relocking.{open_group, words_next, locked, awaits_after, lead_in_bytes, lead_in, after_lead_in, OtherWord, other_word}
use Rattle.own_sync.specs.Relocking.{Relocked, done, refused, changed, takes_on, leads_in}
use Rattle.own_sync.specs.OwnOnce.{OwnOnce}
use Rattle.own_sync.proofs.Locks.{part-accepted}
use Rattle.own_sync.proofs.OwnCuts.{sync, own-each_word}
use Rattle.own_sync.proofs.OpenGroup.{pending_of, four-each}
use Rattle.own_sync.proofs.Beside.{Stage, in_hunt, in_frame, at-lock, led_in, Settled, is_at_lock, same-frames, found-now, led, few_close_none}
use Rattle.own_sync.proofs.Recovery.{led_majors, led_found, begun-majors, begun-found, damaged-majors}
use Rattle.own_sync.proofs.Along.{Ahead, Along, along_start, none-complete, Part, fed-part}

-- they are calls of demand 3's lists
pub relocked_handed : {w w' : Bool} {t t' : Tally} {a a' bs : List ℕ} {cs : List Call} {n : ℕ} → Relocked w t a bs cs w' t' a' n → Handed t a cs t' a'
relocked_handed done = calls.done
relocked_handed (refused c m e h) = calls.refused c m e (relocked_handed h)
relocked_handed (changed d e h) = calls.changed d e (relocked_handed h)
relocked_handed (takes_on w c e f h) = calls.accepted (to_lock c) (part-accepted c e) (relocked_handed h)
relocked_handed (leads_in c e f z o h) =
    calls.accepted (lead_in c) e (calls.accepted (to_lock (after_lead_in c)) (part-accepted (after_lead_in c) f) (relocked_handed h))

-- without a lead-in the bytes joined are the reel's
relocked_joined : {w w' : Bool} {t t' : Tally} {a a' bs : List ℕ} {cs : List Call} {n : ℕ} → Relocked w t a bs cs w' t' a' n → n ≡ 0 → joined cs ≡ bs
unfolding joined
relocked_joined done z = refl
relocked_joined (refused (takes c) m e h) z = rw (refused-taken c m e) (relocked_joined h z)
relocked_joined (refused (changes d) m e h) z = relocked_joined h z
relocked_joined (changed d e h) z = relocked_joined h z
relocked_joined (takes_on w c e f h) z = ap (λ (l : List ℕ). taken (to_lock c) ++ l) (relocked_joined h z)
relocked_joined (leads_in c e f o x h) z = absurd (omega arith)

-- a hunt ended or not
locked-is : (m n : ℕ) (b : Bool) → n ≡ m + one b → ltb m n ≡ b
locked-is m n true e = lt-ltb m n (omega arith)
locked-is m n false e = le-ltb m n (omega arith)

-- what is left of a list without its head
cancel : (l : List Word) {m n : List Word} → l ++ m ≡ l ++ n → m ≡ n
cancel [] e = e
cancel (w ∷ l) e = cancel l (ap tail e)
  where
    tail : List Word → List Word
    tail [] = []
    tail (w ∷ l) = l

-- a group whose word is not FA
other-ahead : {vote : Vote} {ys : List ℕ} → OtherWord vote ys → ends_behind (words vote ys) ≡ false
unfolding words outside
other-ahead (other_word x y z h) = h

module _ (rule : ℕ) (a₀ : List ℕ) where
  abbrev vote : Vote
  vote = rule_vote rule

  -- the tally t and the area a after the bytes js, of which bs are the reel's and n lead-ins the others; w says whether a lock awaits its word
  pub record Stands (w : Bool) (t : Tally) (a js bs : List ℕ) (n : ℕ) : Type 0 where
    pub rule_is : t.rule ≡ rule
    pub stage : Stage
    pub rest : List Word
    pub along : Along vote a₀ (state_of t) a js bs stage rest n
    pub settled : Settled stage
    pub awaits_is : is_at_lock stage ≡ w

  -- ---- a call as far as a lock

  module _ (c : TakeCall) (e : take_refusal c ≡ 0) (q : c.tally.rule ≡ rule) {js bs : List ℕ} {s : Stage} {p : List Word} {n : ℕ}
      (i : Along vote a₀ (state_of c.tally) c.area js bs s p n) where
    abbrev r : Answer
    r = answer (to_lock c)

    part-is : Ahead s (words_next c.tally c.piece)
        → Part vote a₀ (state_of c.tally) js bs s n c.piece (to_lock c).piece (progress_of r)
    unfolding words_next
    part-is h =
        rw (accepted-under (to_lock c) (part-accepted c e) q)
        (rw q (fed-part vote a₀ c.piece (state_of c.tally) c.area js bs s p n i (rw q at h)))

    after_call : Ahead s (words_next c.tally c.piece) → (w : Bool) → is_at_lock s ≡ w
        → Stands (awaits_after w c) r.tally r.area (js ++ taken (to_lock c)) (bs ++ taken (to_lock c)) n
    unfolding taken awaits_after locked words_next
    after_call h w z =
        let x = part-is h in
        record {
          rule_is = accepted-rule (to_lock c) (part-accepted c e) ∙ q;
          stage = x.stage;
          rest = x.rest;
          along = x.along;
          settled = x.settled;
          awaits_is = x.at-lock_is ∙ ap₂ (λ (l m : Bool). l || m) (sym (locked-is _ _ x.lock x.count)) (rw (z, ← q));
        }

  -- ---- a lead-in

  lead-words : (ys : List ℕ) → words vote (lead_in_bytes ++ ys) ≡ sync ++ words vote ys
  unfolding words outside
  lead-words ys = let u = unanimous rule in rw (u.all_three 0xfa, u.all_three 0xf3, u.all_three 0x20)

  lead-words_alone : words vote lead_in_bytes ≡ sync
  unfolding words outside
  lead-words_alone = let u = unanimous rule in rw (u.all_three 0xfa, u.all_three 0xf3, u.all_three 0x20)

  module _ (c : TakeCall) (e : take_refusal (lead_in c) ≡ 0) (q : c.tally.rule ≡ rule) (z : c.tally.groups.«open» ≡ 0)
      {js bs : List ℕ} {p : List Word} {n : ℕ} (i : Along vote a₀ (state_of c.tally) c.area js bs at-lock p n) where
    abbrev l : Answer
    l = answer (lead_in c)

    -- no group is open, so the words of what follows are added
    then_words : (ys : List ℕ) → words vote (js ++ ys) ≡ words vote js ++ words vote ys
    then_words ys = rw z at (pending_of vote i.inv.in_groups ys)

    -- the lead-in closes no frame
    no_frames : (ys : List ℕ) → length ys < 512 → frames_in vote (js ++ ys) ≡ frames_in vote js
    unfolding frames_in
    no_frames ys h = ap frames (then_words ys) ∙ few_close_none (words vote ys) (omega (arith, four-each vote ys)) i.beside

    right : FedRight vote a₀ js lead_in_bytes (progress_of l)
    right = rw (accepted-under (lead_in c) e q) (feed-right vote a₀ (state_of c.tally) c.area js lead_in_bytes i.inv)

    pub lead-quiet : l.complete ≡ false
    lead-quiet =
        let g = right.grown in
        let within = (accepted-extent (lead_in c) e).within in
        let few : length (take l.taken lead_in_bytes) < 512 = omega (arith, length-take-le l.taken lead_in_bytes within) in
        none-complete vote a₀ l.complete js (js ++ take l.taken lead_in_bytes) l.area g.new g.holds g.more (no_frames _ few)

    lead-whole : take l.taken lead_in_bytes ≡ lead_in_bytes
    lead-whole = take_all l.taken lead_in_bytes (omega (arith, (accepted-extent (lead_in c) e).takes_all lead-quiet))

    pub lead-taken : taken (lead_in c) ≡ lead_in_bytes
    unfolding taken
    lead-taken = lead-whole

    -- no group is open after it
    none_open : (ys : List ℕ) → words vote (open_group l.tally.groups ++ ys) ≡ words vote ys
    none_open ys = cancel (words vote (js ++ lead_in_bytes)) (sym (pending_of vote inv_after.in_groups ys) ∙ both)
      where
        inv_after : WholeInv vote a₀ (state_of l.tally) l.area (js ++ lead_in_bytes)
        inv_after = rw lead-whole at right.grown.inv

        both : words vote ((js ++ lead_in_bytes) ++ ys) ≡ words vote (js ++ lead_in_bytes) ++ words vote ys
        both =
            let js-lead : words vote (js ++ lead_in_bytes) ≡ words vote js ++ sync = then_words lead_in_bytes ∙ rw lead-words_alone in
            let lead-ys : words vote js ++ words vote (lead_in_bytes ++ ys) ≡ words vote js ++ (sync ++ words vote ys) = rw (lead-words ys) in
            ap (words vote) (append_assoc js lead_in_bytes ys) ∙ then_words (lead_in_bytes ++ ys) ∙ lead-ys
            ∙ sym (append_assoc (words vote js) sync (words vote ys)) ∙ ap (λ (x : List Word). x ++ words vote ys) (sym js-lead)

    after-lead : Along vote a₀ (state_of l.tally) l.area (js ++ lead_in_bytes) bs led_in p (suc n)
    after-lead = record {
      inv = rw lead-whole at right.grown.inv;
      pending = λ ys. rw z at (i.pending ys) ∙ ap (λ (x : List Word). words vote bs ++ x) (sym (none_open ys));
      beside = rw (then_words lead_in_bytes, lead-words_alone) (led i.beside);
    }

    lead-rule : l.tally.rule ≡ rule
    lead-rule = accepted-rule (lead_in c) e ∙ q

    -- the call after it, on a group whose word is another
    other-next : OtherWord vote c.piece → ends_behind (words_next l.tally c.piece) ≡ false
    unfolding words_next
    other-next o = rw (lead-rule, none_open c.piece) (other-ahead o)

    led_call : take_refusal (after_lead_in c) ≡ 0 → OtherWord vote c.piece
        → let d = after_lead_in c in
        Stands (locked d) (answer (to_lock d)).tally (answer (to_lock d)).area ((js ++ lead_in_bytes) ++ taken (to_lock d)) (bs ++ taken (to_lock d)) (suc n)
    unfolding awaits_after
    led_call f o =
        let d = after_lead_in c in
        let x = after_call d f lead-rule after-lead (other-next o) false refl in
        rw (or-false (locked d)) at x

  -- ---- a list of calls

  -- after js and xs the calls cs, which take the bytes bs of the reel and n lead-ins, leave t and a
  pub record Took (w : Bool) (t : Tally) (a js xs bs : List ℕ) (cs : List Call) (m n : ℕ) : Type 0 where
    pub stands : Stands w t a (js ++ joined cs) (xs ++ bs) (m + n)
    length-is : length (joined cs) ≡ length bs + 12 * n

  -- what a lock may meet
  may_meet : (s : Stage) → Settled s → (w : Bool) → is_at_lock s ≡ w → (ws : List Word) → (w ≡ true → ends_behind ws ≡ true) → Ahead s ws
  may_meet in_hunt k w z ws h = tt
  may_meet (in_frame found) k w z ws h = tt
  may_meet at-lock k w z ws h = h (sym z)
  may_meet led_in k w z ws h = absurd k

  -- where a lock awaits its word
  awaits_at_lock : (s : Stage) → is_at_lock s ≡ true → s ≡ at-lock
  awaits_at_lock in_hunt e = absurd (true≢false (sym e))
  awaits_at_lock (in_frame found) e = absurd (true≢false (sym e))
  awaits_at_lock at-lock e = refl
  awaits_at_lock led_in e = absurd (true≢false (sym e))

  -- a refused call, and one that names an operator, take no bytes
  took_refused : {w : Bool} {t : Tally} {a js xs bs : List ℕ} {cs : List Call} {m n : ℕ} (c : Call) (k : ℕ) → refusal_of c ≡ suc k
      → Took w t a js xs bs cs m n → Took w t a js xs bs (c ∷ cs) m n
  unfolding joined
  took_refused (takes c) k e r = record { stands = rw (refused-taken c k e) r.stands; length-is = rw (refused-taken c k e) r.length-is }
  took_refused (changes d) k e r = record { stands = r.stands; length-is = r.length-is }

  took_changed : {w : Bool} {t : Tally} {a js xs bs : List ℕ} {cs : List Call} {m n : ℕ} (d : DutyCall)
      → Took w t a js xs bs cs m n → Took w t a js xs bs (changes d ∷ cs) m n
  unfolding joined
  took_changed d r = record { stands = r.stands; length-is = r.length-is }

  pub stands_changed : {w : Bool} {a js xs : List ℕ} {m : ℕ} (d : DutyCall) → duty_refusal d ≡ 0 → Stands w d.tally a js xs m
      → Stands w (duty_answer d) a js xs m
  stands_changed d e i = record {
    rule_is = duty_rule d e ∙ i.rule_is;
    stage = i.stage;
    rest = i.rest;
    along = rw (duty_accepted d e) i.along;
    settled = i.settled;
    awaits_is = i.awaits_is;
  }

  -- a call as far as a lock
  pub stands_on : {js xs : List ℕ} {m : ℕ} (w : Bool) (c : TakeCall) → take_refusal c ≡ 0 → (w ≡ true → ends_behind (words_next c.tally c.piece) ≡ true)
      → Stands w c.tally c.area js xs m
      → Stands (awaits_after w c) (answer (to_lock c)).tally (answer (to_lock c)).area (js ++ taken (to_lock c)) (xs ++ taken (to_lock c)) m
  stands_on w c e f i = after_call c e i.rule_is i.along (may_meet i.stage i.settled w i.awaits_is _ f) w i.awaits_is

  took_on : {w : Bool} {t : Tally} {a bs : List ℕ} {cs : List Call} {m n : ℕ} (js xs : List ℕ) (c : TakeCall)
      → Took w t a (js ++ taken c) (xs ++ taken c) bs cs m n → Took w t a js xs (taken c ++ bs) (takes c ∷ cs) m n
  unfolding joined
  took_on {bs = bs} {cs = cs} js xs c r = record {
    stands = rw (← append_assoc js (taken c) (joined cs), ← append_assoc xs (taken c) bs) r.stands;
    length-is = omega (arith, length-append (taken c) (joined cs), length-append (taken c) bs, r.length-is);
  }

  -- a lead-in
  module _ {js xs : List ℕ} {m : ℕ} (c : TakeCall) (e : take_refusal (lead_in c) ≡ 0) (f : take_refusal (after_lead_in c) ≡ 0) (z : c.tally.groups.«open» ≡ 0)
      (o : OtherWord (rule_vote c.tally.rule) c.piece) (i : Stands true c.tally c.area js xs m) where
    abbrev d : TakeCall
    d = after_lead_in c

    pub awaiting : Along vote a₀ (state_of c.tally) c.area js xs at-lock i.rest m
    awaiting = rw (awaits_at_lock i.stage i.awaits_is) at i.along

    pub lead_is : taken (lead_in c) ≡ lead_in_bytes
    lead_is = lead-taken c e i.rule_is z awaiting

    pub stands_led : Stands (locked d) (answer (to_lock d)).tally (answer (to_lock d)).area ((js ++ taken (lead_in c)) ++ taken (to_lock d))
        (xs ++ taken (to_lock d)) (suc m)
    stands_led = rw lead_is (led_call c e i.rule_is z awaiting f (rw i.rule_is at o))

    lead-length : length (taken (lead_in c)) ≡ 12
    lead-length = rw lead_is

  took_led : {w : Bool} {t : Tally} {a bs : List ℕ} {cs : List Call} {m n : ℕ} (js xs : List ℕ) (l c : TakeCall) → length (taken l) ≡ 12
      → Took w t a ((js ++ taken l) ++ taken c) (xs ++ taken c) bs cs (suc m) n → Took w t a js xs (taken c ++ bs) (takes l ∷ takes c ∷ cs) m (suc n)
  unfolding joined
  took_led {bs = bs} {cs = cs} {m = m} {n = n} js xs l c twelve r = record {
    stands = rw (
      ← append_assoc xs (taken c) bs,
      add-suc m n,
      ← suc-add m n,
      ← append_assoc js (taken l) (taken c ++ joined cs),
      ← append_assoc (js ++ taken l) (taken c) (joined cs),
    ) r.stands;
    length-is = omega (arith, length-append (taken l) (taken c ++ joined cs), length-append (taken c) (joined cs), length-append (taken c) bs, r.length-is);
  }

  took_none : {w : Bool} {t : Tally} {a : List ℕ} (js xs : List ℕ) (m : ℕ) → Stands w t a js xs m → Took w t a js xs [] [] m 0
  unfolding joined
  took_none js xs m i = record { stands = rw (append-nil js, append-nil xs, add-zero m) i; length-is = omega arith }

  pub took_all : {w w' : Bool} {t t' : Tally} {a a' bs : List ℕ} {cs : List Call} {n : ℕ} → Relocked w t a bs cs w' t' a' n → (js xs : List ℕ) (m : ℕ)
      → Stands w t a js xs m → Took w' t' a' js xs bs cs m n
  took_all done js xs m i = took_none js xs m i
  took_all (refused c k e h) js xs m i = took_refused c k e (took_all h js xs m i)
  took_all (changed d e h) js xs m i = took_changed d (took_all h js xs m (stands_changed d e i))
  took_all (takes_on w c e f h) js xs m i = took_on js xs (to_lock c) (took_all h _ _ m (stands_on w c e f i))
  took_all (leads_in c e f z o h) js xs m i =
      took_led js xs (lead_in c) (to_lock (after_lead_in c)) (lead-length c e f z o i) (took_all h _ _ (suc m) (stands_led c e f z o i))

  -- ---- the claim

  pub start-stands : is_rule rule ≡ true → length a₀ ≡ 16384 → Stands false (fresh rule) a₀ [] [] 0
  unfolding fresh
  start-stands is_rule_fact whole = record { rule_is = refl; stage = in_hunt; rest = []; along = along_start vote a₀ whole; settled = tt; awaits_is = refl }

  pub own-once : is_rule rule ≡ true → length a₀ ≡ 16384 → {w : Bool} {bs : List ℕ} {cs : List Call} {t : Tally} {a : List ℕ} {n : ℕ}
      → Relocked false (fresh rule) a₀ bs cs w t a n → OwnOnce rule a₀ bs cs t a n
  unfolding frames_in majors_in
  own-once is_rule_fact whole {w} {bs} {cs} {t} {a} {n} h = record {
    handed = handed;
    once = all;
    each_word = own-each_word (words vote bs);
    frames-are = same;
    paid-is = paid-now;
    counts = record {
      good-is = all.counts.good-is ∙ ap (classed Good) same;
      damaged-is = all.counts.damaged-is ∙ ap (classed Damaged) same;
      unsynced_is = all.counts.unsynced_is ∙ ap (classed Unsynced) same;
      majors-is = all.counts.majors-is ∙ ap (λ (fs : List (List Word)). length (majors fs)) same;
      broken_is = all.counts.broken_is ∙ ap (λ (fs : List (List Word)). sum_by in_broken (runs fs)) same;
      loose_is = all.counts.loose_is ∙ ap (λ (fs : List (List Word)). sum_by in_loose (runs fs)) same;
      building_is = all.counts.building_is ∙ ap (λ (fs : List (List Word)). sum_by in_building (runs fs)) same;
      area_is = all.area_is ∙ ap (λ (fs : List (List Word)). put_frames a₀ (concat_map stored (runs fs))) same;
    };
    lead_ins_are = found;
    bytes_are = all.counts.bytes_is ∙ r.length-is;
    unled = unled;
    recovers = record {
      after_lead_in_fact = λ m ms tail e v few.
          let none : n ≡ 0 = found ∙ ap own_found e ∙ led_found m ms tail v few in
          (none, unled none, paid-now ∙ ap paid_frames e ∙ ap bytes_in (led_majors m ms tail v few));
      begun_anywhere = λ q m ms tail e clear v plain few.
          let one : n ≡ 1 = found ∙ ap own_found e ∙ begun-found m ms tail v few q clear plain in
          (one, paid-now ∙ ap paid_frames e ∙ ap bytes_in (begun-majors m ms tail v few q clear plain));
      after_damage = λ d m ms tail e v conform few.
          let x = damaged-majors m ms tail v conform few d in
          (bytes_in x.0, paid-now ∙ ap paid_frames e ∙ ap bytes_in x.1 ∙ map-append (concat_map values) x.0 ms);
    };
  }
    where
      handed : Handed (fresh rule) a₀ cs t a
      handed = relocked_handed h

      all : Once rule a₀ cs t a
      all = once rule is_rule_fact a₀ whole cs t a handed

      r : Took w t a [] [] bs cs 0 n
      r = took_all h [] [] 0 (start-stands is_rule_fact whole)

      stands : Stands w t a (joined cs) bs (0 + n)
      stands = r.stands

      same : frames_in vote (joined cs) ≡ own_frames (words vote bs)
      same = same-frames stands.along.beside

      found : n ≡ own_found (words vote bs)
      found = sym (zero-add n) ∙ found-now stands.along.beside stands.settled

      -- the major frames of words, as their bytes
      paid_frames : List Word → List (List ℕ)
      paid_frames ws = bytes_in (majors (own_frames ws))

      paid-now : paid cs ≡ paid_frames (words vote bs)
      paid-now = all.paid-is ∙ rw same

      unled : n ≡ 0 → joined cs ≡ bs
      unled z = relocked_joined h z
