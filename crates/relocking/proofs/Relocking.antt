-- What a step promises follows from what its calls promise. The move is read off the piece; a call as far as a lock takes its bytes from the piece; and
-- a lock that goes on waiting has met no word. Assumes nothing.
use Rattle.std.proofs.Common.{◌≡◌, refl, sym, ap, ◌∙◌, Bool, true, false, cond, ◌&&◌, ◌||◌, not, true≢false, List, [], ◌∷◌}
use Rattle.std.proofs.Common.{ℕ, suc, ◌+◌, ◌/◌, ◌^◌, ◌≤◌, ◌<◌, Result, Ok, Err, IsOkAnd}
use mathlib.Core.Bool.{or_comm}
use mathlib.Core.List.{append-nil}
use native.Mathlib.Omega.{arith}
use lib.Dec.{eqb, leb, ltb}
use lib.ListN.{length, take}
use lib.Seq.{take-take, length-take-le}
use borrow.Author.Tests.{lt-ltb, le-ltb, ltb-true, ltb-false, eqb-true, eq-eqb, ne_eqb, le-leb, leb-true, not-true, not-false}
use Rattle.base.specs.Lists.{one}
use Rattle.base.specs.declared.refusal.Refusal.{Refusal}
use Rattle.base.specs.Refusals.{number}
use Rattle.base.proofs.Lines.{positive}
use Rattle.labelling.specs.declared.Tally.{Tally}
use Rattle.labelling.specs.Votes.{rule_vote}
use Rattle.labelling.specs.Machine.{State, state_of}
use Rattle.labelling.specs.Order.{in_order}
use Rattle.labelling.specs.Calls.{TakeCall, take_refusal, Answer, feed, answer, taken, pays, takes, paid}
use Rattle.labelling.proofs.CallLaws.{no_refusal, accepted-answer, accepted-extent, accepted-bytes, answer-ordered}
use Rattle.labelling.proofs.Ordered.{Ordered, ordered, tally_ordered}
use Rattle.own_sync.specs.Locks.{locks, to_lock}
use Rattle.own_sync.specs.OwnCut.{ends_behind}
use Rattle.own_sync.specs.Relocking.{words_next, no_word, locked, awaits_after, lead_in_bytes, lead_in, OtherWord}
use Rattle.own_sync.specs.Relocking.{Relocked as RelockedCalls, done, takes_on, leads_in}
use Rattle.own_sync.proofs.Locks.{up_prefix, up_shorter, part-accepted}
use Rattle.reader.specs.declared.Locked.{Locked}
use Rattle.reader.specs.declared.Taken.{Taken}
use Rattle.reader.specs.Shapes.{call_of, answer_of, TakePromise, LockPromise}
use Rattle.relocking.specs.declared.Feeder.{Feeder}
use Rattle.relocking.specs.declared.Relocked.{Relocked}
use Rattle.relocking.specs.Relock.{stands_at_lock, feeder_in_order, relock_refusal, reads, asks, leads}
use Rattle.relocking.specs.Relock.{move, called, call_on, call_led, RelockPromise, Called, ReadsOn, LeadsIn}
use Rattle.feeding.proofs.CallLists.{paid-one, paid-none}
use Rattle.relocking.proofs.Waiting.{Waits, locked-waits, few_complete_none}

-- ---- the refusal

line_passed : (n : ℕ) (holds : Bool) (rest : ℕ) → cond holds (suc n) rest ≡ 0 → (holds ≡ false) × (rest ≡ 0)
line_passed n true rest e = absurd (omega arith)
line_passed n false rest e = (refl, e)

-- what an accepted step has shown
pub record Accepts (f : Feeder) (piece area : ℕ) : Type 0 where
  pub order : feeder_in_order f ≡ true
  pub whole-area : area ≡ 16384
  pub fits : f.tally.groups.bytes + piece + 12 ≤ 2 ^ 40

pub accepts : (f : Feeder) (piece area : ℕ) → relock_refusal f piece area ≡ 0 → Accepts f piece area
unfolding relock_refusal
accepts f piece area e =
    let first = line_passed 0 (not (feeder_in_order f)) _ e in
    let second = line_passed 1 (not (eqb area 16384)) _ first.1 in
    let third = line_passed 2 (ltb (2 ^ 40) (f.tally.groups.bytes + piece + 12)) _ second.1 in
    record { order = not-false _ first.0; whole-area = eqb-true _ _ (not-false _ second.0); fits = ltb-false _ _ third.0 }

pub accepted-by : (f : Feeder) (piece area : ℕ) → Accepts f piece area → relock_refusal f piece area ≡ 0
unfolding relock_refusal
accepted-by f piece area a = rw (a.order, eq-eqb area 16384 a.whole-area, le-ltb (2 ^ 40) (f.tally.groups.bytes + piece + 12) a.fits)

-- the lines of the table
module _ (f : Feeder) (piece area : ℕ) where
  pub not_in_order : feeder_in_order f ≡ false → relock_refusal f piece area ≡ 1
  unfolding relock_refusal
  not_in_order o = rw o

  module _ (o : feeder_in_order f ≡ true) where
    pub wrong-area : (area ≡ 16384 → ⊥) → relock_refusal f piece area ≡ 2
    unfolding relock_refusal
    wrong-area h = rw (o, ne_eqb area 16384 h)

    pub too_long : area ≡ 16384 → 2 ^ 40 < f.tally.groups.bytes + piece + 12 → relock_refusal f piece area ≡ 3
    unfolding relock_refusal
    too_long h l = rw (o, eq-eqb area 16384 h, lt-ltb (2 ^ 40) (f.tally.groups.bytes + piece + 12) l)

-- a shorter piece is accepted too
pub accepts_part : (f : Feeder) (piece part area : ℕ) → part ≤ piece → relock_refusal f piece area ≡ 0 → relock_refusal f part area ≡ 0
accepts_part f piece part area h e =
    let a = accepts f piece area e in
    accepted-by f part area record { order = a.order; whole-area = a.whole-area; fits = omega (arith, a.fits) }

-- ---- a feeder in order

and_both : (a b : Bool) → (a && b) ≡ true → (a ≡ true) × (b ≡ true)
and_both true b e = (refl, e)
and_both false b e = (e, cc)

pub record InOrder (f : Feeder) : Type 0 where
  pub in_tally : in_order f.tally ≡ true
  pub at-lock : (not f.awaits || stands_at_lock f.tally) ≡ true
  pub few : f.handed ≤ f.tally.groups.bytes / 12

pub feeder_ordered : (f : Feeder) → feeder_in_order f ≡ true → InOrder f
unfolding feeder_in_order
feeder_ordered f e =
    let x = and_both (in_order f.tally && (not f.awaits || stands_at_lock f.tally)) (leb f.handed (f.tally.groups.bytes / 12)) e in
    let y = and_both (in_order f.tally) (not f.awaits || stands_at_lock f.tally) x.0 in
    record { in_tally = y.0; at-lock = y.1; few = leb-true _ _ x.1 }

pub order_of : (f : Feeder) → InOrder f → feeder_in_order f ≡ true
unfolding feeder_in_order
order_of f i = rw (i.in_tally, i.at-lock, le-leb f.handed (f.tally.groups.bytes / 12) i.few)

-- a lock that awaits its word
stands : (t : Tally) → stands_at_lock t ≡ true → Waits (state_of t)
stands t e =
    let x = and_both (not t.framing.hunting && eqb t.framing.placed 0) (eqb t.groups.«open» 0) e in
    let y = and_both (not t.framing.hunting) (eqb t.framing.placed 0) x.0 in
    record { places = not-true t.framing.hunting y.0; at_first = eqb-true _ _ y.1; outside_group = eqb-true _ _ x.1 }

stands_so : (t : Tally) → Waits (state_of t) → stands_at_lock t ≡ true
stands_so t w = rw (w.places, eq-eqb t.framing.placed 0 w.at_first, eq-eqb t.groups.«open» 0 w.outside_group)

pub waits_now : (f : Feeder) → InOrder f → f.awaits ≡ true → Waits (state_of f.tally)
waits_now f i z = stands f.tally (rw z at i.at-lock)

pub waits_or_not : (awaits : Bool) (t : Tally) → (awaits ≡ true → Waits (state_of t)) → (not awaits || stands_at_lock t) ≡ true
waits_or_not true t h = stands_so t (h refl)
waits_or_not false t h = refl

-- a call of an accepted step is accepted
pub call-accepted : (f : Feeder) (part old : List ℕ) → relock_refusal f (length part) (length old) ≡ 0 → take_refusal (call_of f.tally part old) ≡ 0
call-accepted f part old e =
    let a = accepts f (length part) (length old) e in
    no_refusal f.tally part old (feeder_ordered f a.order).in_tally a.whole-area (omega (arith, a.fits))

-- ---- one call as far as a lock

-- the answer of an accepted step that makes a call
abbrev step_of : ℕ → Bool → Tally → Bool → ℕ → Relocked
step_of taken complete t awaits n =
    record { taken = taken; complete = complete; more = false; feeder = record { tally = t; awaits = awaits; handed = n } }

module _ (c : TakeCall) (e : take_refusal c ≡ 0) (l : Locked) (new : List ℕ) (p : LockPromise c (Ok l) new) where
  part : TakePromise (to_lock c) (Ok l.taken) new
  part = p.accepted e

  same : answer_of l.taken new ≡ answer (to_lock c)
  same = part.answer_is

  pub locked-so : l.locked ≡ locked c
  unfolding locked
  locked-so =
      let count : locks (answer (to_lock c)).tally.framing ≡ locks c.tally.framing + one l.locked =
      ap (λ (a : Answer). locks a.tally.framing) (sym same) ∙ p.locked-is in
      sym (by_count _ _ l.locked count)
    where
      by_count : (m n : ℕ) (b : Bool) → n ≡ m + one b → ltb m n ≡ b
      by_count m n true e = lt-ltb m n (omega arith)
      by_count m n false e = le-ltb m n (omega arith)

  pub called-so : (awaits b : Bool) (n : ℕ) → awaits ≡ b
      → let r = l.taken in
      Called c b n (step_of r.taken r.complete r.tally awaits n) new
  called-so awaits b n z = record {
    accepted = e;
    answer_is =
        ap (λ (a : Answer). step_of a.taken a.complete a.tally awaits n) same
        ∙ ap (λ (x : Bool). called c x n) z;
    area_is = ap (λ (a : Answer). a.area) same;
    within = omega (arith, part.within, up_shorter (rule_vote c.tally.rule) true c.piece (state_of c.tally) c.area);
    onward = onward;
  }
    where
      onward : 0 < length c.piece → 0 < l.taken.taken
      onward some = go l.taken.complete refl l.locked refl
        where
          go : (x : Bool) → l.taken.complete ≡ x → (y : Bool) → l.locked ≡ y → 0 < l.taken.taken
          go true x y q = part.takes_some x
          go false x true q = p.takes_some q
          go false x false q = omega (arith, p.takes_all refl x q)

-- ---- the lead-in, and a call

module _ (f : Feeder) (piece old : List ℕ) (a : relock_refusal f (length piece) (length old) ≡ 0) where
  abbrev lead : TakeCall
  lead = lead_in (call_of f.tally piece old)

  accepting : Accepts f (length piece) (length old)
  accepting = accepts f (length piece) (length old) a

  in_tally : in_order f.tally ≡ true
  in_tally = (feeder_ordered f accepting.order).in_tally

  pub lead-accepted : take_refusal lead ≡ 0
  lead-accepted = no_refusal f.tally lead_in_bytes old in_tally accepting.whole-area (omega (arith, accepting.fits))

  -- the call of the lead-in answers s and leaves the area `mid`; that on the piece answers l
  module _ (s : Taken) (mid : List ℕ) (q : TakePromise (call_of f.tally lead_in_bytes old) (Ok s) mid) (kept : length mid ≡ length old) where
    pub led_is : call_of s.tally piece mid ≡ call_led f piece old
    led_is = ap (λ (x : Answer). call_of x.tally piece x.area) q.answer_is

    mid_is : (answer lead).area ≡ mid
    mid_is = ap (λ (x : Answer). x.area) (sym q.answer_is)

    pub led_accepted : take_refusal (call_led f piece old) ≡ 0
    led_accepted =
        let few = (accepted-extent lead lead-accepted).within in
        no_refusal (answer lead).tally piece (answer lead).area (answer-ordered lead in_tally) (rw mid_is (kept ∙ accepting.whole-area))
        (omega (arith, accepting.fits, accepted-bytes lead lead-accepted, few))

    pub leads_so : (l : Locked) (new : List ℕ) → LockPromise (call_of s.tally piece mid) (Ok l) new
        → let r = l.taken in
        LeadsIn f piece old (step_of r.taken r.complete r.tally l.locked (f.handed + 1)) new
    leads_so l new p =
        let p' : LockPromise (call_led f piece old) (Ok l) new = rw led_is at p in
        record {
          lead-accepted = lead-accepted;
          led = called-so (call_led f piece old) led_accepted l new p' l.locked (locked (call_led f piece old)) (f.handed + 1)
              (locked-so (call_led f piece old) led_accepted l new p');
        }

-- one lead-in more can be counted
pub few_handed : (f : Feeder) (piece area : ℕ) → relock_refusal f piece area ≡ 0 → f.handed ≤ 2 ^ 40
few_handed f piece area e =
    let a = accepts f piece area e in
    omega (arith, (feeder_ordered f a.order).few, a.fits)

-- ---- a step

-- the bytes that a call on the first k bytes of a piece takes
taken_of : (t : Tally) (piece area : List ℕ) (k : ℕ) → let c = call_of t (take k piece) area in take_refusal c ≡ 0 → k ≤ length piece
    → taken (to_lock c) ≡ take (answer (to_lock c)).taken piece
unfolding taken
taken_of t piece area k e h =
    let c = call_of t (take k piece) area in
    let vote = rule_vote t.rule in
    let within = (accepted-extent (to_lock c) (part-accepted c e)).within in
    let shorter = up_shorter vote true (take k piece) (state_of t) area in
    up_prefix vote true (take k piece) (state_of t) area (answer (to_lock c)).taken within
    ∙ take-take (answer (to_lock c)).taken k piece (omega (arith, length-take-le k piece h))

taken-whole : (c : TakeCall) → take_refusal c ≡ 0 → taken (to_lock c) ≡ take (answer (to_lock c)).taken c.piece
unfolding taken
taken-whole c e =
    let within = (accepted-extent (to_lock c) (part-accepted c e)).within in
    up_prefix (rule_vote c.tally.rule) true c.piece (state_of c.tally) c.area (answer (to_lock c)).taken within

-- what an accepted call as far as a lock leaves
module _ (c : TakeCall) (e : take_refusal c ≡ 0) where
  abbrev left : Answer
  left = answer (to_lock c)

  pub left_is : state_of left.tally ≡ (feed (rule_vote c.tally.rule) (state_of c.tally) c.area (to_lock c).piece).state
  left_is = ap (λ (a : Answer). state_of a.tally) (accepted-answer (to_lock c) (part-accepted c e))

  left-bytes : left.tally.groups.bytes ≡ c.tally.groups.bytes + left.taken
  left-bytes = accepted-bytes (to_lock c) (part-accepted c e)

  -- a lock there awaits its word
  lock_left : in_order c.tally ≡ true → locked c ≡ true → Waits (state_of left.tally)
  unfolding locked
  lock_left o z =
      let more : locks c.tally.framing < locks left.tally.framing = ltb-true _ _ z in
      let before : Ordered (state_of c.tally) = ordered (state_of c.tally) (tally_ordered c.tally o).in_state in
      rw left_is (locked-waits (rule_vote c.tally.rule) c.piece (state_of c.tally) c.area before (rw left-framing at more))
    where
      left-framing : left.tally.framing ≡ (feed (rule_vote c.tally.rule) (state_of c.tally) c.area (to_lock c).piece).state.framing
      left-framing = ap (λ (s : State). s.framing) left_is

-- a lock awaits its word or not, by the call before or by this one
either : (waits l : Bool) (t : Tally) → (waits ≡ true → Waits (state_of t)) → (l ≡ true → Waits (state_of t)) → (not (waits || l) || stands_at_lock t) ≡ true
either true l t h g = waits_or_not true t h
either false l t h g = waits_or_not l t g

-- a step that is a call on k bytes of the piece
module _ (f : Feeder) (piece : List ℕ) (ends : Bool) (old : List ℕ) (a : relock_refusal f (length piece) (length old) ≡ 0) (k : ℕ)
    (m : move f piece ends ≡ reads k) (h : k ≤ length piece) (some : 0 < length piece → 0 < k) where
  abbrev c : TakeCall
  c = call_on f piece k old

  module _ (waits : Bool) (z : waits ≡ (f.awaits && no_word (words_next f.tally (take k piece))))
      (meets : f.awaits ≡ true → ends_behind (words_next f.tally (take k piece)) ≡ true)
      (waiting : take_refusal c ≡ 0 → waits ≡ true → (ends ≡ true → (answer (to_lock c)).taken < length piece) → Waits (state_of (answer (to_lock c)).tally))
      (r : Relocked) (new : List ℕ) (p : ReadsOn f (take k piece) waits old r new) where
    awaits_is : (waits || locked c) ≡ awaits_after f.awaits c
    unfolding awaits_after
    awaits_is = or_comm waits (locked c) ∙ ap (λ (x : Bool). locked c || x) z

    r-is : r ≡ called c (awaits_after f.awaits c) f.handed
    r-is = p.answer_is ∙ ap (λ (x : Bool). called c x f.handed) awaits_is

    part_length : length (take k piece) ≡ k
    part_length = length-take-le k piece h

    step_order : (ends ≡ true → (answer (to_lock c)).taken < length piece) → feeder_in_order (called c (waits || locked c) f.handed).feeder ≡ true
    step_order not-all =
        let order = feeder_ordered f (accepts f (length piece) (length old) a).order in
        order_of _ record {
          in_tally = answer-ordered (to_lock c) order.in_tally;
          at-lock = either waits (locked c) (answer (to_lock c)).tally (λ w. waiting p.accepted w not-all)
              (λ l. lock_left c p.accepted order.in_tally l);
          few = omega (arith, order.few, left-bytes c p.accepted);
        }

    one-call : RelockedCalls f.awaits f.tally old (take (answer (to_lock c)).taken piece) (takes (to_lock c) ∷ []) (awaits_after f.awaits c)
        (answer (to_lock c)).tally (answer (to_lock c)).area 0
    one-call = rw (append-nil, taken_of f.tally piece old k p.accepted h) at (takes_on f.awaits c p.accepted meets done)

    pays-one : paid (takes (to_lock c) ∷ []) ≡ cond (answer (to_lock c)).complete ((answer (to_lock c)).area ∷ []) []
    unfolding pays
    pays-one = paid-one (to_lock c)

    pub step_reads : RelockPromise f piece ends old (Ok r) new
    step_reads = record {
      refusal_is = sym a;
      refused = λ n q. absurd (omega arith);
      answer_is = λ q. rw m r-is;
      area_is = λ q. rw m p.area_is;
      within = omega (arith, p.within, part_length);
      onward = λ q x y. p.onward (omega (arith, part_length, some y));
      calls = takes (to_lock c) ∷ [];
      relocks = λ q. rw (m, r-is, p.area_is) one-call;
      pays = λ q. rw (r-is, p.area_is) pays-one;
      stays_ordered = λ q. rw p.answer_is step_order;
    }

-- a step that asks for more
module _ (f : Feeder) (piece : List ℕ) (ends : Bool) (old : List ℕ) (a : relock_refusal f (length piece) (length old) ≡ 0)
    (m : move f piece ends ≡ asks) where
  pub step_asks : RelockPromise f piece ends old (Ok (record { taken = 0; complete = false; more = true; feeder = f })) old
  step_asks = record {
    refusal_is = sym a;
    refused = λ n q. absurd (omega arith);
    answer_is = λ q. rw m;
    area_is = λ q. rw m;
    within = omega arith;
    onward = λ q x y. absurd (true≢false x);
    calls = [];
    relocks = λ q. rw m done;
    pays = λ q. paid-none;
    stays_ordered = λ q x. (accepts f (length piece) (length old) a).order;
  }

-- a step that hands the lead-in
module _ (f : Feeder) (piece : List ℕ) (ends : Bool) (old : List ℕ) (a : relock_refusal f (length piece) (length old) ≡ 0)
    (m : move f piece ends ≡ leads) (z : f.awaits ≡ true) (other : OtherWord (rule_vote f.tally.rule) piece)
    (r : Relocked) (new : List ℕ) (p : LeadsIn f piece old r new) where
  abbrev l : TakeCall
  l = lead_in (call_of f.tally piece old)

  abbrev d : TakeCall
  d = call_led f piece old

  order : InOrder f
  order = feeder_ordered f (accepts f (length piece) (length old) a).order

  at-lock : Waits (state_of f.tally)
  at-lock = waits_now f order z

  -- the lead-in completes nothing
  lead-quiet : (answer l).complete ≡ false
  lead-quiet =
      rw (accepted-answer l p.lead-accepted)
      (few_complete_none (rule_vote f.tally.rule) lead_in_bytes (state_of f.tally) old at-lock.places (omega (arith, at-lock.at_first)))

  lead-bytes : d.tally.groups.bytes ≡ f.tally.groups.bytes + 12
  lead-bytes = omega (arith, accepted-bytes l p.lead-accepted, (accepted-extent l p.lead-accepted).takes_all lead-quiet)

  lead-ordered : in_order d.tally ≡ true
  lead-ordered = answer-ordered l order.in_tally

  accepted : take_refusal d ≡ 0
  accepted = p.led.accepted

  two-calls : RelockedCalls true f.tally old (take (answer (to_lock d)).taken piece) (takes l ∷ takes (to_lock d) ∷ []) (locked d)
      (answer (to_lock d)).tally (answer (to_lock d)).area 1
  two-calls =
      rw (append-nil, taken-whole d accepted) at (leads_in (call_of f.tally piece old) p.lead-accepted accepted at-lock.outside_group other done)

  pays-two : paid (takes l ∷ takes (to_lock d) ∷ []) ≡ cond (answer (to_lock d)).complete ((answer (to_lock d)).area ∷ []) []
  unfolding paid pays
  pays-two = rw (lead-quiet, append-nil)

  led_order : feeder_in_order (called d (locked d) (f.handed + 1)).feeder ≡ true
  led_order = order_of _ record {
    in_tally = answer-ordered (to_lock d) lead-ordered;
    at-lock = waits_or_not (locked d) (answer (to_lock d)).tally (λ x. lock_left d accepted lead-ordered x);
    few = omega (arith, order.few, left-bytes d accepted, lead-bytes);
  }

  pub step_leads : RelockPromise f piece ends old (Ok r) new
  step_leads = record {
    refusal_is = sym a;
    refused = λ n q. absurd (omega arith);
    answer_is = λ q. rw m p.led.answer_is;
    area_is = λ q. rw m p.led.area_is;
    within = p.led.within;
    onward = λ q x y. p.led.onward y;
    calls = takes l ∷ takes (to_lock d) ∷ [];
    relocks = λ q. rw (m, z, p.led.answer_is, p.led.area_is) two-calls;
    pays = λ q. rw (p.led.answer_is, p.led.area_is) pays-two;
    stays_ordered = λ q x. rw p.led.answer_is led_order;
  }

-- a refused step
pub step_refused : (f : Feeder) (piece : List ℕ) (ends : Bool) (old : List ℕ) (e : Refusal) → number e ≡ relock_refusal f (length piece) (length old)
    → RelockPromise f piece ends old (Err e) old
step_refused f piece ends old e is = record {
  refusal_is = is;
  refused = λ k q. (refl, refl);
  answer_is = λ q. absurd (positive e q);
  area_is = λ q. absurd (positive e q);
  within = omega arith;
  onward = λ q x y. absurd (positive e q);
  calls = [];
  relocks = λ q. absurd (positive e q);
  pays = λ q. absurd (positive e q);
  stays_ordered = λ q x. absurd (positive e q);
}

-- the same of a step that is made of calls which are not refused
pub step_by : (f : Feeder) (piece : List ℕ) (ends : Bool) (old : List ℕ) (P : Relocked → Type 0) (r : Result Relocked Refusal) (new : List ℕ) → IsOkAnd r P
    → ((x : Relocked) → P x → RelockPromise f piece ends old (Ok x) new) → RelockPromise f piece ends old r new
step_by f piece ends old P (Ok x) new p by = by x p
step_by f piece ends old P (Err e) new p by = absurd p

-- a call that is accepted does not answer by a refusal
pub take_answers : (c : TakeCall) (e : Refusal) (new : List ℕ) → TakePromise c (Err e) new → take_refusal c ≡ 0 → ⊥
take_answers c e new p z = positive e (p.refusal_is ∙ z)

pub lock_answers : (c : TakeCall) (e : Refusal) (new : List ℕ) → LockPromise c (Err e) new → take_refusal c ≡ 0 → ⊥
lock_answers c e new p z = positive e (p.refusal_is ∙ z)
