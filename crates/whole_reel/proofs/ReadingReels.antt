-- A whole reel by steps. What is read so far is a list of calls that locks on a frame's own sync, which has taken the stream as far as the place reached;
-- the claim about that list bounds its lead-ins, so that no step is refused. Assumes nothing.
use Rattle.std.proofs.Common.{◌≡◌, refl, sym, ap, ◌∙◌, Bool, true, false, cond, not, List, [], ◌∷◌, ◌++◌}
use Rattle.std.proofs.Common.{ℕ, zero, suc, ◌+◌, ◌-◌, ◌^◌, ◌≤◌, ◌<◌, Result, Ok, Err, IsOk}
use Rattle.std.specs.Result.{result_and}
use native.Mathlib.Omega.{arith}
use lib.Dec.{eqb, ltb, eqb-suc-zero}
use lib.ListN.{length, take, drop, length-append, length-drop}
use lib.Seq.{take-add, take_all, length-take-le}
use borrow.Author.Tests.{lt-ltb, le-ltb, ltb-false, eqb-true, eq-eqb, ne_eqb}
use Rattle.base.specs.Lists.{one}
use Rattle.base.specs.declared.refusal.Refusal.{Refusal}
use Rattle.base.specs.Refusals.{number, number_of}
use Rattle.base.proofs.Lines.{positive}
use Rattle.labelling.specs.declared.Tally.{Tally}
use Rattle.labelling.specs.Words.{words}
use Rattle.labelling.specs.Votes.{rule_vote}
use Rattle.labelling.specs.Machine.{fresh}
use Rattle.labelling.specs.Order.{is_rule}
use Rattle.labelling.specs.Calls.{Call, paid}
use Rattle.own_sync.specs.OwnCut.{seeks}
use Rattle.own_sync.specs.Relocking.{Relocked as RelockedCalls, done}
use Rattle.own_sync.specs.OwnOnce.{OwnOnce}
use Rattle.own_sync.proofs.OwnCuts.{own-found, few_found}
use Rattle.own_sync.proofs.OpenGroup.{four-each}
use Rattle.own_sync.proofs.Relocking.{own-once}
use Rattle.relocking.specs.declared.Feeder.{Feeder}
use Rattle.relocking.specs.declared.Relocked.{Relocked}
use Rattle.relocking.specs.Relock.{feeder_in_order, relock_refusal, Move, reads, asks, leads, before_group, gives_first, move, moved, led_by}
use Rattle.relocking.specs.Relock.{RelockPromise, beginning}
use Rattle.labelling.specs.Once.{fresh_refusal, rule_given}
use Rattle.feeding.proofs.CallLists.{paid-append, paid-none}
use Rattle.relocking.proofs.Relocking.{accepted-by, order_of}
use Rattle.relocking.proofs.CallLists.{relocked_append}
use Rattle.whole_reel.specs.declared.Reel.{Reel}
use Rattle.whole_reel.specs.Whole.{longest, refusal_after, read_refusal, WholeReel, ReadPromise, Begins, ReadAll}

-- ---- a step on the rest of the stream

-- where the stream ends with the piece, it asks for nothing
no_more : (f : Feeder) (piece old : List ℕ) → (moved (move f piece true) f piece old).more ≡ false
unfolding move
no_more f piece old = go f.awaits (ltb 0 (before_group piece)) (ltb (length piece) 4) (gives_first (rule_vote f.tally.rule) piece)
  where
    go : (a b c d : Bool)
        → let here = cond c (reads (length piece)) (cond d (reads (length piece)) leads) in
        (moved (cond a (cond b (reads (before_group piece)) here) (reads (length piece))) f piece old).more ≡ false
    go true true c d = refl
    go true false true d = refl
    go true false false true = refl
    go true false false false = refl
    go false b c d = refl

-- it counts the lead-in that it hands
handed-more : (m : Move) (f : Feeder) (piece old : List ℕ) → (moved m f piece old).feeder.handed ≡ f.handed + led_by m
handed-more (reads k) f piece old = omega arith
handed-more asks f piece old = omega arith
handed-more leads f piece old = omega arith

-- ---- what is read so far

module _ (rule : ℕ) (is_rule_fact : is_rule rule ≡ true) (s old : List ℕ) (short : length s ≤ longest) (whole : length old ≡ 16384) where
  -- the stream as far as `at`, with so many major frames on the way
  pub record ReadSoFar (f : Feeder) (at n : ℕ) (a : List ℕ) : Type 0 where
    pub within : at ≤ length s
    pub few : n ≤ at
    pub calls : List Call
    pub relocks : RelockedCalls false (fresh rule) old (take at s) calls f.awaits f.tally a f.handed
    pub paid-is : n ≡ length (paid calls)
    pub order : at < length s → feeder_in_order f ≡ true
    pub kept : length a ≡ length old

  -- before the first step
  begins-in_order : feeder_in_order (beginning rule) ≡ true
  begins-in_order = order_of (beginning rule) record {
    in_tally = (own-once rule old is_rule_fact whole {w = false} {t = fresh rule} {a = old} done).once.ordered;
    at-lock = refl;
    few = omega arith;
  }

  pub read-begins : (f : Feeder) → f ≡ beginning rule → ReadSoFar f 0 0 old
  read-begins f e = rw e (record {
    within = omega arith;
    few = omega arith;
    calls = [];
    relocks = done;
    paid-is = ap length (sym paid-none);
    order = λ h. begins-in_order;
    kept = refl;
  })

  module _ {f : Feeder} {at n : ℕ} {a : List ℕ} (i : ReadSoFar f at n a) where
    once : OwnOnce rule old (take at s) i.calls f.tally a f.handed
    once = own-once rule old is_rule_fact whole i.relocks

    -- the lead-ins are few
    bytes_few : f.tally.groups.bytes + (length s - at) + 12 ≤ 2 ^ 40
    bytes_few =
        let ws = words (rule_vote rule) (take at s) in
        let found = few_found seeks ws in
        let four = four-each (rule_vote rule) (take at s) in
        let so_far = length-take-le at s i.within in
        omega (arith, once.bytes_are, once.lead_ins_are, own-found ws, found, four, so_far, i.within, short)

    pub step_accepted : at < length s → relock_refusal f (length (drop at s)) (length a) ≡ 0
    step_accepted more = accepted-by f (length (drop at s)) (length a) record {
      order = i.order more;
      whole-area = i.kept ∙ whole;
      fits = rw (length-drop at s) bytes_few;
    }

    module _ (more : at < length s) (r : Relocked) (b : List ℕ) (p : RelockPromise f (drop at s) true a (Ok r) b) where
      left : length (drop at s) ≡ length s - at
      left = length-drop at s

      pub leads_on : 0 < r.taken
      leads_on =
          let none : r.more ≡ false = ap (λ (x : Relocked). x.more) (p.answer_is refl) ∙ no_more f (drop at s) a in
          p.onward refl none (omega (arith, left))

      pub stays_in : at + r.taken ≤ length s
      stays_in = omega (arith, p.within, left)

      paid-one : length (paid p.calls) ≡ one r.complete
      paid-one = ap length (p.pays refl) ∙ go r.complete
        where
          go : (c : Bool) → length (cond c (b ∷ []) []) ≡ one c
          go true = refl
          go false = refl

      pub at_most_one : one r.complete ≤ r.taken
      at_most_one = go r.complete
        where
          go : (c : Bool) → one c ≤ r.taken
          go true = omega (arith, leads_on)
          go false = omega arith

      pub reads_more : (k : ℕ) → k ≡ one r.complete → length b ≡ length a → ReadSoFar r.feeder (at + r.taken) (n + k) b
      reads_more k e same = record {
        within = stays_in;
        few = omega (arith, i.few, at_most_one);
        calls = i.calls ++ p.calls;
        relocks =
            let count : r.feeder.handed ≡ f.handed + led_by (move f (drop at s) true) =
            ap (λ (x : Relocked). x.feeder.handed) (p.answer_is refl) ∙ handed-more (move f (drop at s) true) f (drop at s) a in
            rw (count, take-add at r.taken s) (relocked_append i.relocks (p.relocks refl));
        paid-is = omega (arith, i.paid-is, ap length (paid-append i.calls p.calls), length-append (paid i.calls) (paid p.calls), paid-one);
        order = λ h. p.stays_ordered refl (λ q. omega (arith, left));
        kept = same ∙ i.kept;
      }

    pub read-ends : length s ≤ at → WholeReel rule s old (record { answer = Ok tt; paid = n; feeder = f }) a
    read-ends h =
        let all : take at s ≡ s = take_all at s h in
        record { calls = i.calls; relocks = rw all at i.relocks; once = rw all at once; paid-is = i.paid-is }

-- ---- the refusal

pub refused-rule : (n stream area : ℕ) → (n ≡ 0 → ⊥) → n ≡ refusal_after n stream area
refused-rule n stream area h = rw (ne_eqb n 0 h)

-- a step of an accepted reading is not refused
pub step_answers : {f : Feeder} {piece old new : List ℕ} {ends : Bool} (r : Result Relocked Refusal) → RelockPromise f piece ends old r new
    → relock_refusal f (length piece) (length old) ≡ 0 → IsOk r
step_answers (Ok x) p z = refl
step_answers (Err e) p z = absurd (positive e (p.refusal_is ∙ z))

module _ (stream area : ℕ) where
  pub refused-area : (area ≡ 16384 → ⊥) → 2 ≡ refusal_after 0 stream area
  refused-area h = rw (ne_eqb area 16384 h)

  pub refused-length : area ≡ 16384 → longest < stream → 3 ≡ refusal_after 0 stream area
  refused-length e h = rw (eq-eqb area 16384 e, lt-ltb longest stream h)

  pub not_refused : area ≡ 16384 → stream ≤ longest → 0 ≡ refusal_after 0 stream area
  not_refused e h = rw (eq-eqb area 16384 e, le-ltb longest stream h)

-- by the rule, or by the lengths
pub rule-refused : (rule stream area : ℕ) (e : Refusal) → number e ≡ fresh_refusal rule → number e ≡ read_refusal rule stream area
unfolding read_refusal
rule-refused rule stream area e q = rw (← q) (refused-rule (number e) stream area (positive e))

pub by_lengths : (rule stream area n : ℕ) → 0 ≡ fresh_refusal rule → n ≡ refusal_after 0 stream area → n ≡ read_refusal rule stream area
unfolding read_refusal
by_lengths rule stream area n z q = rw (← z) q

pub by_both : (rule stream area : ℕ) (a b : Result Unit Refusal) → number_of a ≡ fresh_refusal rule → number_of b ≡ refusal_after 0 stream area
    → number_of (result_and a b) ≡ read_refusal rule stream area
by_both rule stream area (Ok u) b p q = by_lengths rule stream area (number_of b) p q
by_both rule stream area (Err e) b p q = rule-refused rule stream area e p

-- what an accepted reading has shown
pub record ReadAccepts (n stream area : ℕ) : Type 0 where
  pub by_rule : n ≡ 0
  pub whole-area : area ≡ 16384
  pub few : stream ≤ longest

pub read-accepts : (n stream area : ℕ) → refusal_after n stream area ≡ 0 → ReadAccepts n stream area
read-accepts (suc n) stream area e = absurd (omega (arith, rw (eqb-suc-zero n) at e))
read-accepts zero stream area e = go (eqb area 16384) refl (ltb longest stream) refl e
  where
    go : (a : Bool) → eqb area 16384 ≡ a → (b : Bool) → ltb longest stream ≡ b → ◌≡◌ {A = ℕ} (cond (not a) 2 (cond b 3 0)) 0 → ReadAccepts 0 stream area
    go true a false b z = record { by_rule = refl; whole-area = eqb-true area 16384 a; few = ltb-false longest stream b }
    go true a true b z = absurd (omega arith)
    go false a b c z = absurd (omega arith)

-- ---- the promise

-- a rule that a fresh tally takes is one, and is carried
module _ (rule : ℕ) (e : fresh_refusal rule ≡ 0) where
  pub takes_rule : is_rule rule ≡ true
  unfolding fresh_refusal
  takes_rule = go (is_rule rule) refl e
    where
      go : (b : Bool) → is_rule rule ≡ b → ◌≡◌ {A = ℕ} (cond (not b) 15 0) 0 → is_rule rule ≡ true
      go true z q = z
      go false z q = absurd (omega arith)

  pub carries_rule : rule_given rule ≡ rule
  unfolding rule_given
  carries_rule = rw e

fresh-carries : (rule : ℕ) → (fresh rule).rule ≡ rule
unfolding fresh
fresh-carries rule = refl

-- the tally t is the fresh one that was asked for by a rule
module _ (rule : ℕ) (stream old : List ℕ) (t : Tally) (e : t ≡ fresh (rule_given rule)) where
  abbrev begun : Feeder
  begun = record { tally = t; awaits = false; handed = 0 }

  begun-is : begun ≡ beginning (rule_given rule)
  begun-is = ap (λ (x : Tally). record { tally = x; awaits = false; handed = 0 }) e

  pub read-refused : (e : Refusal) → number e ≡ read_refusal rule (length stream) (length old)
      → ReadPromise rule stream old (record { answer = Err e; paid = 0; feeder = begun }) old
  read-refused e q = record {
    refusal_is = q;
    refused = λ k z. let given : Feeder → Reel = λ f. record { answer = Err e; paid = 0; feeder = f } in (ap given begun-is, refl);
    accepted = λ z. absurd (positive e z);
  }

  module _ (z : read_refusal rule (length stream) (length old) ≡ 0) where
    accepting : ReadAccepts (fresh_refusal rule) (length stream) (length old)
    unfolding read_refusal
    accepting = read-accepts (fresh_refusal rule) (length stream) (length old) z

    carried : t.rule ≡ rule
    carried = ap (λ (x : Tally). x.rule) e ∙ fresh-carries (rule_given rule) ∙ carries_rule rule accepting.by_rule

    pub read-starts : Begins begun (length stream) (length old)
    read-starts = record {
      rule_is = rw carried (takes_rule rule accepting.by_rule);
      begun = begun-is ∙ ap beginning (carries_rule rule accepting.by_rule ∙ sym carried);
      few = accepting.few;
      whole-area = accepting.whole-area;
    }

    pub read_whole : (r : Reel) (new : List ℕ) → ReadAll begun stream old r new → ReadPromise rule stream old r new
    read_whole r new p = record {
      refusal_is = p.no_refusal ∙ sym z;
      refused = λ n q. absurd (omega (arith, p.no_refusal));
      accepted = λ q. rw carried at p.whole;
    }
