-- A whole stream by calls. What is read so far is a list of calls handed on, whose joined bytes are the stream as far as the place reached; an
-- accepted call leaves a tally in order, as many bytes more as it took, and an area of the same length, so that the next is accepted too.
-- Assumes nothing.
use Rattle.std.proofs.Common.{◌≡◌, refl, sym, ap, ◌∙◌, Bool, true, false, cond, List, [], ◌∷◌, ◌++◌, ℕ, zero, suc, ◌+◌, ◌-◌, ◌≤◌, ◌<◌, Result, Ok, Err}
use mathlib.Core.List.{map-append}
use native.Mathlib.Omega.{arith}
use lib.ListN.{length, take, drop, length-append, length-drop}
use lib.Seq.{take-add}
use Rattle.base.specs.Lists.{one}
use Rattle.base.specs.declared.refusal.Refusal.{Refusal}
use Rattle.base.specs.Refusals.{number}
use Rattle.base.proofs.Lines.{positive}
use Rattle.labelling.specs.declared.Operators.{Operators}
use Rattle.labelling.specs.declared.Tally.{Tally}
use Rattle.labelling.specs.Calls.{TakeCall, take_refusal, Answer, answer, taken, pays, Call, takes, joined, paid, Handed, done, refused}
use Rattle.labelling.proofs.Reaching.{handed-append, joined-append}
use Rattle.labelling.proofs.Demand.{handed-rule}
use Rattle.labelling.proofs.CallLaws.{Passed, passed, no_refusal, refused-answer, answer-ordered, accepted-bytes, accepted-operators}
use Rattle.reader.specs.declared.Taken.{Taken}
use Rattle.reader.specs.Shapes.{call_of, TakePromise}
use Rattle.reader.proofs.Progress.{moves_on}
use Rattle.feeding.specs.declared.Fed.{Fed}
use Rattle.feeding.specs.Promise.{as_calls, unfed, FeedPromise, rest, after, NextPromise}
use Rattle.feeding.proofs.CallLists.{paid-append, handed-one, joined-one, paid-one, joined-none, paid-none}
use Rattle.feeding.proofs.Laws.{withheld}

-- ---- one call more

same-counts : {a b c d : ℕ} (t : Tally) → a ≡ b → c ≡ d → ◌≡◌ {A = Fed} (record { taken = a; paid = c; tally = t }) (record { taken = b; paid = d; tally = t })
same-counts t e f = rw (e, f) refl

-- a refused call leaves what it was given
pub next-refused : (f : Fed) (s old new : List ℕ) (e : Refusal) → TakePromise (rest f s old) (Err e) new → f.taken ≤ length s → f.paid ≤ f.taken
    → NextPromise f s old (Err e) new
next-refused f s old new e p within few = record {
  refusal_is = p.refusal_is;
  next-is = rw (← p.answer_is) (same-counts f.tally (omega arith) (omega arith));
  area_is = ap (λ (a : Answer). a.area) p.answer_is;
  within = within;
  few = few;
  onward = λ z. absurd (positive e z);
}

module _ (f : Fed) (s old new : List ℕ) (r : Taken) (p : TakePromise (rest f s old) (Ok r) new) where
  left : length (drop f.taken s) ≡ length s - f.taken
  left = length-drop f.taken s

  -- a call that completes a major frame takes a byte
  pub counted : one r.complete ≤ r.taken
  counted = go r.complete refl
    where
      go : (b : Bool) → r.complete ≡ b → one b ≤ r.taken
      go true e = omega (arith, p.takes_some e)
      go false e = omega arith

  pub next-right : (n : ℕ) → n ≡ one r.complete → f.taken ≤ length s → f.paid ≤ f.taken
      → NextPromise f s old (Ok (record { taken = f.taken + r.taken; paid = f.paid + n; tally = r.tally })) new
  next-right n e within few = record {
    refusal_is = p.refusal_is;
    next-is = rw (← p.answer_is, e);
    area_is = ap (λ (a : Answer). a.area) p.answer_is;
    within = omega (arith, p.within, left);
    few = omega (arith, counted);
    onward = λ z h.
        let some : 0 < length (drop f.taken s) = omega (arith, left) in
        omega (arith, moves_on _ r new p some);
  }

-- ---- what is read so far

-- a call pays one frame where it completes one, and none otherwise
pays-one : (c : TakeCall) → length (pays c) ≡ one (answer c).complete
unfolding pays
pays-one c = go (answer c).complete
  where
    go : (b : Bool) → length (cond b ((answer c).area ∷ []) []) ≡ one b
    go true = refl
    go false = refl

-- from the tally t and the area old, f has been read of the stream, and the area is a
pub record Reading (t : Tally) (s old : List ℕ) (f : Fed) (a : List ℕ) : Type 0 where
  pub within : f.taken ≤ length s
  pub few : f.paid ≤ f.taken
  pub calls : List TakeCall
  pub handed : Handed t old (as_calls calls) f.tally a
  pub joined_is : joined (as_calls calls) ≡ take f.taken s
  pub paid-is : f.paid ≡ length (paid (as_calls calls))
  pub duty_is : f.tally.operators.duty ≡ t.operators.duty
  -- the next call is refused as the first was, and the first is the only one that is
  pub same-refusal : take_refusal (rest f s a) ≡ take_refusal (call_of t s old)
  pub untouched : (take_refusal (call_of t s old) ≡ 0 → ⊥) → (f ≡ unfed t) × (a ≡ old)

pub begins : (t : Tally) (s old : List ℕ) → Reading t s old (unfed t) old
begins t s old = record {
  within = omega arith;
  few = omega arith;
  calls = [];
  handed = done;
  joined_is = joined-none;
  paid-is = ap length (sym paid-none);
  duty_is = refl;
  same-refusal = refl;
  untouched = λ h. (refl, refl);
}

-- an accepted call refuses none on the rest
module _ (f : Fed) (s a : List ℕ) (e : take_refusal (rest f s a) ≡ 0) (within : f.taken ≤ length s) where
  abbrev call : TakeCall
  call = rest f s a

  checked : Passed call
  checked = passed call e

  bytes_more : (answer call).tally.groups.bytes ≡ f.tally.groups.bytes + (answer call).taken
  bytes_more = accepted-bytes call e

  still_accepts : (b : List ℕ) → length b ≡ length a → f.taken + (answer call).taken ≤ length s → take_refusal (rest (after f call) s b) ≡ 0
  still_accepts b same h =
      let left = length-drop f.taken s in
      let o = answer-ordered call checked.ordered_tally in
      no_refusal (answer call).tally (drop (f.taken + (answer call).taken) s) b o (same ∙ checked.whole-area)
      (rw length-drop (omega (arith, bytes_more, left, checked.fits)))

-- ---- how it ends

-- the only call is refused
module _ (t : Tally) (s old : List ℕ) (x : Refusal) (m : ℕ) (is : number x ≡ suc m) (e : take_refusal (call_of t s old) ≡ suc m) where
  abbrev whole : TakeCall
  whole = call_of t s old

  takes_nothing : joined (takes whole ∷ []) ≡ []
  unfolding taken
  takes_nothing = rw (joined-one, refused-answer whole m e)

  pays-nothing : paid (takes whole ∷ []) ≡ []
  unfolding pays
  pays-nothing = rw (paid-one, refused-answer whole m e)

  first-refused : FeedPromise t s old (Err x) old
  first-refused = record {
    refusal_is = is ∙ sym e;
    refused = λ n h. (refl, refl);
    taken_is = withheld (number x) (length s) (λ z. absurd (positive x z));
    calls = whole ∷ [];
    handed = refused (takes whole) m e done;
    joined_is = takes_nothing;
    paid-is = ap length (sym pays-nothing);
    duty_is = refl;
    rule_is = refl;
  }

-- the same of equal calls, tallies and areas
handed-as : {t u v : Tally} {a b c : List ℕ} {cs ds : List Call} → ds ≡ cs → u ≡ v → b ≡ c → Handed t a cs v c → Handed t a ds u b
handed-as calls tally area h = rw (calls, tally, area) h

-- the call is accepted
module _ {t : Tally} {s old : List ℕ} {f r : Fed} {a b : List ℕ} (i : Reading t s old f a) (n : NextPromise f s a (Ok r) b) where
  accepts : take_refusal (rest f s a) ≡ 0
  accepts = sym n.refusal_is

  first-accepts : take_refusal (call_of t s old) ≡ 0
  first-accepts = sym i.same-refusal ∙ accepts

  -- one call more in the list
  more-calls : as_calls (i.calls ++ rest f s a ∷ []) ≡ as_calls i.calls ++ takes (rest f s a) ∷ []
  more-calls = rw map-append

  more-joined : joined (as_calls (i.calls ++ rest f s a ∷ [])) ≡ take r.taken s
  unfolding taken
  more-joined = rw (more-calls, n.next-is, joined-append, joined-one, i.joined_is, take-add)

  more-paid : r.paid ≡ length (paid (as_calls (i.calls ++ rest f s a ∷ [])))
  more-paid = rw (more-calls, n.next-is, paid-append, paid-one, length-append, ← i.paid-is, pays-one)

  same-duty : r.tally.operators.duty ≡ t.operators.duty
  same-duty = rw n.next-is (ap (λ (o : Operators). o.duty) (accepted-operators (rest f s a) accepts) ∙ i.duty_is)

  reached : r.taken ≡ f.taken + (answer (rest f s a)).taken
  reached = ap (λ (x : Fed). x.taken) n.next-is

  tally_left : r.tally ≡ (answer (rest f s a)).tally
  tally_left = ap (λ (x : Fed). x.tally) n.next-is

  pub goes_on : length b ≡ length a → Reading t s old r b
  goes_on same = record {
    within = n.within;
    few = n.few;
    calls = i.calls ++ rest f s a ∷ [];
    handed = handed-as more-calls tally_left n.area_is (handed-append i.handed (handed-one (rest f s a) accepts));
    joined_is = more-joined;
    paid-is = more-paid;
    duty_is = same-duty;
    same-refusal =
        ap (λ (x : Fed). take_refusal (rest x s b)) n.next-is
        ∙ still_accepts f s a accepts i.within b same (rw reached at n.within)
        ∙ sym first-accepts;
    untouched = λ h. absurd (h first-accepts);
  }

  pub further : r.taken < length s → length s - r.taken < length s - f.taken
  further h =
      let on : f.taken ≤ r.taken = omega (arith, reached) in
      omega (arith, n.onward refl (omega arith))

  pub ends : length b ≡ length a → length s ≤ r.taken → FeedPromise t s old (Ok r) b
  ends same h =
      let j = goes_on same in
      record {
        refusal_is = sym first-accepts;
        refused = λ k e. absurd (omega arith);
        taken_is = omega (arith, n.within);
        calls = j.calls;
        handed = j.handed;
        joined_is = j.joined_is;
        paid-is = j.paid-is;
        duty_is = j.duty_is;
        rule_is = handed-rule j.handed;
      }

-- the call is refused: it is the first
pub stops : {t : Tally} {s old : List ℕ} {f : Fed} {a b : List ℕ} (e : Refusal) → Reading t s old f a → NextPromise f s a (Err e) b
    → FeedPromise t s old (Err e) b
stops {t} {s} {old} {f} {a} {b} e i n = go (number e) refl
  where
    go : (m : ℕ) → number e ≡ m → FeedPromise t s old (Err e) b
    go zero is = absurd (positive e is)
    go (suc m) is =
        let whole : take_refusal (call_of t s old) ≡ suc m = sym (n.refusal_is ∙ i.same-refusal) ∙ is in
        let first = i.untouched (λ y. omega (arith, whole)) in
        let answered = refused-answer (call_of t s old) m whole in
        let area_same : b ≡ old = n.area_is ∙ rw (first.0, first.1, answered) in
        rw area_same (first-refused t s old e m is whole)
