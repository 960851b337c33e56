-- Lists of calls that read a reel go on from one another; so whatever a step, a change of duty or a file brings, the reel stands as its calls left it.
-- Assumes nothing.
use Rattle.std.proofs.Common.{◌≡◌, refl, sym, ap, ◌∙◌, Bool, true, false, cond, List, [], ◌∷◌, ◌++◌, ℕ, zero, suc, ◌+◌, ◌-◌, ◌≤◌, ◌<◌, Result, Ok, Err}
use native.Mathlib.Omega.{arith}
use native.Mathlib.Numerals.{add-one}
use lib.ListN.{length, take, drop, set, get_or, length-append, length-drop, length-set}
use lib.Seq.{length-take-le, take-suc, take-suc-set, get_or-set_other, get_or-drop}
use Rattle.base.specs.Lists.{one}
use Rattle.base.specs.declared.refusal.Refusal.{Refusal}
use Rattle.base.specs.Refusals.{number_of}
use Rattle.labelling.specs.declared.Tally.{Tally}
use Rattle.labelling.specs.Calls.{TakeCall, take_refusal, Answer, answer, taken, pays, DutyCall, duty_refusal, duty_answer, Call, takes, changes, joined, paid}
use Rattle.labelling.specs.Calls.{done, changed}
use Rattle.labelling.specs.Machine.{fresh}
use Rattle.labelling.specs.Once.{rule_given}
use Rattle.labelling.proofs.Promised.{rule_known}
use Rattle.labelling.proofs.Reaching.{handed-append, joined-append}
use Rattle.labelling.proofs.CallLaws.{refused-answer, duty_refused}
use Rattle.own_sync.specs.Relocking.{done as nothing-relocked, changed as changed-between}
use Rattle.reader.specs.declared.Taken.{Taken}
use Rattle.duty.specs.Change.{duty_call_of}
use Rattle.reader.specs.Shapes.{call_of, TakePromise}
use Rattle.relocking.specs.declared.Feeder.{Feeder}
use Rattle.relocking.specs.declared.Relocked.{Relocked}
use Rattle.relocking.specs.Relock.{beginning, Move, reads, asks, leads, move, moved, led_by, refused_feeder, relocked_by, RelockPromise}
use Rattle.feeding.proofs.CallLists.{paid-append, handed-one, joined-one, paid-one, joined-none, paid-none}
use Rattle.relocking.proofs.CallLists.{relocked_append}
use Rattle.reel_state.specs.declared.Advanced.{Advanced}
use Rattle.reel_state.specs.declared.Event.TheVariants.{Cut}
use Rattle.reel_state.specs.declared.Reel.{Reel}
use Rattle.reel_state.specs.Reading.{blank, Reads, strictly, by_own_sync, Went, StepPromise, SteppedPromise, Stands, is_complete, AdvancePromise, Keeps}

-- ---- one list of calls after another

reads_append : {s : Bool} {f g h : Feeder} {a b c xs ys : List ℕ} {cs ds : List Call} → Reads s f a xs cs g b → Reads s g b ys ds h c
    → Reads s f a (xs ++ ys) (cs ++ ds) h c
reads_append {xs = xs} {ys = ys} {cs = cs} {ds = ds} (strictly p j n) (strictly q k m) =
    let both : joined (cs ++ ds) ≡ xs ++ ys = joined-append cs ds ∙ rw (j, k) in
    strictly (handed-append p q) both (m ∙ n)
reads_append {f = f} {h = h} (by_own_sync {n = i} p n) (by_own_sync {n = j} q m) =
    let more : h.handed ≡ f.handed + (i + j) = omega (arith, n, m) in
    by_own_sync (relocked_append p q) more

module _ {s : Bool} {f g h : Feeder} {a b c xs ys : List ℕ} {m n : ℕ} (p : Went s f a xs m g b) (q : Went s g b ys n h c) where
  pub went_on : Went s f a (xs ++ ys) (m + n) h c
  went_on = record {
    calls = p.calls ++ q.calls;
    reads = reads_append p.reads q.reads;
    paid-is =
        let both = ap length (paid-append p.calls q.calls) in
        omega (arith, both, length-append (paid p.calls) (paid q.calls), p.paid-is, q.paid-is);
  }

pub went_nowhere : (s : Bool) (f : Feeder) (a : List ℕ) → Went s f a [] 0 f a
went_nowhere true f a = record { calls = []; reads = strictly done joined-none refl; paid-is = ap length paid-none }
went_nowhere false f a = record { calls = []; reads = by_own_sync {f = f} {g = f} nothing-relocked (omega arith); paid-is = ap length paid-none }

-- one frame is paid, or none
paid-count : {A : Type 0} (c : Bool) (x : A) → length (cond c (x ∷ []) []) ≡ one c
paid-count true x = refl
paid-count false x = refl

-- ---- a step

-- it counts the lead-in that it hands
handed-more : (m : Move) (f : Feeder) (piece old : List ℕ) → (moved m f piece old).feeder.handed ≡ f.handed + led_by m
handed-more (reads k) f piece old = omega arith
handed-more asks f piece old = omega arith
handed-more leads f piece old = omega arith

module _ (f : Feeder) (piece : List ℕ) (ends : Bool) (old : List ℕ) (r : Result Relocked Refusal) (new : List ℕ)
    (p : RelockPromise f piece ends old r new) where
  abbrev after : Relocked
  after = relocked_by f r

  relock_went : Went false f old (take after.taken piece) (one after.complete) after.feeder new
  relock_went = go (number_of r) refl
    where
      go : (n : ℕ) → number_of r ≡ n → Went false f old (take after.taken piece) (one after.complete) after.feeder new
      go zero z = record {
        calls = p.calls;
        reads =
            by_own_sync (p.relocks z) (ap (λ (x : Relocked). x.feeder.handed) (p.answer_is z) ∙ handed-more (move f piece ends) f piece old);
        paid-is = ap length (p.pays z) ∙ paid-count after.complete new;
      }
      go (suc n) z = let same = p.refused n z in rw (same.0, same.1) (went_nowhere false f old)

  pub steps-by_own_sync : StepPromise false f piece old r new
  steps-by_own_sync = record { refusal_is = p.refusal_is; within = p.within; went = relock_went }

-- what a step promises of an answer holds of any equal to it
module _ {s t : Bool} (way : s ≡ t) {q r : Result Relocked Refusal} (same : q ≡ r) where
  pub step_as : {f : Feeder} {piece old new : List ℕ} → StepPromise t f piece old r new → StepPromise s f piece old q new
  step_as p = rw (way, same) p

taken_is : (c : TakeCall) → taken c ≡ take (answer c).taken c.piece
unfolding taken
taken_is c = refl

pays-is : (c : TakeCall) → pays c ≡ cond (answer c).complete ((answer c).area ∷ []) []
unfolding pays
pays-is c = refl

module _ (f : Feeder) (piece old : List ℕ) (r : Result Taken Refusal) (new : List ℕ) (p : TakePromise (call_of f.tally piece old) r new) where
  abbrev c : TakeCall
  c = call_of f.tally piece old

  -- what the call leaves, beside what goes with the tally
  abbrev left : Tally → Feeder
  left t = record { tally = t; awaits = f.awaits; handed = f.handed }

  take-went : Went true f old (take (answer c).taken piece) (one (answer c).complete) (left (answer c).tally) (answer c).area
  take-went = go (take_refusal c) refl
    where
      Goes : Answer → Type 0
      Goes x = Went true f old (take x.taken piece) (one x.complete) (left x.tally) x.area

      go : (n : ℕ) → take_refusal c ≡ n → Goes (answer c)
      go zero z = record {
        calls = takes c ∷ [];
        reads = strictly (handed-one c z) (joined-one c ∙ taken_is c) refl;
        paid-is = ap length (paid-one c ∙ pays-is c) ∙ paid-count (answer c).complete (answer c).area;
      }
      go (suc n) z = rw (refused-answer c n z) (went_nowhere true f old)

-- a strict step that is refused, and one that is not
pub refused_strictly : (f : Feeder) (piece old : List ℕ) (e : Refusal) (new : List ℕ) → TakePromise (call_of f.tally piece old) (Err e) new
    → StepPromise true f piece old (Err e) new
refused_strictly f piece old e new p =
    record { refusal_is = p.refusal_is; within = p.within; went = rw (sym p.answer_is) at (take-went f piece old (Err e) new p) }

pub steps-strictly : (f : Feeder) (piece old : List ℕ) (r : Taken) (new : List ℕ) → TakePromise (call_of f.tally piece old) (Ok r) new
    → StepPromise true f piece old
    (Ok (record { taken = r.taken; complete = r.complete; more = false; feeder = record { tally = r.tally; awaits = f.awaits; handed = f.handed } })) new
steps-strictly f piece old r new p =
    record { refusal_is = p.refusal_is; within = p.within; went = rw (sym p.answer_is) at (take-went f piece old (Ok r) new p) }

-- ---- a change of duty

joined-duty : (d : DutyCall) → joined (changes d ∷ []) ≡ []
unfolding joined
joined-duty d = refl

paid-duty : (d : DutyCall) → paid (changes d ∷ []) ≡ []
unfolding paid
paid-duty d = refl

module _ (strict : Bool) (f : Feeder) (k : ℕ) (a : List ℕ) where
  abbrev d : DutyCall
  d = duty_call_of f.tally k

  abbrev changed_to : Tally → Feeder
  changed_to t = record { tally = t; awaits = f.awaits; handed = f.handed }

  duty_changed : (s : Bool) → duty_refusal d ≡ 0 → Went s f a [] 0 (changed_to (duty_answer d)) a
  duty_changed true z = record { calls = changes d ∷ []; reads = strictly (changed d z done) (joined-duty d) refl; paid-is = ap length (paid-duty d) }
  duty_changed false z = record {
    calls = changes d ∷ [];
    reads = by_own_sync {f = f} {g = changed_to (duty_answer d)} (changed-between d z nothing-relocked) (omega arith);
    paid-is = ap length (paid-duty d);
  }

  pub went_duty : Went strict f a [] 0 (changed_to (duty_answer d)) a
  went_duty = go (duty_refusal d) refl
    where
      go : (n : ℕ) → duty_refusal d ≡ n → Went strict f a [] 0 (changed_to (duty_answer d)) a
      go zero z = duty_changed strict z
      go (suc n) z = rw (duty_refused d n z) (went_nowhere strict f a)

-- ---- a reel

module _ (reel : Reel) (old : List ℕ) (h : Stands reel old) where
  -- it stands on whatever goes on from it
  pub stands_on : (r : Reel) (bytes new : List ℕ) (n : ℕ) → r.strict ≡ reel.strict → r.taken ≡ reel.taken + length bytes
      → r.frames ≡ reel.frames + n → Went reel.strict reel.feeder old bytes n r.feeder new → Stands r new
  stands_on r bytes new n s t k w = record {
    bytes = h.bytes ++ bytes;
    went = rw (s, k) (went_on h.went w);
    taken_is = omega (arith, t, h.taken_is, length-append h.bytes bytes);
  }

  pub stands_advanced : (r : Advanced) (new : List ℕ) → AdvancePromise reel old r new → Stands r.reel new
  stands_advanced r new p = stands_on r.reel p.bytes new (one (is_complete r.event)) p.strict_is p.taken_is p.frames_is p.went

-- another is on duty, and nothing else has changed
pub stands_duty : (reel r : Reel) (k : ℕ) (a : List ℕ) → r.feeder.tally ≡ duty_answer (duty_call_of reel.feeder.tally k)
    → r.feeder ≡ record { tally = r.feeder.tally; awaits = reel.feeder.awaits; handed = reel.feeder.handed }
    → r.strict ≡ reel.strict → r.taken ≡ reel.taken → r.frames ≡ reel.frames → Stands reel a → Stands r a
stands_duty reel r k a e f s t n h =
    stands_on reel a h r [] a 0 s (omega (arith, t)) (omega (arith, n)) (rw (f, e) (went_duty reel.strict reel.feeder k a))

pub begun-so : (t : Tally) → t ≡ fresh (rule_given 1) → record { tally = t; awaits = false; handed = 0 } ≡ beginning 1
begun-so t e = rw (e, (rule_known 1 refl).1)

-- nothing is read yet
pub stands_begun : (r : Reel) → r.feeder ≡ beginning 1 → r.taken ≡ 0 → r.frames ≡ 0 → Stands r blank
stands_begun r e t n = record { bytes = []; went = rw (e, n) (went_nowhere r.strict (beginning 1) blank); taken_is = t }

-- a step on a piece
pub advances : (reel : Reel) (piece old : List ℕ) (s : Result Relocked Refusal) (new : List ℕ) (r : Advanced)
    → StepPromise reel.strict reel.feeder piece old s new → SteppedPromise reel (relocked_by reel.feeder s) r → AdvancePromise reel old r new
advances reel piece old s new r p q = record {
  bytes = take (relocked_by reel.feeder s).taken piece;
  strict_is = q.strict_is;
  taken_is = omega (arith, q.taken_is, length-take-le (relocked_by reel.feeder s).taken piece p.within);
  frames_is = rw q.complete_is q.frames_is;
  went = rw (q.complete_is, q.feeder_is) p.went;
}

-- a step that is refused leaves the reel as it was
pub stepped_nowhere : (reel : Reel) (r : Advanced) → Keeps reel r → SteppedPromise reel (refused_feeder reel.feeder) r
stepped_nowhere reel r k = record {
  strict_is = k.strict_is;
  taken_is = omega (arith, k.taken_is);
  frames_is = omega (arith, k.frames_is);
  feeder_is = k.feeder_is;
  complete_is = k.none-complete;
}

-- the input goes on, and nothing is taken
pub keeps_advanced : (reel : Reel) (r : Advanced) (a : List ℕ) → Keeps reel r → AdvancePromise reel a r a
keeps_advanced reel r a k = record {
  bytes = [];
  strict_is = k.strict_is;
  taken_is = omega (arith, k.taken_is);
  frames_is = rw k.none-complete (omega (arith, k.frames_is));
  went = rw (k.none-complete, k.feeder_is) (went_nowhere reel.strict reel.feeder a);
}

pub cut_here : (reel : Reel) (a : List ℕ) → AdvancePromise reel a (record { event = Cut; reel = reel }) a
cut_here reel a = keeps_advanced reel _ a (record { strict_is = refl; taken_is = refl; frames_is = refl; feeder_is = refl; none-complete = refl })

pub part_length : (at k : ℕ) (l : List ℕ) → k ≤ length l - at → length (take k (drop at l)) ≡ k
part_length at k l h = length-take-le k (drop at l) (omega (arith, length-drop at l))

-- ---- bytes that go to the front

-- i bytes of `old` from place `at` on stand at the front of l, and behind them nothing has changed
pub record Moved (old : List ℕ) (at i : ℕ) (l : List ℕ) : Type 0 where
  pub size_is : length l ≡ length old
  pub front_is : take i l ≡ take i (drop at old)
  pub rest_stays : (k : ℕ) → i ≤ k → get_or l k 0 ≡ get_or old k 0

pub moved_none : (old : List ℕ) (at : ℕ) → Moved old at 0 old
moved_none old at = record { size_is = refl; front_is = refl; rest_stays = λ k h. refl }

pub moved-one : (old : List ℕ) (at i : ℕ) (l : List ℕ) → Moved old at i l → at + i < length old → Moved old at (i + 1) (set l i (get_or l (at + i) 0))
moved-one old at i l m h = record {
  size_is = rw length-set m.size_is;
  front_is =
      let same : get_or l (at + i) 0 ≡ get_or (drop at old) i 0 = m.rest_stays (at + i) (omega arith) ∙ sym (get_or-drop at old i 0) in
      let moved = take-suc-set l i (get_or l (at + i) 0) (omega (arith, m.size_is)) in
      let wanted = take-suc (drop at old) i 0 (omega (arith, length-drop at old)) in
      rw (add-one, moved, wanted, m.front_is, same);
  rest_stays = λ k b. get_or-set_other l i k (get_or l (at + i) 0) 0 (λ e. omega (arith, e)) ∙ m.rest_stays k (omega arith);
}
