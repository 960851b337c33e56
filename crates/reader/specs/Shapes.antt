-- The reader's own structs in the terms of the labelling, and what `take` and `take_to_lock` promise. Definitions only.
use Rattle.std.specs.Prelude.{◌≡◌, Bool, true, false, not, ◌&&◌, ◌||◌, List, ℕ, suc, ◌+◌, ◌≤◌, ◌<◌, eqb, length, Result, Ok, Err}
use Rattle.base.specs.Lists.{one}
use Rattle.base.specs.declared.refusal.Refusal.{Refusal}
use Rattle.base.specs.Refusals.{number_of, given_or}
use Rattle.labelling.specs.declared.Framing.{Framing}
use Rattle.labelling.specs.declared.Tally.{Tally}
use Rattle.labelling.specs.Votes.{rule_vote}
use Rattle.labelling.specs.Machine.{state_of}
use Rattle.labelling.specs.Order.{in_order}
use Rattle.labelling.specs.Calls.{TakeCall, take_refusal, Answer, answer}
use Rattle.own_sync.specs.Locks.{locks, up_to, to_lock}
use Rattle.reader.specs.declared.Locked.{Locked}
use Rattle.reader.specs.declared.Taken.{Taken}

-- ---- a call that takes bytes

abbrev pub call_of : Tally → List ℕ → List ℕ → TakeCall
call_of t piece area = record { tally = t; piece = piece; area = area }

abbrev pub answer_of : Taken → List ℕ → Answer
answer_of r area = record { tally = r.tally; area = area; taken = r.taken; complete = r.complete }

-- a refused call takes no bytes, and its tally is the one that was given
abbrev pub untaken : Tally → Taken
untaken t = record { taken = 0; complete = false; tally = t }

-- what has come of a call on the tally t that answers r
abbrev pub taken_by : Tally → Result Taken Refusal → Taken
taken_by t r = given_or (untaken t) r

-- `take` of the call c answers r and leaves the area
pub record TakePromise (c : TakeCall) (r : Result Taken Refusal) (area : List ℕ) : Type 0 where
  pub refusal_is : number_of r ≡ take_refusal c
  pub answer_is : answer_of (taken_by c.tally r) area ≡ answer c
  -- all of the piece is taken, or some of it where a major frame is complete
  pub within : (taken_by c.tally r).taken ≤ length c.piece
  pub takes_all : number_of r ≡ 0 → (taken_by c.tally r).complete ≡ false → (taken_by c.tally r).taken ≡ length c.piece
  pub takes_some : (taken_by c.tally r).complete ≡ true → 0 < (taken_by c.tally r).taken
  -- from a tally in order a tally in order is left
  pub stays_ordered : in_order c.tally ≡ true → in_order (taken_by c.tally r).tally ≡ true

-- ---- a call that also stops at a lock

-- a call, or its part as far as a lock, where that stops it
abbrev pub part_of : Bool → TakeCall → TakeCall
part_of stop c = call_of c.tally (up_to (rule_vote c.tally.rule) stop (state_of c.tally) c.area c.piece) c.area

-- the call c, or its part: refused as the whole piece is, and else `take` of the part
pub record PartPromise (stop : Bool) (c : TakeCall) (r : Result Taken Refusal) (area : List ℕ) : Type 0 where
  pub refused : (n : ℕ) → take_refusal c ≡ suc n → TakePromise c r area
  pub accepted : take_refusal c ≡ 0 → TakePromise (part_of stop c) r area

-- how the code tells a lock, from the second layer before a call and after it
abbrev pub locked_by : Framing → Framing → Bool
locked_by before after = not after.hunting && (before.hunting || not (eqb after.unsynced before.unsynced))

-- what has come of such a call on the tally t that answers r: after a refusal no hunt has ended
abbrev pub locked_at : Tally → Result Locked Refusal → Locked
locked_at t r = given_or (record { taken = untaken t; locked = false }) r

-- the same without the lock
abbrev pub as_taken : Result Locked Refusal → Result Taken Refusal
as_taken (Ok l) = Ok l.taken
as_taken (Err e) = Err e

-- `take_to_lock` of the call c answers r and leaves the area: it is refused as the whole piece is, and else it is `take` of the part of the piece as
-- far as the byte that ends a hunt
pub record LockPromise (c : TakeCall) (r : Result Locked Refusal) (area : List ℕ) : Type 0 where
  pub refusal_is : number_of r ≡ take_refusal c
  pub refused : (n : ℕ) → take_refusal c ≡ suc n → TakePromise c (as_taken r) area
  pub accepted : take_refusal c ≡ 0 → TakePromise (to_lock c) (as_taken r) area
  -- whether a hunt has ended: of the hunts that have ended there is one more, or none
  pub locked-is : locks (locked_at c.tally r).taken.tally.framing ≡ locks c.tally.framing + one (locked_at c.tally r).locked
  -- all of the piece is taken, or some of it where a major frame is complete or a hunt has ended
  pub takes_all : number_of r ≡ 0 → (locked_at c.tally r).taken.complete ≡ false → (locked_at c.tally r).locked ≡ false
      → (locked_at c.tally r).taken.taken ≡ length c.piece
  pub takes_some : (locked_at c.tally r).locked ≡ true → 0 < (locked_at c.tally r).taken.taken
