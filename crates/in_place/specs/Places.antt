-- A call of the reader on a tally that is lent as its numbers and its frame: what is left in their places. Definitions only.
use Rattle.std.specs.Prelude.{◌≡◌, Bool, true, false, List, ℕ, Result, Ok, Err}
use Rattle.base.specs.declared.refusal.Refusal.{Refusal}
use Rattle.base.specs.Refusals.{number_of, given_or}
use Rattle.labelling.specs.Calls.{TakeCall, Answer, answer, take_refusal}
use Rattle.own_sync.specs.Locks.{to_lock}
use Rattle.plain_steps.specs.declared.layers.Layers.{Layers}
use Rattle.reader.specs.declared.Locked.{Locked as ReaderLocked}
use Rattle.reader.specs.Shapes.{call_of, part_of, LockPromise}
use Rattle.tally_numbers.specs.Numbers.{is_tally, groups_of, framing_of, runs_of, tally_of, numbers_of, Sized}
use Rattle.in_place.specs.declared.Locked.{Locked}
use Rattle.in_place.specs.declared.Part.{Part}

-- the call that the places stand for
abbrev pub call_in : List ℕ → List ℕ → List ℕ → List ℕ → TakeCall
call_in numbers frame piece area = call_of (tally_of numbers frame) piece area

-- the layers among the numbers
abbrev pub layers_in : List ℕ → Layers
layers_in n = record { groups = groups_of n; framing = framing_of n; runs = runs_of n }

-- what has come of a call that answers r: of a refused one nothing
abbrev pub part_by : Result Part Refusal → Part
part_by r = given_or (record { taken = 0; complete = false }) r

-- the same of a call as far as a lock, and that without the lock
abbrev pub locked_by : Result Locked Refusal → Locked
locked_by r = given_or (record { part = record { taken = 0; complete = false }; locked = false }) r

abbrev pub as_part : Result Locked Refusal → Result Part Refusal
as_part (Ok l) = Ok l.part
as_part (Err e) = Err e

-- the answer a, told as r and left in the places
pub record Left (a : Answer) (r : Part) (numbers frame area : List ℕ) : Type 0 where
  pub numbers_is : numbers ≡ numbers_of a.tally
  pub frame_is : frame ≡ a.tally.frame
  pub area_is : area ≡ a.area
  pub taken_is : r.taken ≡ a.taken
  pub complete_is : r.complete ≡ a.complete
  -- so that its numbers read back as it
  pub sized : Sized a.tally

-- the places as they were
pub record Kept (c : TakeCall) (before numbers frame area : List ℕ) : Type 0 where
  pub numbers_kept : numbers ≡ before
  pub frame_kept : frame ≡ c.tally.frame
  pub area_kept : area ≡ c.area

-- the call c on the numbers n is told as r and leaves the places: it is refused, or it answers as d does. Numbers that are no tally's are not in
-- order
pub record Answered (c d : TakeCall) (n : List ℕ) (r : Result Part Refusal) (numbers frame area : List ℕ) : Type 0 where
  pub no_tally : is_tally n ≡ false → number_of r ≡ 1
  pub refusal_is : is_tally n ≡ true → number_of r ≡ take_refusal c
  pub refused : (number_of r ≡ 0 → ⊥) → Kept c n numbers frame area
  pub accepted : number_of r ≡ 0 → Left (answer d) (part_by r) numbers frame area

-- `take_part` of the call c: its answer is the call's own, or that of its part as far as a lock where that stops it
abbrev pub InPlace : Bool → TakeCall → List ℕ → Result Part Refusal → List ℕ → List ℕ → List ℕ → Type 0
InPlace stop c = Answered c (part_of stop c)

-- an accepted call as far as a lock, as the reader answers it
abbrev pub locked_of : TakeCall → Locked → ReaderLocked
locked_of c r = record {
  taken = record { taken = r.part.taken; complete = r.part.complete; tally = (answer (to_lock c)).tally };
  locked = r.locked;
}

-- the same of a call as far as a lock: it answers as the part of d, and what the reader promises of d holds
pub record LockAnswered (c d : TakeCall) (n : List ℕ) (r : Result Locked Refusal) (numbers frame area : List ℕ) : Type 0 where
  pub in_place : Answered c (to_lock d) n (as_part r) numbers frame area
  pub promised : number_of r ≡ 0 → LockPromise d (Ok (locked_of d (locked_by r))) area

-- `take_to_lock` of the call c
abbrev pub LockedInPlace : TakeCall → List ℕ → Result Locked Refusal → List ℕ → List ℕ → List ℕ → Type 0
LockedInPlace c = LockAnswered c c
