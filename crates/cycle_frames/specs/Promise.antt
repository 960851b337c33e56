-- What `next` promises: its complete answer and every lent byte; and of every list of frames, that exactly its cycles are given. Definitions only.
use Rattle.std.specs.Prelude.{◌≡◌, true, List, [], ◌∷◌, ◌++◌, ℕ, ◌+◌, ◌*◌, length, Result, Ok}
use Rattle.base.specs.declared.refusal.Refusal.{Refusal}
use Rattle.base.specs.Refusals.{number_of}
use Rattle.cycle.specs.Cycle.{is_cycle}
use Rattle.cycle_frames.specs.declared.Brought.{Brought}
use Rattle.cycle_frames.specs.Cycles.{cycles_in}
use Rattle.cycle_frames.specs.Gathering.{held_in, next_refusal, next_of, area_after, cycle_given, Taken}

-- of frames taken one after the other: the cycles given are those of the whole list; each other frame is held or left out
pub record Gathered (y : ℕ) (frames cycles : List (List ℕ)) (left bits : ℕ) : Type 0 where
  pub exactly : cycles ≡ cycles_in y frames
  pub each_once : length frames ≡ 4 * length cycles + held_in bits + left

-- `next` of the frame answers r and leaves new
pub record NextPromise (y : ℕ) (area : List ℕ) (bits : ℕ) (frame new : List ℕ) (r : Result Brought Refusal) : Type 0 where
  pub answer : r ≡ next_of y area bits frame
  pub after : new ≡ area_after y area bits frame
  pub refusal_is : number_of r ≡ next_refusal area bits frame
  -- the call goes on any list of calls that led to the bits and the area that it is handed
  pub goes_on : {frames cycles : List (List ℕ)} {left : ℕ} {b : Brought} → r ≡ Ok b → Taken y frames cycles left bits area
      → Taken y (frames ++ (frame ∷ [])) (cycles ++ cycle_given b new) (left + b.omitted) b.bits new
  pub gathered : {frames cycles : List (List ℕ)} {left : ℕ} {b : Brought} → r ≡ Ok b → Taken y frames cycles left bits area
      → Gathered y (frames ++ (frame ∷ [])) (cycles ++ cycle_given b new) (left + b.omitted) b.bits
  -- what is given is a cycle of a book
  pub is_cycle_fact : {frames cycles : List (List ℕ)} {left : ℕ} {b : Brought} → r ≡ Ok b → Taken y frames cycles left bits area
      → b.whole ≡ true → is_cycle y new ≡ true
