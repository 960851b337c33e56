-- What is read of a reel that comes from files, as it is locked on its frames' own sync or by 01's rules alone. No contract can name the bytes that a
-- read brings; but whatever they are, the feeder that goes from step to step is what a list of calls leaves, handed on from a fresh tally of rule 1.
-- Definitions only.
use Rattle.std.specs.Prelude.{◌≡◌, Bool, true, false, List, ℕ, ◌+◌, ◌≤◌, ◌<◌, ◌^◌, cond, length, take, replicate, Result}
use Rattle.base.specs.declared.refusal.Refusal.{Refusal}
use Rattle.base.specs.Refusals.{number_of}
use Rattle.base.specs.Lists.{one}
use Rattle.labelling.specs.Calls.{take_refusal, Call, joined, paid, Handed}
use Rattle.own_sync.specs.Relocking.{Relocked as RelockedCalls}
use Rattle.relocking.specs.declared.Feeder.{Feeder}
use Rattle.relocking.specs.declared.Relocked.{Relocked}
use Rattle.reader.specs.Shapes.{call_of}
use Rattle.relocking.specs.Relock.{beginning, relock_refusal, relocked_by}
use Rattle.reel_state.specs.declared.Event.{Event}
use Rattle.reel_state.specs.declared.Event.TheVariants.{Onward, Filled, Complete, Cut, Ended, Unreadable, Refused}
use Rattle.reel_state.specs.declared.Advanced.{Advanced}
use Rattle.reel_state.specs.declared.Reel.{Reel}

abbrev pub blank : List ℕ
blank = replicate 16384 0

-- ---- calls

-- from the feeder f and the area a the calls take the bytes of the reel, and leave the feeder g and the area b
pub data Reads : Bool → Feeder → List ℕ → List ℕ → List Call → Feeder → List ℕ → Type 0 where
  -- by 01's rules alone: they are handed the reel's bytes and no other
  strictly : {f g : Feeder} {a b bytes : List ℕ} {calls : List Call} → Handed f.tally a calls g.tally b → joined calls ≡ bytes
      → g.handed ≡ f.handed → Reads true f a bytes calls g b
  -- by the frames' own sync, with n lead-ins among them
  by_own_sync : {f g : Feeder} {a b bytes : List ℕ} {calls : List Call} {n : ℕ}
      → RelockedCalls f.awaits f.tally a bytes calls g.awaits g.tally b n → g.handed ≡ f.handed + n → Reads false f a bytes calls g b

-- the same, and so many major frames are paid on the way
pub record Went (strict : Bool) (f : Feeder) (a bytes : List ℕ) (frames : ℕ) (g : Feeder) (b : List ℕ) : Type 0 where
  pub calls : List Call
  pub reads : Reads strict f a bytes calls g b
  pub paid-is : length (paid calls) ≡ frames

-- ---- a step

-- `step` of a feeder on a piece answers r; the area is old before it and new afterwards
pub record StepPromise (strict : Bool) (f : Feeder) (piece old : List ℕ) (r : Result Relocked Refusal) (new : List ℕ) : Type 0 where
  -- it is refused as its call is, or as the step of the feeder that locks on a frame's own sync
  pub refusal_is : number_of r ≡ cond strict (take_refusal (call_of f.tally piece old)) (relock_refusal f (length piece) (length old))
  pub within : (relocked_by f r).taken ≤ length piece
  pub went : Went strict f old (take (relocked_by f r).taken piece) (one (relocked_by f r).complete) (relocked_by f r).feeder new

-- ---- a reel

-- a reel stands so: of `taken` bytes, with `frames` major frames paid, the feeder and the area are left
pub record Stands (reel : Reel) (area : List ℕ) : Type 0 where
  pub bytes : List ℕ
  pub went : Went reel.strict (beginning 1) blank bytes reel.frames reel.feeder area
  pub taken_is : reel.taken ≡ length bytes

abbrev pub is_complete : Event → Bool
is_complete Onward = false
is_complete Filled = false
is_complete Complete = true
is_complete Cut = false
is_complete Ended = false
is_complete Unreadable = false
is_complete (Refused r) = false

-- `advance` goes on from a reel: some bytes are taken, and a major frame is paid exactly where it says so, by the one who is on duty
pub record AdvancePromise (reel : Reel) (old : List ℕ) (r : Advanced) (new : List ℕ) : Type 0 where
  pub bytes : List ℕ
  pub strict_is : r.reel.strict ≡ reel.strict
  pub taken_is : r.reel.taken ≡ reel.taken + length bytes
  pub frames_is : r.reel.frames ≡ reel.frames + one (is_complete r.event)
  pub went : Went reel.strict reel.feeder old bytes (one (is_complete r.event)) r.reel.feeder new

-- there is room for a step of so many bytes, after so many that were taken, so many major frames and so far into the buffer
pub record Room (taken frames at more : ℕ) : Type 0 where
  pub bytes_bounded : taken ≤ 2 ^ 40
  pub frames_bounded : frames ≤ 2 ^ 40
  pub piece_bounded : more < 2 ^ 63
  pub within : at + more < 2 ^ 64

-- the reel after the step s
pub record SteppedPromise (reel : Reel) (s : Relocked) (r : Advanced) : Type 0 where
  pub strict_is : r.reel.strict ≡ reel.strict
  pub taken_is : r.reel.taken ≡ reel.taken + s.taken
  pub frames_is : r.reel.frames ≡ reel.frames + one s.complete
  pub feeder_is : r.reel.feeder ≡ s.feeder
  pub complete_is : is_complete r.event ≡ s.complete

-- the input goes on, and the reading stands as it stood
pub record Keeps (reel : Reel) (r : Advanced) : Type 0 where
  pub strict_is : r.reel.strict ≡ reel.strict
  pub taken_is : r.reel.taken ≡ reel.taken
  pub frames_is : r.reel.frames ≡ reel.frames
  pub feeder_is : r.reel.feeder ≡ reel.feeder
  pub none-complete : is_complete r.event ≡ false
