-- A step that locks on a frame's own sync, as it crosses: the feeder is the numbers of its tally, and two beside them. Definitions only.
use Rattle.std.specs.Prelude.{◌≡◌, Bool, true, false, cond, not, ◌&&◌, ◌||◌, List, [], ◌∷◌, ℕ, ◌+◌, ◌/◌, ◌^◌, ◌≤◌, eqb, ltb, length, get_or, Result, Ok, Err}
use Rattle.base.specs.declared.refusal.Refusal.{Refusal}
use Rattle.base.specs.Lists.{one}
use Rattle.base.specs.Refusals.{◌when◌, answered, number, number_of, given_or}
use Rattle.base.specs.declared.refusal.Refusal.TheVariants.{NotInOrder}
use Rattle.labelling.specs.declared.Tally.{Tally}
use Rattle.relocking.specs.declared.Feeder.{Feeder}
use Rattle.relocking.specs.declared.Relocked.{Relocked}
use Rattle.relocking.specs.Relock.{stands_at_lock, relock_refusal, move, moved, area_moved, RelockPromise}
use Rattle.tally_numbers.specs.Numbers.{is_tally, tally_of, numbers_of}
use Rattle.in_place.specs.declared.Locked.{Locked}
use Rattle.relock_crossing.specs.declared.Step.{Step}

-- the numbers are a feeder's: a tally's, and a flag that is 1 or 0
unfoldable pub is_feeder : List ℕ → List ℕ → Bool
is_feeder n feeder = is_tally n && ltb (get_or feeder 0 0) 2

abbrev pub feeder_of : List ℕ → List ℕ → List ℕ → Feeder
feeder_of n frame feeder = record { tally = tally_of n frame; awaits = eqb (get_or feeder 0 0) 1; handed = get_or feeder 1 0 }

-- the places lent beside the piece
pub record LentFeeder : Type 0 where
  pub numbers : List ℕ
  pub frame : List ℕ
  pub feeder : List ℕ
  pub area : List ℕ
  pub answer : List ℕ

abbrev pub lent_feeder : List ℕ → List ℕ → List ℕ → List ℕ → List ℕ → LentFeeder
lent_feeder numbers frame feeder area answer = record { numbers = numbers; frame = frame; feeder = feeder; area = area; answer = answer }

-- the feeder that they are
abbrev pub feeder_in : LentFeeder → Feeder
feeder_in l = feeder_of l.numbers l.frame l.feeder

-- numbers that are no feeder's are not in order: 1, before the lines of the step, of which 1 is the first too; from the lengths of the piece and of
-- the area
abbrev pub refused_by : List ℕ → List ℕ → List ℕ → ℕ → ℕ → ℕ
refused_by n frame feeder piece area = answered number (NotInOrder when not (is_feeder n feeder) ∷ []) (relock_refusal (feeder_of n frame feeder) piece area)

unfoldable pub relock_refused : LentFeeder → List ℕ → ℕ
relock_refused l piece = refused_by l.numbers l.frame l.feeder (length piece) (length l.area)

-- a step's answer and the area that it leaves, as they cross
abbrev pub step_written : Relocked → List ℕ → LentFeeder
step_written r area =
    lent_feeder (numbers_of r.feeder.tally) r.feeder.tally.frame (one r.feeder.awaits ∷ r.feeder.handed ∷ []) area
    (r.taken ∷ one r.complete ∷ one r.more ∷ [])

-- what is left: that answer, and after a refusal all as it was
unfoldable pub relock_leaves : LentFeeder → List ℕ → Bool → LentFeeder
relock_leaves l piece ends =
    let f = feeder_in l in
    let m = move f piece ends in
    cond (eqb (relock_refused l piece) 0) (step_written (moved m f piece l.area) (area_moved m f piece l.area)) l

-- `relock` of a piece, with these places lent, returns r and leaves them so
pub record RelockCrossed (l : LentFeeder) (piece : List ℕ) (ends : Bool) (r : ℕ) (left : LentFeeder) : Type 0 where
  pub refusal_is : r ≡ relock_refused l piece
  pub left_is : left ≡ relock_leaves l piece ends

-- ---- its parts

-- whether the bytes have room for the lead-ins that were handed, and for another after the piece
pub record Fits (bytes handed piece : ℕ) (r : Bool) : Type 0 where
  pub fit : r ≡ true → (handed ≤ bytes / 12) × (bytes + piece + 12 ≤ 2 ^ 40)
  pub miss : r ≡ false → handed ≤ bytes / 12 → bytes + piece + 12 ≤ 2 ^ 40 → ⊥

-- a lock awaits its word, and all holds of the feeder that a step on a piece of this length asks for beside the order of its tally
pub record Waiting (n frame feeder : List ℕ) (piece : ℕ) : Type 0 where
  pub awaits : get_or feeder 0 0 ≡ 1
  pub stands : stands_at_lock (tally_of n frame) ≡ true
  pub few : get_or feeder 1 0 ≤ get_or n 0 0 / 12
  pub fits : get_or n 0 0 + piece + 12 ≤ 2 ^ 40

-- what has come of a step that answers s: of a refused one nothing
abbrev pub step_by : Result Step Refusal → Step
step_by s = given_or (record { taken = 0; complete = false; more = false; awaits = false; handed = 0 }) s

-- a call as far as a lock, as a step
abbrev pub step_made : Locked → Bool → ℕ → Step
step_made r waits handed =
    record { taken = r.part.taken; complete = r.part.complete; more = false; awaits = waits || r.locked; handed = handed }

abbrev pub step_of : Result Locked Refusal → Bool → ℕ → Result Step Refusal
step_of (Ok r) waits handed = Ok (step_made r waits handed)
step_of (Err e) waits handed = Err e

-- an accepted step with the tally that it leaves, as `relocking` answers it
abbrev pub relocked_of : Step → Tally → Relocked
relocked_of s t = record {
  taken = s.taken;
  complete = s.complete;
  more = s.more;
  feeder = record { tally = t; awaits = s.awaits; handed = s.handed };
}

-- the tally t is left in the places
pub record Holds (t : Tally) (numbers frame : List ℕ) : Type 0 where
  pub numbers_is : numbers ≡ numbers_of t
  pub frame_is : frame ≡ t.frame

-- an accepted step of the feeder f is told as s and left in the places
pub record Moves (f : Feeder) (piece : List ℕ) (ends : Bool) (old : List ℕ) (s : Step) (numbers frame new : List ℕ) : Type 0 where
  pub tally : Tally
  pub holds : Holds tally numbers frame
  pub promised : RelockPromise f piece ends old (Ok (relocked_of s tally)) new

-- the bytes are asked for again
pub record Asks (n frame : List ℕ) (handed : ℕ) (s : Step) (numbers left : List ℕ) : Type 0 where
  pub step_is : s ≡ record { taken = 0; complete = false; more = true; awaits = true; handed = handed }
  pub holds : Holds (tally_of n frame) numbers left

-- a step from these places is told as s and leaves them so
pub record StepCrossed (n frame feeder piece : List ℕ) (ends : Bool) (old : List ℕ) (s : Result Step Refusal) (numbers left new : List ℕ) : Type 0 where
  pub refusal_is : number_of s ≡ refused_by n frame feeder (length piece) (length old)
  pub refused : (number_of s ≡ 0 → ⊥) → (numbers ≡ n) × (left ≡ frame) × (new ≡ old)
  pub accepted : number_of s ≡ 0 → Moves (feeder_of n frame feeder) piece ends old (step_by s) numbers left new
