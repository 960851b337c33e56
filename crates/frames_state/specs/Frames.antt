-- What reading a reel and writing its frames promises. Definitions only.
use Rattle.std.specs.Prelude.{◌≡◌, List, ℕ, ◌+◌}
use Rattle.base.specs.Lists.{one}
use Rattle.reel_state.specs.declared.Event.{Event}
use Rattle.reel_state.specs.Reading.{Stands, is_complete}
use Rattle.frames_state.specs.declared.State.{State}

-- the tally is that of the bytes read, and each major frame that is paid was written once
pub record AllWritten (s : State) (area : List ℕ) : Type 0 where
  pub stands : Stands s.reel area
  pub written_is : s.written ≡ s.reel.frames

-- this has come of the reel: a major frame that is paid by it is still to be written
pub record Came (event : Event) (s : State) (area : List ℕ) : Type 0 where
  pub stands : Stands s.reel area
  pub written_is : s.written + one (is_complete event) ≡ s.reel.frames

-- the whole reel is read so, whatever the area holds
pub record AllRead (s : State) : Type 0 where
  pub area : List ℕ
  pub all : AllWritten s area

-- nothing is read and nothing written between them
pub record SameReel (s r : State) : Type 0 where
  pub reel_is : r.reel ≡ s.reel
  pub written_is : r.written ≡ s.written

-- a shift has changed, and nothing else has
pub record ShiftChanged (s r : State) : Type 0 where
  pub stays : (a : List ℕ) → Stands s.reel a → Stands r.reel a
  pub frames_is : r.reel.frames ≡ s.reel.frames
  pub written_is : r.written ≡ s.written
