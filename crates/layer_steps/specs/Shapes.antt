-- The structs of the layers' steps in the terms of the labelling, and what the steps promise. Definitions only.
use Rattle.std.specs.Prelude.{◌≡◌, List, ℕ, length, Option, Some, None}
use Rattle.base.specs.Format.{minor_frame, major_frame}
use Rattle.labelling.specs.declared.FrameClass.{FrameClass}
use Rattle.labelling.specs.declared.Framing.{Framing}
use Rattle.labelling.specs.declared.Runs.{Runs}
use Rattle.labelling.specs.declared.Word.{Word}
use Rattle.labelling.specs.Machine.{WordEvent, fills, closes_frame, word_event, after_word, filled}
use Rattle.labelling.specs.Machine.{FrameEvent, closed_event, after_frame, area_after, is_complete}
use Rattle.layer_steps.specs.declared.major.Ended.{Ended}
use Rattle.layer_steps.specs.declared.minor.Framed.{Framed}

-- ---- a word that is placed

abbrev pub event_of : Option FrameClass → WordEvent
event_of None = fills
event_of (Some k) = closes_frame k

-- the word w goes to the next place: the frame is old before it and new afterwards
pub record PlacePromise (f : Framing) (w : Word) (old new : List ℕ) (r : Framed) : Type 0 where
  pub event_is : event_of r.closed ≡ word_event f old w
  pub framing_is : r.framing ≡ after_word (word_event f old w) f w
  pub frame_is : new ≡ filled f old w

-- ---- a frame that is closed

-- the event v is counted
pub record Counted (v : FrameEvent) (r : Runs) (e : Ended) : Type 0 where
  pub runs_is : e.runs ≡ after_frame v r
  pub complete_is : e.complete ≡ is_complete v

-- a frame of class k and these bytes closes: the area is old before it and new afterwards
pub record EndPromise (r : Runs) (k : FrameClass) (bytes old new : List ℕ) (e : Ended) : Type 0 where
  pub counted : Counted (closed_event k bytes r.building) r e
  pub area_is : new ≡ area_after (closed_event k bytes r.building) bytes old

-- ---- what is lent

-- the frame and the area have their lengths
pub record Lent (frame area : List ℕ) : Type 0 where
  pub frame-length : length frame ≡ minor_frame
  pub area_length : length area ≡ major_frame
