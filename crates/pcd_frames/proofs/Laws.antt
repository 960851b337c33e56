-- Whatever comes of a reel, it stands as its calls left it, and each frame that they paid is written. Assumes nothing.
use mathlib.Core.Path.{◌≡◌, ap}
use mathlib.Core.Bool.{false}
use mathlib.Core.List.{List}
use Prim.Native.Nat.{ℕ, ◌+◌}
use native.Mathlib.Omega.{arith}
use Rattle.base.specs.Lists.{one}
use Rattle.reel_state.specs.declared.Advanced.{Advanced}
use Rattle.reel_state.specs.declared.Event.{Event}
use Rattle.reel_state.specs.declared.Event.TheVariants.{Complete}
use Rattle.reel_state.specs.declared.Reel.{Reel}
use Rattle.reel_state.specs.Reading.{blank, Stands, is_complete, AdvancePromise}
use Rattle.reel_reading.proofs.Laws.{stands_advanced}
use Rattle.frames_state.specs.declared.State.{State}
use Rattle.frames_state.specs.Frames.{AllWritten, AllRead, Came, SameReel, ShiftChanged}

frames-same : {x y : Reel} → x ≡ y → x.frames ≡ y.frames
frames-same e = ap (λ (x : Reel). x.frames) e

-- nothing is read and nothing written
pub all-begun : (s : State) → Stands s.reel blank × (s.reel.frames ≡ 0) → s.written ≡ 0 → AllWritten s blank
all-begun s h w = record { stands = h.0; written_is = omega (arith, w, h.1) }

pub all_read : (s : State) (area : List ℕ) → AllWritten s area → AllRead s
all_read s area h = record { area = area; all = h }

-- the reel has gone on
pub came : (s : State) (a : Advanced) (old new : List ℕ) (r : State) → AllWritten s old → AdvancePromise s.reel old a new → r.reel ≡ a.reel
    → r.written ≡ s.written → Came a.event r new
came s a old new r h p e w = record {
  stands = rw e (stands_advanced s.reel old h.stands a new p);
  written_is = omega (arith, w, h.written_is, p.frames_is, frames-same e);
}

module _ (event : Event) (s : State) (area : List ℕ) (h : Came event s area) where
  -- no frame is complete, and nothing is read or written
  pub settled : (r : State) → is_complete event ≡ false → SameReel s r → AllWritten r area
  settled r e same = record {
    stands = rw same.reel_is h.stands;
    written_is = let none : one (is_complete event) ≡ 0 = ap one e in omega (arith, same.written_is, h.written_is, none, frames-same same.reel_is);
  }

  pub shifted : (r : State) → is_complete event ≡ false → ShiftChanged s r → AllWritten r area
  shifted r e c = record {
    stands = c.stays area h.stands;
    written_is = let none : one (is_complete event) ≡ 0 = ap one e in omega (arith, c.written_is, h.written_is, none, c.frames_is);
  }

  -- a frame is complete
  pub due : event ≡ Complete → s.written + 1 ≡ s.reel.frames
  due e = let some : one (is_complete event) ≡ 1 = ap (λ (x : Event). one (is_complete x)) e in omega (arith, h.written_is, some)

  pub wrote : (r : State) → r.reel ≡ s.reel → r.written ≡ s.reel.frames → AllWritten r area
  wrote r e w = record { stands = rw e h.stands; written_is = omega (arith, w, frames-same e) }
