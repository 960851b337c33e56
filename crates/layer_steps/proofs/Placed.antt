-- A word that is placed: from the tests that led to a return of `place` to what it promises. Assumes nothing.
use mathlib.Core.Path.{◌≡◌, ap, ◌∙◌}
use mathlib.Core.Bool.{Bool, false}
use mathlib.Core.List.{List}
use Prim.Native.Nat.{ℕ, ◌+◌, ◌≤◌, ◌<◌}
use borrow.Author.Tests.{lt-ltb, le-ltb}
use Rattle.labelling.specs.declared.FrameClass.{FrameClass}
use Rattle.labelling.specs.declared.Framing.{Framing}
use Rattle.labelling.specs.declared.Word.{Word}
use Rattle.labelling.specs.Machine.{closes_frame, synced_bytes, bytes_class, filled, marked, word_event, after_closing_frame}
use Rattle.std.proofs.Common.{Some, None}
use Rattle.layer_steps.specs.Shapes.{PlacePromise}

-- one place more is filled, and e tells of an erasure
abbrev pub one_more : Framing → Bool → Framing
one_more f e = record {
  hunted = f.hunted;
  good = f.good;
  damaged = f.damaged;
  unsynced = f.unsynced;
  placed = f.placed + 1;
  hunting = f.hunting;
  matched = f.matched;
  erasure = e;
}

-- the word is stored, and e is the mark that it leaves
pub record Storing (f : Framing) (w : Word) (old new : List ℕ) (e : Bool) : Type 0 where
  pub placing : f.hunting ≡ false
  pub stored : new ≡ filled f old w
  pub mark : e ≡ marked f w

module _ {f : Framing} {w : Word} {old new : List ℕ} {e : Bool} (s : Storing f w old new e) where
  pub placed-more : f.placed < 127 → PlacePromise f w old new (record { framing = one_more f e; closed = None })
  unfolding word_event
  placed-more h =
      let room = lt-ltb f.placed 127 h in
      record { event_is = rw (s.placing, room); framing_is = rw (s.placing, room, s.mark); frame_is = s.stored }

  abbrev last_class : FrameClass
  last_class = bytes_class (synced_bytes (filled f old w)) (marked f w)

  last_event : 127 ≤ f.placed → word_event f old w ≡ closes_frame last_class
  unfolding word_event
  last_event h = rw (s.placing, le-ltb f.placed 127 h)

  pub placed-last : {k : FrameClass} {g : Framing} → 127 ≤ f.placed → k ≡ bytes_class (synced_bytes new) e → g ≡ after_closing_frame k f
      → PlacePromise f w old new (record { framing = g; closed = Some k })
  placed-last {k} h class after =
      let class_is : k ≡ last_class = class ∙ rw (s.stored, s.mark) in
      record {
        event_is = rw (last_event h, class_is);
        framing_is = rw (last_event h) (after ∙ ap (λ (j : FrameClass). after_closing_frame j f) class_is);
        frame_is = s.stored;
      }
