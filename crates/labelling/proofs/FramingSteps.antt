-- One word more in the layer of words: it is hunted, or fills a place, or closes the frame that the cut closes. One law makes a step of the
-- pieces that the word cuts off and the part that is kept after it. Assumes nothing.
use mathlib.Core.Path.{◌≡◌, refl, sym, ap, ◌∙◌}
use mathlib.Core.Bool.{Bool, true, false, cond, ◌||◌}
use mathlib.Core.List.{List, [], ◌∷◌, ◌++◌, map, append_assoc, map-append}
use Prim.Native.Nat.{ℕ, ◌+◌, ◌<◌}
use native.Mathlib.Omega.{arith}
use native.Mathlib.Numerals.{add-one}
use lib.Dec.{ltb}
use lib.ListN.{length, take, drop, replicate, length-append, length-set}
use lib.Seq.{take_all, take-suc-set, drop-set-lt, drop-drop}
use borrow.Author.Tests.{ltb-true, ltb-false}
use Rattle.base.specs.Format.{minor_frame}
use Rattle.base.specs.Lists.{concat_map, sum_by, one}
use Rattle.base.proofs.Lists.{concat_map-append, sum_by-append}
use Rattle.labelling.specs.declared.FrameClass.{FrameClass}
use Rattle.labelling.specs.declared.FrameClass.TheVariants.{Good, Damaged, Unsynced}
use Rattle.labelling.specs.declared.Framing.{Framing}
use Rattle.labelling.specs.declared.Word.{Word}
use Rattle.labelling.specs.MinorFrames.{is_word, is_erased, any_erased, frame_class, same_class, Mode, hunting, placing, mode_after, Piece, hunted}
use Rattle.labelling.specs.MinorFrames.{frame, frame_of, frames, in_hunted, classed}
use Rattle.labelling.specs.MajorFrames.{value, values}
use Rattle.labelling.specs.Machine.{WordEvent, hunts, locks, fills, closes_frame, sync_word, hunt_event, synced_bytes, bytes_class, filled, marked}
use Rattle.labelling.specs.Machine.{word_event, after_word, frame_after}
use Rattle.labelling.specs.Rest.{latest, hunts_after, match_in, part_of}
use Rattle.labelling.proofs.Residual.{residual_cut}
use Rattle.labelling.proofs.Closing.{Closes}
use Rattle.labelling.proofs.Latest.{latest-map}
use Rattle.labelling.proofs.Ends.{EndsBy, ends_more, hunt-ended, match_ended}
use Rattle.labelling.proofs.Hunt.{Sought, hunted_word}
use Rattle.labelling.proofs.Pieces.{cuts, hunt-ends, frame-closes}
use Rattle.labelling.proofs.FrameClasses.{erased_snoc, class_of-bytes, classed-append}
use Rattle.labelling.proofs.FramingState.{CutTo, InHunt, InFrame, InMode, tallied, latest_frame, FramingInv, hunt-begins, frame-begins}
use Rattle.labelling.proofs.FramingState.{frames-now}

pub record FramingStep (e : WordEvent) (f' : Framing) (bytes' : List ℕ) (ws ws' : List Word) : Type 0 where
  pub inv : FramingInv f' bytes' ws'
  pub new : List (List Word)
  pub closes : Closes e bytes' new
  pub more : frames ws' ≡ frames ws ++ new

-- a closed frame is counted in its class
tallied-closed : (k j : FrameClass) (f : Framing) (w : Word) → tallied (after_word (closes_frame k) f w) j ≡ tallied f j + one (same_class j k)
tallied-closed Good Good f w = omega arith
tallied-closed Good Damaged f w = omega arith
tallied-closed Good Unsynced f w = omega arith
tallied-closed Damaged Good f w = omega arith
tallied-closed Damaged Damaged f w = omega arith
tallied-closed Damaged Unsynced f w = omega arith
tallied-closed Unsynced Good f w = omega arith
tallied-closed Unsynced Damaged f w = omega arith
tallied-closed Unsynced Unsynced f w = omega arith

module _ (f : Framing) (bytes : List ℕ) (w : Word) (ws : List Word) (i : FramingInv f bytes ws) where
  -- the state and the step where the word is the event e, and cuts the pieces `more`
  abbrev StateAfter : WordEvent → List ℕ → List Word → List Piece → Type 0
  StateAfter e bytes' kept' more = InMode (after_word e f w).hunting (after_word e f w) bytes' kept' (i.out ++ more) (ws ++ w ∷ [])

  abbrev Step : WordEvent → List ℕ → Type 0
  Step e bytes' = FramingStep e (after_word e f w) bytes' ws (ws ++ w ∷ [])

  -- the part kept, and the word
  abbrev longer : List Word
  longer = i.kept ++ w ∷ []

  one-longer : length longer ≡ length i.kept + 1
  one-longer = length-append i.kept (w ∷ [])

  -- the cut goes on, with kept' kept
  cut_on : {m : Mode} (m' : Mode) (kept' : List Word) (more : List Piece) → CutTo m i.kept i.out ws
      → ((ys : List Word) → cuts m (longer ++ ys) ≡ more ++ cuts m' (kept' ++ ys)) → CutTo m' kept' (i.out ++ more) (ws ++ w ∷ [])
  cut_on {m} m' kept' more r h = residual_cut (cuts m') kept' more w r (λ ys. ap (cuts m) (sym (append_assoc i.kept (w ∷ []) ys)) ∙ h ys)

  -- what each of the four events has to show: it cuts the pieces `more`, and kept' is kept after it
  record Moved (e : WordEvent) (bytes' : List ℕ) (kept' : List Word) (more : List Piece) : Type 0 where
    state : StateAfter e bytes' kept' more
    full : length bytes' ≡ 128
    no_part : concat_map part_of more ≡ []
    counts : (k : FrameClass) → tallied (after_word e f w) k ≡ tallied f k + classed k (concat_map frame_of more)
    mode_is : latest f.hunting (map hunts_after more) ≡ (after_word e f w).hunting
    no_match : latest 0 (map match_in more) ≡ 0
    unreached : let n = (after_word e f w).placed in drop n bytes' ≡ drop n (latest (latest_frame i.out) (map values (concat_map frame_of more)))
    closes : Closes e bytes' (concat_map frame_of more)

  stepped : {e : WordEvent} {bytes' : List ℕ} {kept' : List Word} {more : List Piece} → Moved e bytes' kept' more → Step e bytes'
  stepped {e} {bytes'} {kept'} {more} m = record {
    inv = inv;
    new = concat_map frame_of more;
    closes = m.closes;
    more = rw (frames-now f bytes ws i, frames-now (after_word e f w) bytes' (ws ++ w ∷ []) inv) (concat_map-append frame_of i.out more);
  }
    where
      last_frame : latest_frame (i.out ++ more) ≡ latest (latest_frame i.out) (map values (concat_map frame_of more))
      last_frame =
          rw (concat_map-append frame_of i.out more)
          (latest-map values (replicate minor_frame 0) (concat_map frame_of i.out) (concat_map frame_of more))

      inv : FramingInv (after_word e f w) bytes' (ws ++ w ∷ [])
      inv = record {
        kept = kept';
        out = i.out ++ more;
        state = m.state;
        full = m.full;
        no_part = rw (concat_map-append part_of i.out more, i.no_part, m.no_part);
        counts = λ k. rw concat_map-append (omega (arith, m.counts k, i.counts k, classed-append k (concat_map frame_of i.out) (concat_map frame_of more)));
        mode_is = latest-map hunts_after true i.out more ∙ rw i.mode_is m.mode_is;
        no_match = latest-map match_in 0 i.out more ∙ rw i.no_match m.no_match;
        unreached = rw last_frame m.unreached;
      }

  -- while hunting
  hunting_step : f.hunting ≡ true → InHunt f i.kept i.out ws → (e : WordEvent) → Sought e longer → EndsBy e longer → Step e bytes
  unfolding classed
  hunting_step h s (hunts n) sought ends = stepped record {
    state = record {
      rest = cut_on hunting longer [] s.rest (λ ys. refl);
      matched = sought;
      ends = ends;
      hunted_is = omega (arith, one-longer, sum_by-append in_hunted i.out []);
      none-placed = s.none-placed;
      none-erased = s.none-erased;
    };
    full = i.full;
    no_part = refl;
    counts = λ k. omega arith;
    mode_is = h;
    no_match = refl;
    unreached = i.unreached;
    closes = refl;
  }
  hunting_step h s locks sought ends = stepped record {
    state =
        frame-begins refl s.none-placed s.none-erased (omega (arith, one-longer, sum_by-append in_hunted i.out (hunted longer ∷ [])))
        (cut_on placing [] (hunted longer ∷ []) s.rest (λ ys. hunt-ends longer ys (omega (arith, one-longer)) (sought ys)));
    full = i.full;
    no_part = refl;
    counts = λ k. omega arith;
    mode_is = hunt-ended longer ends;
    no_match = match_ended longer ends;
    unreached = i.unreached;
    closes = refl;
  }
  hunting_step h s fills sought ends = absurd sought
  hunting_step h s (closes_frame k) sought ends = absurd sought

  -- while placing
  module _ (s : InFrame f bytes i.kept i.out ws) where
    bytes_full : length (filled f bytes w) ≡ 128
    bytes_full = length-set bytes f.placed (value w) ∙ i.full

    longer-stored : values longer ≡ take (f.placed + 1) (filled f bytes w)
    longer-stored = rw (map-append, add-one, take-suc-set bytes f.placed (value w) (omega arith), ← s.stored)

    longer-erasure : any_erased longer ≡ marked f w
    longer-erasure = erased_snoc i.kept w ∙ ap (λ (b : Bool). b || is_erased w) s.erasure_is

    still_hunted : (more : List Piece) → sum_by in_hunted more ≡ 0 → f.hunted ≡ sum_by in_hunted (i.out ++ more)
    still_hunted more e = omega (arith, sum_by-append in_hunted i.out more)

    -- the place that w is stored at is reached with it, and the others stay
    still_unreached : drop (f.placed + 1) (filled f bytes w) ≡ drop (f.placed + 1) (latest_frame i.out)
    still_unreached =
        drop-set-lt (f.placed + 1) bytes f.placed (value w) (omega arith)
        ∙ sym (drop-drop 1 f.placed bytes) ∙ ap (drop 1) i.unreached ∙ drop-drop 1 f.placed (latest_frame i.out)

    fills_step : f.hunting ≡ false → f.placed < 127 → Step fills (filled f bytes w)
    unfolding classed
    fills_step placing-now h = stepped record {
      state = record {
        rest = cut_on placing longer [] s.rest (λ ys. refl);
        placed-is = omega (arith, one-longer);
        few = omega arith;
        stored = longer-stored;
        erasure_is = longer-erasure;
        unmatched = s.unmatched;
        hunted_is = still_hunted [] refl;
      };
      full = bytes_full;
      no_part = refl;
      counts = λ k. omega arith;
      mode_is = placing-now;
      no_match = refl;
      unreached = still_unreached;
      closes = refl;
    }

    -- the word is the frame's last
    module _ (last : f.placed ≡ 127) where
      words-full : length longer ≡ 128
      words-full = omega (arith, one-longer)

      all-stored : values longer ≡ filled f bytes w
      all-stored = longer-stored ∙ take_all (f.placed + 1) (filled f bytes w) (omega (arith, bytes_full))

      mode_begins : (k : FrameClass) → CutTo (mode_after k) [] (i.out ++ frame longer ∷ []) (ws ++ w ∷ [])
          → StateAfter (closes_frame k) (filled f bytes w) [] (frame longer ∷ [])
      mode_begins Good r = frame-begins s.unmatched refl refl (still_hunted (frame longer ∷ []) refl) r
      mode_begins Damaged r = frame-begins s.unmatched refl refl (still_hunted (frame longer ∷ []) refl) r
      mode_begins Unsynced r = hunt-begins refl refl refl (still_hunted (frame longer ∷ []) refl) r

      hunts-again : (k : FrameClass) → same_class Unsynced k ≡ (after_word (closes_frame k) f w).hunting
      hunts-again Good = refl
      hunts-again Damaged = refl
      hunts-again Unsynced = refl

      none-placed : (k : FrameClass) → (after_word (closes_frame k) f w).placed ≡ 0
      none-placed Good = refl
      none-placed Damaged = refl
      none-placed Unsynced = refl

      closes_step : (k : FrameClass) → frame_class longer ≡ k → Step (closes_frame k) (filled f bytes w)
      unfolding classed
      closes_step k class_is = stepped record {
        state =
            let goes_on = cut_on (mode_after (frame_class longer)) [] (frame longer ∷ []) s.rest (λ ys. frame-closes longer ys words-full) in
            mode_begins k (rw class_is at goes_on);
        full = bytes_full;
        no_part = refl;
        counts = λ j. rw class_is (omega (arith, tallied-closed k j f w));
        mode_is = rw class_is (hunts-again k);
        no_match = refl;
        unreached = rw (none-placed k) (sym all-stored);
        closes = record { f = longer; is_new = refl; class_is = class_is; values-are = all-stored; is_full = words-full };
      }

  pub framing_step : FramingStep (word_event f bytes w) (after_word (word_event f bytes w) f w) (frame_after f bytes w) ws (ws ++ w ∷ [])
  unfolding word_event
  framing_step = go f.hunting refl i.state (ltb f.placed 127) refl
    where
      go : (b : Bool) → f.hunting ≡ b → InMode b f bytes i.kept i.out ws → (room : Bool) → ltb f.placed 127 ≡ room
          → let hunt = hunt_event f.matched (is_word (sync_word f.matched) w) (is_word 0xfa w) in
          let close = closes_frame (bytes_class (synced_bytes (filled f bytes w)) (marked f w)) in
          Step (cond b hunt (cond room fills close)) (cond b bytes (filled f bytes w))
      go true h s room e =
          hunting_step h s _ (hunted_word f.matched i.kept w s.matched) (ends_more f.matched i.kept w s.matched.few s.ends)
      go false h s true e = fills_step s h (ltb-true f.placed 127 e)
      go false h s false e =
          let last : f.placed ≡ 127 = omega (arith, ltb-false f.placed 127 e) in
          closes_step s last _ (class_of-bytes longer (filled f bytes w) (marked f w) (all-stored s last) (longer-erasure s))
