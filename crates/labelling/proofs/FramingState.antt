-- What the layer of words holds after a list of words: the hunt or the frame not yet ended is the part kept of the cut, of which the layer has
-- the match or the stored bytes. Where the list ends, its counts and all else that it holds are the cut's. Assumes nothing.
use mathlib.Core.Path.{◌≡◌, refl, sym, ap, ◌∙◌}
use mathlib.Core.Bool.{Bool, true, false}
use mathlib.Core.List.{List, [], ◌∷◌, ◌++◌, map, append-nil}
use Prim.Native.Nat.{ℕ, ◌+◌, ◌≤◌}
use native.Mathlib.Omega.{arith}
use lib.ListN.{length, take, drop, replicate, length-append, length-map, take-append-drop}
use lib.Seq.{length-take-le}
use Rattle.base.specs.Format.{minor_frame}
use Rattle.base.specs.Lists.{concat_map, sum_by}
use Rattle.base.proofs.Lists.{concat_map-append, sum_by-append}
use Rattle.labelling.specs.declared.FrameClass.{FrameClass}
use Rattle.labelling.specs.declared.FrameClass.TheVariants.{Good, Damaged, Unsynced}
use Rattle.labelling.specs.declared.Framing.{Framing}
use Rattle.labelling.specs.declared.Word.{Word}
use Rattle.labelling.specs.MinorFrames.{any_erased, Mode, hunting, placing, Piece, hunted, frame, part, pieces, frame_of, frames, in_hunted}
use Rattle.labelling.specs.MinorFrames.{in_part, classed}
use Rattle.labelling.specs.MajorFrames.{value, values}
use Rattle.labelling.specs.Machine.{start}
use Rattle.labelling.specs.Rest.{latest, hunts_after, match_in, part_of, reached, over}
use Rattle.labelling.proofs.Residual.{Residual, residual_start, residual_now}
use Rattle.labelling.proofs.Latest.{latest-map}
use Rattle.labelling.proofs.IfAny.{if_any, sum_by-if_any, concat_map-if_any, latest-if_any}
use Rattle.labelling.proofs.Ends.{Ends, ends_nothing, match_is, still_hunts}
use Rattle.labelling.proofs.Hunt.{Matched, match_begins, hunt-takes_all}
use Rattle.labelling.proofs.Pieces.{cuts, hunt-open, frame-open}

-- of the words ws the pieces `out` are cut for good, and the cut goes on in mode m from the part kept
abbrev pub CutTo : Mode → List Word → List Piece → List Word → Type 0
CutTo m kept out ws = Residual (cuts hunting) (cuts m) kept out ws

-- hunting: the part kept is all words since the hunt began, and they are counted already
pub record InHunt (f : Framing) (kept : List Word) (out : List Piece) (ws : List Word) : Type 0 where
  pub rest : CutTo hunting kept out ws
  pub matched : Matched f.matched kept
  pub hunted_is : f.hunted ≡ sum_by in_hunted out + length kept
  pub ends : Ends f.matched kept
  pub none-placed : f.placed ≡ 0
  pub none-erased : f.erasure ≡ false

-- placing: the part kept is the words of the frame being filled
pub record InFrame (f : Framing) (bytes : List ℕ) (kept : List Word) (out : List Piece) (ws : List Word) : Type 0 where
  pub rest : CutTo placing kept out ws
  pub placed-is : length kept ≡ f.placed
  pub few : f.placed ≤ 127
  pub stored : values kept ≡ take f.placed bytes
  pub erasure_is : any_erased kept ≡ f.erasure
  pub unmatched : f.matched ≡ 0
  pub hunted_is : f.hunted ≡ sum_by in_hunted out

abbrev pub InMode : Bool → Framing → List ℕ → List Word → List Piece → List Word → Type 0
InMode true f bytes kept out ws = InHunt f kept out ws
InMode false f bytes kept out ws = InFrame f bytes kept out ws

-- the count of the class k
abbrev pub tallied : Framing → FrameClass → ℕ
tallied f k = elim k [ Good ↦ f.good | Damaged ↦ f.damaged | Unsynced ↦ f.unsynced ]

-- the bytes of the last frame closed
abbrev pub latest_frame : List Piece → List ℕ
latest_frame out = latest (replicate minor_frame 0) (map values (concat_map frame_of out))

-- the layer of words after the words ws, of which the pieces `out` are cut for good and `kept` is the part kept
pub record FramingInv (f : Framing) (bytes : List ℕ) (ws : List Word) : Type 0 where
  pub kept : List Word
  pub out : List Piece
  pub state : InMode f.hunting f bytes kept out ws
  pub full : length bytes ≡ 128
  pub no_part : concat_map part_of out ≡ []
  pub counts : (k : FrameClass) → tallied f k ≡ classed k (concat_map frame_of out)
  pub mode_is : latest true (map hunts_after out) ≡ f.hunting
  pub no_match : latest 0 (map match_in out) ≡ 0
  -- the places not reached are the last frame's
  pub unreached : drop f.placed bytes ≡ drop f.placed (latest_frame out)

-- where a piece begins, nothing is kept
pub hunt-begins : {f : Framing} {out : List Piece} {ws : List Word} → f.matched ≡ 0 → f.placed ≡ 0 → f.erasure ≡ false → f.hunted ≡ sum_by in_hunted out
    → CutTo hunting [] out ws → InHunt f [] out ws
hunt-begins em ep ee eh r = record {
  rest = r;
  matched = rw em match_begins;
  ends = rw em ends_nothing;
  hunted_is = omega arith;
  none-placed = ep;
  none-erased = ee;
}

pub frame-begins : {f : Framing} {bytes : List ℕ} {out : List Piece} {ws : List Word} → f.matched ≡ 0 → f.placed ≡ 0 → f.erasure ≡ false
    → f.hunted ≡ sum_by in_hunted out → CutTo placing [] out ws → InFrame f bytes [] out ws
frame-begins em ep ee eh r = record {
  rest = r;
  placed-is = sym ep;
  few = omega arith;
  stored = rw ep;
  erasure_is = sym ee;
  unmatched = em;
  hunted_is = eh;
}

pub framing_start : FramingInv start.framing start.frame []
unfolding start classed
framing_start = record {
  kept = [];
  out = [];
  state = hunt-begins refl refl refl refl (residual_start (cuts hunting));
  full = refl;
  no_part = refl;
  counts = λ k. elim k as (λ j. tallied start.framing j ≡ classed j []) [ Good ↦ refl | Damaged ↦ refl | Unsynced ↦ refl ];
  mode_is = refl;
  no_match = refl;
  unreached = refl;
}

-- ---- where the list ends

pub record FramingCounts (f : Framing) (ws : List Word) : Type 0 where
  pub hunted_is : f.hunted ≡ sum_by in_hunted (pieces ws)
  pub placed-is : f.placed ≡ sum_by in_part (pieces ws)
  pub good-is : f.good ≡ classed Good (frames ws)
  pub damaged-is : f.damaged ≡ classed Damaged (frames ws)
  pub unsynced_is : f.unsynced ≡ classed Unsynced (frames ws)

pub record FramingRest (f : Framing) (bytes : List ℕ) (ws : List Word) : Type 0 where
  pub hunting_is : f.hunting ≡ latest true (map hunts_after (pieces ws))
  pub matched_is : f.matched ≡ latest 0 (map match_in (pieces ws))
  pub frame_is : bytes ≡ over (values (reached ws)) (latest (replicate minor_frame 0) (map values (frames ws)))
  pub erasure_is : f.erasure ≡ any_erased (reached ws)

in_parts : (ps : List Piece) → sum_by in_part ps ≡ length (concat_map part_of ps)
in_parts [] = refl
in_parts (hunted ws ∷ ps) = omega (arith, in_parts ps)
in_parts (frame ws ∷ ps) = omega (arith, in_parts ps)
in_parts (part ws ∷ ps) = omega (arith, in_parts ps, length-append ws (concat_map part_of ps))

-- the part kept is the last piece, if any: it counts what the layer counts beside `out`, and it is no frame
record Open (f : Framing) (bytes : List ℕ) (out : List Piece) (ws : List Word) : Type 0 where
  last : List Piece
  pieces_are : pieces ws ≡ out ++ last
  hunted_is : f.hunted ≡ sum_by in_hunted out + sum_by in_hunted last
  few : f.placed ≤ 127
  no_frame : concat_map frame_of last ≡ []
  hunting_is : latest f.hunting (map hunts_after last) ≡ f.hunting
  matched_is : latest 0 (map match_in last) ≡ f.matched
  places : values (concat_map part_of last) ≡ take f.placed bytes
  erasure_is : any_erased (concat_map part_of last) ≡ f.erasure

module _ (f : Framing) (bytes : List ℕ) (ws p : List Word) (out : List Piece) where
  -- a hunt not yet ended
  open_hunt : f.hunting ≡ true → InHunt f p out ws → Open f bytes out ws
  unfolding pieces
  open_hunt e s = record {
    last = if_any hunted p;
    pieces_are = residual_now s.rest ∙ ap (λ (l : List Piece). out ++ l) (hunt-open p (hunt-takes_all f.matched p s.matched));
    hunted_is = omega (arith, sum_by-if_any in_hunted hunted p refl);
    few = omega (arith, s.none-placed);
    no_frame = concat_map-if_any frame_of hunted p refl;
    hunting_is = rw e (latest-if_any hunts_after true hunted p refl ∙ still_hunts f.matched p s.matched.few s.ends);
    matched_is = latest-if_any match_in 0 hunted p refl ∙ match_is f.matched p s.matched.few s.ends;
    places = rw (concat_map-if_any part_of hunted p refl, s.none-placed);
    erasure_is = rw (concat_map-if_any part_of hunted p refl) (sym s.none-erased);
  }

  -- a frame not yet filled
  open_frame : f.hunting ≡ false → InFrame f bytes p out ws → Open f bytes out ws
  unfolding pieces
  open_frame e s = record {
    last = if_any part p;
    pieces_are = residual_now s.rest ∙ ap (λ (l : List Piece). out ++ l) (frame-open p (omega arith));
    hunted_is = omega (arith, sum_by-if_any in_hunted part p refl);
    few = s.few;
    no_frame = concat_map-if_any frame_of part p refl;
    hunting_is = rw e (latest-if_any hunts_after false part p refl);
    matched_is = latest-if_any match_in 0 part p refl ∙ sym s.unmatched;
    places = rw (concat_map-if_any part_of part p refl) s.stored;
    erasure_is = rw (concat_map-if_any part_of part p refl) s.erasure_is;
  }

module _ (f : Framing) (bytes : List ℕ) (ws : List Word) (i : FramingInv f bytes ws) where
  opened : Open f bytes i.out ws
  opened = go f.hunting refl i.state
    where
      go : (b : Bool) → f.hunting ≡ b → InMode b f bytes i.kept i.out ws → Open f bytes i.out ws
      go true e s = open_hunt f bytes ws i.kept i.out e s
      go false e s = open_frame f bytes ws i.kept i.out e s

  pub frames-now : frames ws ≡ concat_map frame_of i.out
  unfolding frames
  frames-now = rw (opened.pieces_are, concat_map-append, opened.no_frame, append-nil)

  reached-now : reached ws ≡ concat_map part_of opened.last
  unfolding reached
  reached-now = rw (opened.pieces_are, concat_map-append part_of i.out opened.last, i.no_part)

  -- the places reached are as many as are counted
  reached-length : length (take f.placed bytes) ≡ f.placed
  reached-length = length-take-le f.placed bytes (omega (arith, opened.few, i.full))

  pub framing_counts : FramingCounts f ws
  unfolding reached
  framing_counts = record {
    hunted_is = rw opened.pieces_are (omega (arith, opened.hunted_is, sum_by-append in_hunted i.out opened.last));
    placed-is =
        let same : length (concat_map part_of opened.last) ≡ length (take f.placed bytes) =
        sym (length-map (concat_map part_of opened.last) value) ∙ ap length opened.places in
        omega (arith, in_parts (pieces ws), ap length reached-now, same, reached-length);
    good-is = rw frames-now (i.counts Good);
    damaged-is = rw frames-now (i.counts Damaged);
    unsynced_is = rw frames-now (i.counts Unsynced);
  }

  pub framing_rest : FramingRest f bytes ws
  framing_rest = record {
    hunting_is = sym (rw opened.pieces_are (latest-map hunts_after true i.out opened.last ∙ rw i.mode_is opened.hunting_is));
    matched_is = sym (rw opened.pieces_are (latest-map match_in 0 i.out opened.last ∙ rw i.no_match opened.matched_is));
    frame_is = rw (reached-now, frames-now, opened.places, reached-length, ← i.unreached) (sym (take-append-drop f.placed bytes));
    erasure_is = rw reached-now (sym opened.erasure_is);
  }
