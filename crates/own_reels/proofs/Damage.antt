-- Two minor frames bring the cut back into step: a hunt finds the first of them, or the frame under way ends in the first; then, where it closes with a sync,
-- one more is cut wrong, which has none, and a hunt finds the third. Whole major frames behind them are cut as they are, whatever follows. Assumes nothing.
use mathlib.Core.Path.{◌≡◌, refl, ap, ◌∙◌}
use mathlib.Core.Bool.{Bool, true, false}
use mathlib.Core.List.{List, [], ◌∷◌, ◌++◌, map-append, append_assoc, append-nil}
use Prim.Native.Nat.{ℕ, ◌-◌, ◌<◌}
use native.Mathlib.Omega.{arith}
use lib.ListN.{length, get_or, take, drop, length-drop}
use Rattle.base.specs.Lists.{concat_map}
use Rattle.labelling.specs.declared.FrameClass.{FrameClass}
use Rattle.labelling.specs.declared.FrameClass.TheVariants.{Good, Damaged, Unsynced}
use Rattle.labelling.specs.declared.Tally.{Tally}
use Rattle.labelling.specs.declared.Word.{Word}
use Rattle.labelling.specs.Votes.{rule_vote}
use Rattle.labelling.specs.MinorFrames.{synced, frame_class, mode_after}
use Rattle.labelling.specs.MajorFrames.{values, majors}
use Rattle.labelling.specs.Calls.{Call}
use Rattle.own_sync.specs.OwnCut.{before_sync, OwnMode, seeks, places, finds, own_mode, own_frames}
use Rattle.own_sync.specs.Recovery.{AllWhole, words_in, bytes_in, PlainAfterSync}
use Rattle.own_sync.specs.OwnOnce.{OwnOnce}
use Rattle.own_sync.proofs.OwnCuts.{owns, frames_held, own-frames, found_in, beginning, sync}
use Rattle.own_sync.proofs.Beside.{Stage, in_hunt, in_frame, at-lock, led_in, own_mode_at, Kept, Settled, reached}
use Rattle.own_sync.proofs.Recovery.{LaidOut, then, laid, any_frame, good-majors, hunt-finds, hunt-behind, major_cut, majors-then, First}
use Rattle.own_sync.proofs.Recovery.{first_frame, found-lead_in, Comes, comes, comes-on, later-majors, unsynced_class, not_synced, shifted}
use Rattle.own_sync.proofs.Recovery.{shifted_length, clear_left}
use Rattle.own_reels.specs.Damage.{Standing, AroundDamage}
use Rattle.own_reels.proofs.SyncedFrame.{synced-frame}
use Rattle.own_reels.proofs.OneTooFew.{one-too_few}

-- ---- two of them

-- the cut comes to the frame h, which a hunt has found or not
record InStep (m : OwnMode) (ws ys : List Word) : Type 0 where
  found : Bool
  cut : Comes m ws (beginning found) ys

module _ (f g h ys : List Word) (sf : Standing f) (sg : Standing g) (lh : length h ≡ 128) (sh : synced h ≡ true) (plain : PlainAfterSync h) where
  abbrev after_g : List Word
  after_g = h ++ ys

  abbrev after_f : List Word
  after_f = g ++ after_g

  -- the cut is in step before f, or before g
  from-g : {m : OwnMode} {ws : List Word} (found : Bool) → Comes m ws (beginning found) after_f → InStep m ws after_g
  from-g found x = record { found = false; cut = comes-on x (synced-frame found g after_g sg.full sg.has_sync) }

  from-f : {m : OwnMode} {ws : List Word} (found : Bool) → Comes m ws (beginning found) (f ++ after_f) → InStep m ws after_g
  from-f found x = from-g false (comes-on x (synced-frame found f after_f sf.full sf.has_sync))

  -- the words p of a frame stand before f
  module _ (p : List Word) (some : 0 < length p) (few : length p < 128) where
    abbrev k : ℕ
    k = 128 - length p

    -- what is left of f, and of g, where 128 words are cut off
    abbrev v₀ : List Word
    v₀ = drop k f

    abbrev v₁ : List Word
    v₁ = drop k g

    -- a frame is cut across f and g: it has no sync, and the hunt finds h
    across : Comes places (v₀ ++ after_f) finds after_g
    across =
        let left : length v₀ ≡ length p = omega (arith, length-drop k f, sf.full) in
        let full : length (v₀ ++ take k g) ≡ 128 = shifted_length k v₀ g sg.full (omega arith) in
        let none : synced (v₀ ++ take k g) ≡ false =
        not_synced v₀ g k (omega arith) (clear_left k f (omega arith) sf.conforms) sg.full sg.has_sync (omega arith) in
        let wrong : LaidOut places ((v₀ ++ take k g) ++ (v₁ ++ after_g)) ((v₀ ++ take k g) ∷ []) 0 seeks (v₁ ++ after_g) =
        rw (unsynced_class (v₀ ++ take k g) none) at (any_frame false (v₀ ++ take k g) (v₁ ++ after_g) full) in
        let found = comes (hunt-finds v₁ h ys (clear_left k g (omega arith) sg.conforms) lh sh plain) in
        rw (shifted k v₀ g after_g) (comes-on (comes wrong) found)

    misplaced : (found : Bool) → InStep (beginning found) (p ++ (f ++ after_f)) after_g
    misplaced found = by_class (frame_class (p ++ take k f)) refl
      where
        first : Comes (beginning found) (p ++ (f ++ after_f)) (own_mode (mode_after (frame_class (p ++ take k f)))) (v₀ ++ after_f)
        first = rw (shifted k p f after_f) (comes (any_frame found (p ++ take k f) (v₀ ++ after_f) (shifted_length k p f sf.full (omega arith))))

        by_class : (c : FrameClass) → frame_class (p ++ take k f) ≡ c → InStep (beginning found) (p ++ (f ++ after_f)) after_g
        by_class Good e = record { found = true; cut = comes-on (rw e at first) across }
        by_class Damaged e = record { found = true; cut = comes-on (rw e at first) across }
        by_class Unsynced e =
            let hunt = hunt-finds v₀ g after_g (clear_left k f (omega arith) sf.conforms) sg.full sg.has_sync sg.conforms.after_sync in
            from-g true (comes-on (rw e at first) (comes hunt))

  -- from where any words leave the cut
  in_step : (s : Stage) (p : List Word) → Settled s → Kept s p → InStep (own_mode_at s) (p ++ (f ++ after_f)) after_g
  in_step in_hunt p settled q = from-f true (comes (hunt-finds p f after_f q sf.full sf.has_sync sf.conforms.after_sync))
  in_step at-lock p settled q = from-f false (comes (hunt-behind p f after_f q sf.full sf.has_sync))
  in_step (in_frame found) [] settled q = from-f found (comes (laid [] refl))
  in_step (in_frame found) (x ∷ p) settled q = misplaced (x ∷ p) (omega arith) q.0 found
  in_step led_in p settled q = absurd settled

  after_any : (d : List Word) → InStep seeks (d ++ (f ++ after_f)) after_g
  after_any d =
      let r = reached d in
      let os = r.beside.own in
      let upto : LaidOut seeks (d ++ (f ++ after_f)) (frames_held os) (found_in os) (own_mode_at r.stage) (r.rest ++ (f ++ after_f)) =
      laid os (r.beside.own_cut.goes_on (f ++ after_f)) in
      let x = in_step r.stage r.rest r.settled r.beside.kept in
      record { found = x.found; cut = comes-on (comes upto) x.cut }

-- ---- whole major frames, and any words behind them

module _ (m : List (List Word)) (ms : List (List (List Word))) (e : List Word) (w : AllWhole (m ∷ ms)) where
  abbrev reel : List Word
  reel = words_in (m ∷ ms) ++ e

  abbrev all_frames : List (List Word)
  all_frames = concat_map (λ m. m) (m ∷ ms)

  first : First m (words_in ms ++ e)
  first = first_frame m (words_in ms ++ e) w.0 w.1

  abbrev behind_first : List Word
  behind_first = concat_map (λ f. f) first.fs ++ (words_in ms ++ e)

  begins-is : reel ≡ first.f ++ behind_first
  begins-is = append_assoc (concat_map (λ (f : List Word). f) m) (words_in ms) e ∙ first.is

  whole-cut : (found : Bool) → frames_held (owns (beginning found) reel) ≡ all_frames ++ frames_held (owns places e)
  whole-cut found =
      let x = then (major_cut found m (words_in ms ++ e) (omega (arith, w.0)) w.1) (good-majors ms e w.2) in
      ap (λ (l : List Word). frames_held (owns (beginning found) l)) (append_assoc (concat_map (λ (f : List Word). f) m) (words_in ms) e) ∙ x.frames-are

  -- the cut comes to them
  module _ (ws : List Word) (found : Bool) (x : Comes seeks ws (beginning found) reel) where
    frames-are : own_frames ws ≡ x.frames ++ (all_frames ++ frames_held (owns places e))
    frames-are = own-frames ws ∙ x.cut.frames-are ∙ ap (λ (l : List (List Word)). x.frames ++ l) (whole-cut found)

    majors-are : (before : List (List (List Word))) × (majors (own_frames ws) ≡ before ++ ((m ∷ ms) ++ majors (frames_held (owns places e))))
    majors-are =
        let later = later-majors x.frames (all_frames ++ frames_held (owns places e)) in
        (later.0, ap majors frames-are ∙ later.1 ∙ ap (λ (l : List (List (List Word))). later.0 ++ l) (majors-then (m ∷ ms) (frames_held (owns places e)) w))

  majors-first : (ws : List Word) (found : Bool) {k : ℕ} → LaidOut seeks ws [] k (beginning found) reel
      → majors (own_frames ws) ≡ (m ∷ ms) ++ majors (frames_held (owns places e))
  majors-first ws found x = ap majors (own-frames ws ∙ x.frames-are ∙ whole-cut found) ∙ majors-then (m ∷ ms) (frames_held (owns places e)) w

-- ---- the claim

-- the bytes of major frames in two and three parts
bytes_both : (ms ns : List (List (List Word))) → bytes_in (ms ++ ns) ≡ bytes_in ms ++ bytes_in ns
bytes_both ms ns = map-append (concat_map values) ms ns

bytes_parts : (ls ms ns : List (List (List Word))) → bytes_in (ls ++ (ms ++ ns)) ≡ bytes_in ls ++ (bytes_in ms ++ bytes_in ns)
bytes_parts ls ms ns = bytes_both ls (ms ++ ns) ∙ ap (λ (l : List (List ℕ)). bytes_in ls ++ l) (bytes_both ms ns)

-- the major frames of words, as their bytes
abbrev paid_of : List Word → List (List ℕ)
paid_of ws = bytes_in (majors (own_frames ws))

module _ (m : List (List Word)) (ms : List (List (List Word))) (e : List Word) (w : AllWhole (m ∷ ms)) where
  abbrev i : First m (words_in ms ++ e)
  i = first m ms e w

  -- those of the words behind them
  abbrev rest : List (List (List Word))
  rest = majors (frames_held (owns places e))

  -- they are paid in order, behind others
  paid-later : (ws : List Word) → (before : List (List (List Word))) × (majors (own_frames ws) ≡ before ++ ((m ∷ ms) ++ rest))
      → (before : List (List ℕ)) × (paid_of ws ≡ before ++ (bytes_in (m ∷ ms) ++ bytes_in rest))
  paid-later ws y = (bytes_in y.0, ap bytes_in y.1 ∙ bytes_parts y.0 (m ∷ ms) rest)

  paid-between : (d f g : List Word) → Standing f → Standing g → PlainAfterSync (get_or m 0 [])
      → (before : List (List ℕ)) × (paid_of (d ++ (f ++ (g ++ reel m ms e w))) ≡ before ++ (bytes_in (m ∷ ms) ++ bytes_in rest))
  paid-between d f g sf sg plain =
      let x = after_any f g i.f (behind_first m ms e w) sf sg i.full i.has_sync (rw i.first-is at plain) d in
      let all = d ++ (f ++ (g ++ reel m ms e w)) in
      paid-later all (majors-are m ms e w all x.found (rw (begins-is m ms e w) x.cut))

  paid-led : paid_of (sync ++ reel m ms e w) ≡ bytes_in (m ∷ ms) ++ bytes_in rest
  paid-led =
      let x : LaidOut seeks (sync ++ reel m ms e w) [] 0 places (reel m ms e w) =
      rw (begins-is m ms e w) (hunt-behind sync i.f (behind_first m ms e w) found-lead_in i.full i.has_sync) in
      ap bytes_in (majors-first m ms e w (sync ++ reel m ms e w) false x) ∙ bytes_both (m ∷ ms) rest

  paid-begun : (q : List Word) → before_sync q ≡ length q → PlainAfterSync (get_or m 0 []) → paid_of (q ++ reel m ms e w) ≡ bytes_in (m ∷ ms) ++ bytes_in rest
  paid-begun q clear plain =
      let x : LaidOut seeks (q ++ reel m ms e w) [] 0 finds (reel m ms e w) =
      rw (begins-is m ms e w) (hunt-finds q i.f (behind_first m ms e w) clear i.full i.has_sync (rw i.first-is at plain)) in
      ap bytes_in (majors-first m ms e w (q ++ reel m ms e w) true x) ∙ bytes_both (m ∷ ms) rest

pub around_damage : {rule : ℕ} {a₀ bs : List ℕ} {cs : List Call} {t : Tally} {a : List ℕ} {n : ℕ} → OwnOnce rule a₀ bs cs t a n
    → AroundDamage (rule_vote rule) bs cs
around_damage o = record {
  between = λ d f g m ms e is sf sg w plain.
      let x = paid-between m ms e w d f g sf sg plain in
      (x.0, bytes_in (rest m ms e w), o.paid-is ∙ ap paid_of is ∙ x.1);
  led = λ m ms e is w. (bytes_in (rest m ms e w), o.paid-is ∙ ap paid_of is ∙ paid-led m ms e w);
  begun = λ q m ms e is clear w plain. (bytes_in (rest m ms e w), o.paid-is ∙ ap paid_of is ∙ paid-begun m ms e w q clear plain);
  one-too_few = λ v f m plain sf w conform is.
      let ws = concat_map (λ (f : List Word). f) m in
      o.paid-is ∙ ap paid_of (is ∙ ap (λ (l : List Word). (sync ++ v ∷ []) ++ (f ++ l)) (append-nil ws))
      ∙ ap bytes_in (one-too_few v f plain sf m w.0 w.1 conform);
}
