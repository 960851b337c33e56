-- Whole major frames are cut where they lie: in a frame's mode they are cut as they are, and a hunt ends before the first of them. After any words
-- the cut is in a hunt, behind FA F3 20, or in a frame; in the last case at most two frames are cut wrong before a hunt, which finds the next.
-- Assumes nothing.
use mathlib.Core.Path.{◌≡◌, refl, sym, ap, ◌∙◌}
use mathlib.Core.Bool.{Bool, true, false, cond, ◌&&◌}
use mathlib.Core.List.{List, [], ◌∷◌, ◌++◌, append_assoc, append-nil}
use Prim.Native.Nat.{ℕ, zero, suc, ◌+◌, ◌-◌, ◌≤◌, ◌<◌}
use native.Mathlib.Omega.{arith}
use lib.Dec.{eqb, ltb}
use lib.ListN.{length, get_or, take, drop, length-append, length-drop, take-append-drop}
use lib.Seq.{length-take-le}
use Rattle.base.specs.Lists.{concat_map, one}
use Rattle.base.proofs.Lists.{concat_map-append, sum_by-append}
use Rattle.labelling.specs.declared.FrameClass.{FrameClass}
use Rattle.labelling.specs.declared.FrameClass.TheVariants.{Good, Damaged, Unsynced}
use Rattle.labelling.specs.declared.Word.{Word}
use Rattle.labelling.specs.MinorFrames.{is_word, synced, any_erased, frame_class, same_class, mode_after, part, hunted, frame_of}
use Rattle.labelling.specs.MajorFrames.{is_good, number, numbered, run_length, majors, major}
use Rattle.labelling.proofs.IfAny.{if_any, concat_map-if_any, sum_by-if_any}
use Rattle.labelling.proofs.RunCuts.{Chain, Cuts, cuts_both, cuts-major}
use Rattle.own_sync.specs.OwnCut.{before_sync, ends_behind, OwnMode, seeks, places, finds, own_mode, Own, own_frames, own_found}
use Rattle.own_sync.specs.Recovery.{WholeFrom, AllWhole, words_in, Conforms, AllConform, PlainAfterSync}
use Rattle.own_sync.proofs.OwnCuts.{owns, frames_held, own-frames, found_in, own-found, beginning, as_own, own_frame-closes, own_frame-open, sync}
use Rattle.own_sync.proofs.OwnCuts.{own-hunt_behind, own-hunt_before}
use Rattle.own_sync.proofs.Beside.{Stage, in_hunt, in_frame, at-lock, led_in, own_mode_at, Kept, Settled, Reached, reached}
use Rattle.own_sync.proofs.OwnHunt.{one-short, is_sync, before-none, before_more, Found}

-- ---- a whole frame

-- its class and its first words
pub numbered-good : (n : ℕ) (f : List Word) → numbered n f ≡ true → frame_class f ≡ Good
unfolding numbered is_good
numbered-good n f e = go (frame_class f) (eqb (number f) n) (ltb n 128) e
  where
    go : (k : FrameClass) (b c : Bool) → (same_class Good k && b && c) ≡ true → k ≡ Good
    go Good b c e = refl
    go Damaged b c e = cc
    go Unsynced b c e = cc

pub good-synced : (f : List Word) → frame_class f ≡ Good → synced f ≡ true
unfolding frame_class
good-synced f e = go (synced f) (any_erased f) e
  where
    go : (s a : Bool) → cond s (cond a Damaged Good) Unsynced ≡ Good → s ≡ true
    go true a e = refl
    go false a e = cc

-- FA F3 20 and the rest
pub record Begins (f : List Word) : Type 0 where
  pub rest : List Word
  pub is : f ≡ sync ++ rest

begins : (f : List Word) → length f ≡ 128 → synced f ≡ true → Begins f
begins [] l e = absurd (omega arith)
begins (x ∷ []) l e = absurd (omega arith)
begins (x ∷ y ∷ []) l e = absurd (omega arith)
begins (x ∷ y ∷ z ∷ f) l e = record { rest = f; is = ap (λ (s : List Word). s ++ f) (is_sync x y z f e) }

-- ---- what is cut off at the head of a list

-- ws, cut in mode m, has the frames fs, k of them found by their own sync, and then those of ys cut in mode m'
pub record LaidOut (m : OwnMode) (ws : List Word) (fs : List (List Word)) (k : ℕ) (m' : OwnMode) (ys : List Word) : Type 0 where
  pub frames-are : frames_held (owns m ws) ≡ fs ++ frames_held (owns m' ys)
  pub found_are : found_in (owns m ws) ≡ k + found_in (owns m' ys)

pub then : {l m n : OwnMode} {ws xs ys : List Word} {fs gs : List (List Word)} {j k : ℕ} → LaidOut l ws fs j m xs → LaidOut m xs gs k n ys
    → LaidOut l ws (fs ++ gs) (j + k) n ys
then {fs = fs} {gs = gs} a b = record {
  frames-are = a.frames-are ∙ rw b.frames-are (sym (append_assoc fs gs _));
  found_are = omega (arith, a.found_are, b.found_are);
}

-- the cut is these pieces, and then the cut of ys
pub laid : {m m' : OwnMode} {ws ys : List Word} (os : List Own) → owns m ws ≡ os ++ owns m' ys → LaidOut m ws (frames_held os) (found_in os) m' ys
laid {m' = m'} {ys = ys} os e = record {
  frames-are = ap frames_held e ∙ concat_map-append (λ (o : Own). frame_of o.piece) os (owns m' ys);
  found_are = ap found_in e ∙ sum_by-append (λ (o : Own). one o.found) os (owns m' ys);
}

-- a frame of any class
pub any_frame : (found : Bool) (f ys : List Word) → length f ≡ 128
    → LaidOut (beginning found) (f ++ ys) (f ∷ []) (one found) (own_mode (mode_after (frame_class f))) ys
any_frame found f ys l = record {
  frames-are = ap frames_held (own_frame-closes found f ys l);
  found_are = ap found_in (own_frame-closes found f ys l);
}

pub good-frame : (n : ℕ) (found : Bool) (f ys : List Word) → length f ≡ 128 → numbered n f ≡ true
    → LaidOut (beginning found) (f ++ ys) (f ∷ []) (one found) places ys
good-frame n found f ys l e = rw (numbered-good n f e) at (any_frame found f ys l)

-- whole frames, cut where they lie
pub good-frames : (n : ℕ) (fs : List (List Word)) (ys : List Word) → WholeFrom n fs → LaidOut places (concat_map (λ f. f) fs ++ ys) fs 0 places ys
good-frames n [] ys w = record { frames-are = refl; found_are = omega arith }
good-frames n (f ∷ fs) ys w =
    rw append_assoc (then (good-frame n false f (concat_map (λ (f : List Word). f) fs ++ ys) w.0 w.1) (good-frames (suc n) fs ys w.2))

pub good-majors : (ms : List (List (List Word))) (ys : List Word) → AllWhole ms → LaidOut places (words_in ms ++ ys) (concat_map (λ m. m) ms) 0 places ys
good-majors [] ys w = record { frames-are = refl; found_are = omega arith }
good-majors (m ∷ ms) ys w =
    rw append_assoc (then (good-frames 0 m (words_in ms ++ ys) w.1) (good-majors ms ys w.2))

-- less than a frame
open_end : (tail : List Word) → length tail < 128 → LaidOut places tail [] 0 places []
open_end tail h = record {
  frames-are = rw (own_frame-open false tail h) (concat_map-if_any (λ (o : Own). frame_of o.piece) (λ (l : List Word). as_own false (part l)) tail refl);
  found_are = rw (own_frame-open false tail h) (sum_by-if_any (λ (o : Own). one o.found) (λ (l : List Word). as_own false (part l)) tail refl);
}

-- ---- a hunt

-- before FA F3 20 no other begins, and none goes across
clear_then_sync : (q ys : List Word) → before_sync q ≡ length q → before_sync ((q ++ sync) ++ ys) ≡ length q
unfolding synced
clear_then_sync [] ys e = refl
clear_then_sync (x ∷ []) ys e = before_more x (sync ++ ys) (none (is_word 0xfa x)) ∙ refl
  where
    none : (a : Bool) → (a && false && false) ≡ false
    none true = refl
    none false = refl
clear_then_sync (x ∷ y ∷ []) ys e =
    let one_more = clear_then_sync (y ∷ []) ys (before_more y [] (one-short y)) in
    omega (arith, before_more x (y ∷ sync ++ ys) (none (is_word 0xfa x) (is_word 0xf3 y)), one_more)
  where
    none : (a b : Bool) → (a && b && false) ≡ false
    none true true = refl
    none true false = refl
    none false b = refl
clear_then_sync (x ∷ y ∷ z ∷ q) ys e = go (synced (x ∷ y ∷ z ∷ q)) refl (clear_then_sync (y ∷ z ∷ q) ys)
  where
    go : (b : Bool) → synced (x ∷ y ∷ z ∷ q) ≡ b
        → (before_sync (y ∷ z ∷ q) ≡ length (y ∷ z ∷ q) → before_sync ((y ∷ z ∷ q ++ sync) ++ ys) ≡ length (y ∷ z ∷ q))
        → before_sync ((x ∷ y ∷ z ∷ q ++ sync) ++ ys) ≡ length (x ∷ y ∷ z ∷ q)
    go true s ih = absurd (omega (arith, before-none x (y ∷ z ∷ q) s))
    go false s ih =
        omega (arith, before_more x ((y ∷ z ∷ q ++ sync) ++ ys) s, ih (omega (arith, before_more x (y ∷ z ∷ q) s)))

-- the hunt ends before a frame with its sync, if its word 3 is not FA
pub hunt-finds : (q f ys : List Word) → before_sync q ≡ length q → length f ≡ 128 → synced f ≡ true → PlainAfterSync f
    → LaidOut seeks (q ++ (f ++ ys)) [] 0 finds (f ++ ys)
hunt-finds q f ys e l s plain = go (begins f l s)
  where
    next : (rest : List Word) → length (sync ++ rest) ≡ 128 → PlainAfterSync (sync ++ rest) → ends_behind (rest ++ ys) ≡ false
    next [] l h = absurd (omega arith)
    next (w ∷ rest) l h = h

    none : (r : List Word)
        → LaidOut seeks (q ++ r) (frames_held (if_any (λ l. as_own false (hunted l)) q)) (found_in (if_any (λ l. as_own false (hunted l)) q)) finds r
        → LaidOut seeks (q ++ r) [] 0 finds r
    none r x =
        rw (
          concat_map-if_any (λ (o : Own). frame_of o.piece) (λ (l : List Word). as_own false (hunted l)) q refl,
          sum_by-if_any (λ (o : Own). one o.found) (λ (l : List Word). as_own false (hunted l)) q refl,
        ) at x

    go : Begins f → LaidOut seeks (q ++ (f ++ ys)) [] 0 finds (f ++ ys)
    go b =
        let rest = b.rest ++ ys in
        let is : f ++ ys ≡ sync ++ rest = rw b.is in
        let plainly : ends_behind rest ≡ false = next b.rest (rw b.is at l) (rw b.is at plain) in
        let cut = own-hunt_before rest q (clear_then_sync q rest e) plainly in
        let here : owns seeks (q ++ (sync ++ rest)) ≡ if_any (λ l. as_own false (hunted l)) q ++ owns finds (sync ++ rest) = rw append_assoc at cut in
        rw is (none (sync ++ rest) (laid (if_any (λ (l : List Word). as_own false (hunted l)) q) here))

-- behind FA F3 20 a frame begins that has its sync
pub hunt-behind : (p f ys : List Word) → Found p → length f ≡ 128 → synced f ≡ true → LaidOut seeks (p ++ (f ++ ys)) [] 0 places (f ++ ys)
hunt-behind p f ys d l s = go (begins f l s)
  where
    go : Begins f → LaidOut seeks (p ++ (f ++ ys)) [] 0 places (f ++ ys)
    go b =
        let is : f ++ ys ≡ sync ++ (b.rest ++ ys) = rw b.is in
        let behind : ends_behind (f ++ ys) ≡ true = ap ends_behind is in
        let cut = own-hunt_behind (f ++ ys) d.q (rw (← d.is) (d.first (f ++ ys))) behind in
        let here : owns seeks (p ++ (f ++ ys)) ≡ as_own false (hunted p) ∷ owns places (f ++ ys) = rw (← d.is) at cut in
        record { frames-are = ap frames_held here; found_are = ap found_in here }

-- ---- a whole major frame at the head

-- cut as it is, its first frame found by a hunt or not
pub major_cut : (found : Bool) (m : List (List Word)) (ys : List Word) → 0 < length m → WholeFrom 0 m
    → LaidOut (beginning found) (concat_map (λ f. f) m ++ ys) m (one found) places ys
major_cut found [] ys h w = absurd (omega arith)
major_cut found (f ∷ fs) ys h w =
    let x = then (good-frame 0 found f (concat_map (λ (f : List Word). f) fs ++ ys) w.0 w.1) (good-frames 1 fs ys w.2) in
    let y : LaidOut (beginning found) (f ++ (concat_map (λ (f : List Word). f) fs ++ ys)) (f ∷ fs) (one found) places ys =
    record { frames-are = x.frames-are; found_are = omega (arith, x.found_are) } in
    rw append_assoc y

-- each major frame is one run, whatever follows
pub majors-then : (ms : List (List (List Word))) (fs : List (List Word)) → AllWhole ms → majors (concat_map (λ m. m) ms ++ fs) ≡ ms ++ majors fs
majors-then ms fs w = (runs-cut ms w).majors-are
  where
    chain : (n : ℕ) (fs : List (List Word)) → WholeFrom n fs → Chain n fs
    chain n [] w = tt
    chain n (f ∷ fs) w = (w.1, chain (suc n) fs w.2)

    runs-cut : (ms : List (List (List Word))) → AllWhole ms → Cuts (concat_map (λ m. m) ms ++ fs) (concat_map (if_any major) ms) ms fs
    runs-cut [] w = record { runs-are = refl; majors-are = refl }
    runs-cut (m ∷ ms) w = rw append_assoc (cuts_both (cuts-major m (concat_map (λ m. m) ms ++ fs) (chain 0 m w.1) w.0) (runs-cut ms w.2))

all-majors : (ms : List (List (List Word))) → AllWhole ms → majors (concat_map (λ m. m) ms) ≡ ms
all-majors ms w = ap majors (sym (append-nil (concat_map (λ m. m) ms))) ∙ majors-then ms [] w ∙ append-nil ms

-- ---- whole major frames, and less than a frame behind them

module _ (m : List (List Word)) (ms : List (List (List Word))) (tail : List Word) (w : AllWhole (m ∷ ms)) (h : length tail < 128) where
  abbrev on : List Word
  on = words_in ms ++ tail

  -- from the second major frame on
  rest-cut : LaidOut places on (concat_map (λ m. m) ms) 0 places []
  rest-cut =
      let x = then (good-majors ms tail w.2) (open_end tail h) in
      record { frames-are = rw append-nil at x.frames-are; found_are = x.found_are }

  -- and with the first, found or not
  whole-cut : (found : Bool) → LaidOut (beginning found) (words_in (m ∷ ms) ++ tail) (concat_map (λ m. m) (m ∷ ms)) (one found) places []
  whole-cut found =
      let x = then (major_cut found m on (omega (arith, w.0)) w.1) rest-cut in
      let y : LaidOut (beginning found) (concat_map (λ (f : List Word). f) m ++ on) (concat_map (λ m. m) (m ∷ ms)) (one found) places [] =
      record { frames-are = x.frames-are; found_are = omega (arith, x.found_are) } in
      rw append_assoc y

-- the first frame of a major frame, and what follows it
pub record First (m : List (List Word)) (on : List Word) : Type 0 where
  pub f : List Word
  pub fs : List (List Word)
  pub is : concat_map (λ f. f) m ++ on ≡ f ++ (concat_map (λ f. f) fs ++ on)
  pub first-is : get_or m 0 [] ≡ f
  pub full : length f ≡ 128
  pub has_sync : synced f ≡ true

pub first_frame : (m : List (List Word)) (on : List Word) → length m ≡ 128 → WholeFrom 0 m → First m on
first_frame [] on l w = absurd (omega arith)
first_frame (f ∷ fs) on l w = record {
  f = f;
  fs = fs;
  is = append_assoc f (concat_map (λ (f : List Word). f) fs) on;
  first-is = refl;
  full = w.0;
  has_sync = good-synced f (numbered-good 0 f w.1);
}

-- ---- words that are laid out to their end

frames-all : {ws : List Word} {k : ℕ} (fs : List (List Word)) → LaidOut seeks ws fs k places [] → own_frames ws ≡ fs
frames-all {ws} fs x = own-frames ws ∙ x.frames-are ∙ append-nil fs

found_all : {ws : List Word} {k : ℕ} {fs : List (List Word)} → LaidOut seeks ws fs k places [] → own_found ws ≡ k
found_all {ws} x = own-found ws ∙ omega (arith, x.found_are)

-- a lead-in is found at once
pub found-lead_in : Found sync
unfolding synced
found-lead_in = record { q = []; is = refl; first = λ ys. refl; ends = λ ys. refl }

-- ---- after a lead-in, and begun anywhere

module _ (m : List (List Word)) (ms : List (List (List Word))) (tail : List Word) (w : AllWhole (m ∷ ms)) (h : length tail < 128) where
  abbrev reel : List Word
  reel = words_in (m ∷ ms) ++ tail

  abbrev all_frames : List (List Word)
  all_frames = concat_map (λ m. m) (m ∷ ms)

  first : First m (words_in ms ++ tail)
  first = first_frame m (words_in ms ++ tail) w.0 w.1

  begins-is : reel ≡ first.f ++ (concat_map (λ f. f) first.fs ++ (words_in ms ++ tail))
  begins-is = append_assoc (concat_map (λ (f : List Word). f) m) (words_in ms) tail ∙ first.is

  -- behind FA F3 20
  behind_cut : (p : List Word) → Found p → LaidOut seeks (p ++ reel) [] 0 places reel
  behind_cut p d = rw begins-is (hunt-behind p first.f _ d first.full first.has_sync)

  -- in a hunt
  found-cut : (q : List Word) → before_sync q ≡ length q → PlainAfterSync (get_or m 0 []) → LaidOut seeks (q ++ reel) [] 0 finds reel
  found-cut q e plain = rw begins-is (hunt-finds q first.f _ e first.full first.has_sync (rw first.first-is at plain))

  led_cut : LaidOut seeks (sync ++ reel) all_frames 0 places []
  led_cut = then (behind_cut sync found-lead_in) (whole-cut m ms tail w h false)

  pub led_majors : majors (own_frames (sync ++ reel)) ≡ m ∷ ms
  led_majors = ap majors (frames-all all_frames led_cut) ∙ all-majors (m ∷ ms) w

  pub led_found : own_found (sync ++ reel) ≡ 0
  led_found = found_all led_cut

  module _ (q : List Word) (e : before_sync q ≡ length q) (plain : PlainAfterSync (get_or m 0 [])) where
    begun-cut : LaidOut seeks (q ++ reel) all_frames 1 places []
    begun-cut = then (found-cut q e plain) (whole-cut m ms tail w h true)

    pub begun-majors : majors (own_frames (q ++ reel)) ≡ m ∷ ms
    begun-majors = ap majors (frames-all all_frames begun-cut) ∙ all-majors (m ∷ ms) w

    pub begun-found : own_found (q ++ reel) ≡ 1
    begun-found = found_all begun-cut

-- ---- after any words

-- the cut comes from ws to ys, with some frames
pub record Comes (m : OwnMode) (ws : List Word) (m' : OwnMode) (ys : List Word) : Type 0 where
  pub frames : List (List Word)
  pub count : ℕ
  pub cut : LaidOut m ws frames count m' ys

pub comes : {m m' : OwnMode} {ws ys : List Word} {fs : List (List Word)} {k : ℕ} → LaidOut m ws fs k m' ys → Comes m ws m' ys
comes {fs = fs} {k = k} x = record { frames = fs; count = k; cut = x }

pub comes-on : {l m n : OwnMode} {ws xs ys : List Word} → Comes l ws m xs → Comes m xs n ys → Comes l ws n ys
comes-on a b = comes (then a.cut b.cut)

-- what is cut off does not touch the major frames of what follows
pub later-majors : (fs gs : List (List Word)) → (before : List (List (List Word))) × (majors (fs ++ gs) ≡ before ++ majors gs)
later-majors [] gs = ([], refl)
later-majors (f ∷ fs) gs =
    let r = later-majors fs gs in
    let here : List (List (List Word)) = cond (eqb (run_length 0 (f ∷ fs ++ gs)) 128) (take 128 (f ∷ fs ++ gs) ∷ []) [] in
    (here ++ r.0, ap (λ l. here ++ l) r.1 ∙ sym (append_assoc here r.0 (majors gs)))

-- a part of words in which FA F3 20 stands nowhere
clear_part : (k : ℕ) (l : List Word) → before_sync l ≡ length l → before_sync (drop k l) ≡ length (drop k l)
clear_part zero l e = e
clear_part (suc k) [] e = refl
clear_part (suc k) (x ∷ l) e = go (synced (x ∷ l)) refl (clear_part k l)
  where
    go : (b : Bool) → synced (x ∷ l) ≡ b → (before_sync l ≡ length l → before_sync (drop k l) ≡ length (drop k l)) → before_sync (drop k l) ≡ length (drop k l)
    go true s ih = absurd (omega (arith, before-none x l s))
    go false s ih = ih (omega (arith, before_more x l s))

-- the first three words decide
synced-more : (l ys : List Word) → 3 ≤ length l → synced (l ++ ys) ≡ synced l
unfolding synced
synced-more [] ys h = absurd (omega arith)
synced-more (x ∷ []) ys h = absurd (omega arith)
synced-more (x ∷ y ∷ []) ys h = absurd (omega arith)
synced-more (x ∷ y ∷ z ∷ l) ys h = refl

pub unsynced_class : (f : List Word) → synced f ≡ false → frame_class f ≡ Unsynced
unfolding frame_class
unsynced_class f e = rw e

-- words v of a frame, not all of it, stand before the frame f: what is cut there as a frame has no sync
pub not_synced : (v f : List Word) (k : ℕ) → 0 < length v → before_sync v ≡ length v → length f ≡ 128 → synced f ≡ true → 3 ≤ length (v ++ take k f)
    → synced (v ++ take k f) ≡ false
not_synced [] f k some e l s h = absurd (omega arith)
not_synced (x ∷ v) f k some e l s h = go (begins f l s) (synced (x ∷ v ++ take k f)) refl
  where
    whole : synced (x ∷ v ++ take k f) ≡ synced (x ∷ (v ++ f))
    whole =
        sym (synced-more (x ∷ v ++ take k f) (drop k f) h)
        ∙ ap synced (append_assoc (x ∷ v) (take k f) (drop k f) ∙ ap (λ (r : List Word). x ∷ v ++ r) (take-append-drop k f))

    go : Begins f → (b : Bool) → synced (x ∷ v ++ take k f) ≡ b → b ≡ false
    go b false z = refl
    go b true z =
        let is : x ∷ (v ++ f) ≡ (x ∷ v ++ sync) ++ b.rest = ap (λ (r : List Word). x ∷ v ++ r) b.is ∙ sym (append_assoc (x ∷ v) sync b.rest) in
        let none = before-none x (v ++ f) (sym whole ∙ z) in
        absurd (omega (arith, ap before_sync is, clear_then_sync (x ∷ v) b.rest e))

-- the words p of a frame, and k words of the next, in the place of a frame
pub shifted : (k : ℕ) (p f ys : List Word) → p ++ (f ++ ys) ≡ (p ++ take k f) ++ (drop k f ++ ys)
shifted k p f ys =
    let whole : f ++ ys ≡ take k f ++ (drop k f ++ ys) =
    ap (λ (l : List Word). l ++ ys) (sym (take-append-drop k f)) ∙ append_assoc (take k f) (drop k f) ys in
    ap (λ (l : List Word). p ++ l) whole ∙ sym (append_assoc p (take k f) (drop k f ++ ys))

pub shifted_length : (k : ℕ) (p f : List Word) → length f ≡ 128 → length p + k ≡ 128 → length (p ++ take k f) ≡ 128
shifted_length k p f l e = omega (arith, length-append p (take k f), length-take-le k f (omega arith))

-- what is left of a frame that conforms
pub clear_left : (k : ℕ) (f : List Word) → 0 < k → Conforms f → before_sync (drop k f) ≡ length (drop k f)
clear_left zero f h c = absurd (omega arith)
clear_left (suc k) [] h c = refl
clear_left (suc k) (x ∷ f) h c = clear_part k f c.no_second

module _ (ys : List Word) where
  abbrev joined_frames : List (List Word) → List Word
  joined_frames fs = concat_map (λ f. f) fs ++ ys

  -- a hunt over words v finds the frame f numbered n, and the frames after it follow
  finds_next : (n : ℕ) (v f : List Word) (fs : List (List Word)) → before_sync v ≡ length v → WholeFrom n (f ∷ fs) → PlainAfterSync f
      → Comes seeks (v ++ joined_frames (f ∷ fs)) places ys
  finds_next n v f fs e w plain =
      let s : synced f ≡ true = good-synced f (numbered-good n f w.1) in
      let found = comes (hunt-finds v f (joined_frames fs) e w.0 s plain) in
      let first = comes (good-frame n true f (joined_frames fs) w.0 w.1) in
      let rest = comes (good-frames (suc n) fs ys w.2) in
      rw (append_assoc f (concat_map (λ (f : List Word). f) fs) ys) (comes-on found (comes-on first rest))

  -- the words p of a frame stand before whole frames
  module _ (p f₀ f₁ f₂ : List Word) (fs : List (List Word)) (some : 0 < length p) (few : length p < 128) (w : WholeFrom 0 (f₀ ∷ f₁ ∷ f₂ ∷ fs))
      (c₀ : Conforms f₀) (c₁ : Conforms f₁) (c₂ : Conforms f₂) where
    abbrev k : ℕ
    k = 128 - length p

    abbrev v₀ : List Word
    v₀ = drop k f₀

    abbrev v₁ : List Word
    v₁ = drop k f₁

    -- the first frame cut is not the last cut wrong: the second has no sync
    second : Comes places (v₀ ++ joined_frames (f₁ ∷ f₂ ∷ fs)) places ys
    second =
        let rest = joined_frames (f₂ ∷ fs) in
        let left : length v₀ ≡ length p = omega (arith, length-drop k f₀, w.0) in
        let full : length (v₀ ++ take k f₁) ≡ 128 = shifted_length k v₀ f₁ w.2.0 (omega arith) in
        let s : synced f₁ ≡ true = good-synced f₁ (numbered-good 1 f₁ w.2.1) in
        let none : synced (v₀ ++ take k f₁) ≡ false = not_synced v₀ f₁ k (omega arith) (clear_left k f₀ (omega arith) c₀) w.2.0 s (omega arith) in
        let cut : LaidOut places ((v₀ ++ take k f₁) ++ (v₁ ++ rest)) ((v₀ ++ take k f₁) ∷ []) 0 seeks (v₁ ++ rest) =
        rw (unsynced_class (v₀ ++ take k f₁) none) at (any_frame false (v₀ ++ take k f₁) (v₁ ++ rest) full) in
        let on = finds_next 2 v₁ f₂ fs (clear_left k f₁ (omega arith) c₁) w.2.2 c₂.after_sync in
        rw (append_assoc f₁ (concat_map (λ (f : List Word). f) (f₂ ∷ fs)) ys, shifted k v₀ f₁ rest) (comes-on (comes cut) on)

    misplaced : (found : Bool) → Comes (beginning found) (p ++ joined_frames (f₀ ∷ f₁ ∷ f₂ ∷ fs)) places ys
    misplaced found = by_class (frame_class (p ++ take k f₀)) refl
      where
        rest : List Word
        rest = joined_frames (f₁ ∷ f₂ ∷ fs)

        full : length (p ++ take k f₀) ≡ 128
        full = shifted_length k p f₀ w.0 (omega arith)

        first : Comes (beginning found) (p ++ joined_frames (f₀ ∷ f₁ ∷ f₂ ∷ fs)) (own_mode (mode_after (frame_class (p ++ take k f₀)))) (v₀ ++ rest)
        first =
            rw (append_assoc f₀ (concat_map (λ (f : List Word). f) (f₁ ∷ f₂ ∷ fs)) ys, shifted k p f₀ rest)
            (comes (any_frame found (p ++ take k f₀) (v₀ ++ rest) full))

        by_class : (c : FrameClass) → frame_class (p ++ take k f₀) ≡ c → Comes (beginning found) (p ++ joined_frames (f₀ ∷ f₁ ∷ f₂ ∷ fs)) places ys
        by_class Good e = comes-on (rw e at first) second
        by_class Damaged e = comes-on (rw e at first) second
        by_class Unsynced e = comes-on (rw e at first) (finds_next 1 v₀ f₁ (f₂ ∷ fs) (clear_left k f₀ (omega arith) c₀) w.2 c₁.after_sync)

  in_frame_damage : (found : Bool) (p : List Word) (m : List (List Word)) → length p < 128 → length m ≡ 128 → WholeFrom 0 m → AllConform m
      → Comes (beginning found) (p ++ joined_frames m) places ys
  in_frame_damage found [] m few l w c = comes (major_cut found m ys (omega arith) w)
  in_frame_damage found (x ∷ p) [] few l w c = absurd (omega arith)
  in_frame_damage found (x ∷ p) (f ∷ []) few l w c = absurd (omega arith)
  in_frame_damage found (x ∷ p) (f ∷ g ∷ []) few l w c = absurd (omega arith)
  in_frame_damage found (x ∷ p) (f ∷ g ∷ e ∷ fs) few l w c = misplaced (x ∷ p) f g e fs (omega arith) few w c.0 c.1.0 c.1.1.0 found

module _ (m : List (List Word)) (ms : List (List (List Word))) (tail : List Word) (w : AllWhole (m ∷ ms)) (c : AllConform m) (h : length tail < 128) where
  first_plain : (m : List (List Word)) → length m ≡ 128 → AllConform m → PlainAfterSync (get_or m 0 [])
  first_plain [] l c = absurd (omega arith)
  first_plain (f ∷ fs) l c = c.0.after_sync

  -- from where the words d leave the cut
  damage_cut : (s : Stage) (p : List Word) → Settled s → Kept s p → Comes (own_mode_at s) (p ++ (words_in (m ∷ ms) ++ tail)) places (words_in ms ++ tail)
  damage_cut in_hunt p settled k =
      let found = comes (found-cut m ms tail w h p k (first_plain m w.0 c)) in
      let on = comes (major_cut true m (words_in ms ++ tail) (omega (arith, w.0)) w.1) in
      comes-on found (rw append_assoc on)
  damage_cut at-lock p settled k =
      let behind = comes (behind_cut m ms tail w h p k) in
      let on = comes (major_cut false m (words_in ms ++ tail) (omega (arith, w.0)) w.1) in
      comes-on behind (rw append_assoc on)
  damage_cut (in_frame found) p settled k = rw append_assoc (in_frame_damage (words_in ms ++ tail) found p m k.0 w.0 w.1 c)
  damage_cut led_in p settled k = absurd settled

  -- the frames of d and of the first major frame, as they were cut, and then those of the others
  module _ (d : List Word) where
    abbrev damaged : List Word
    damaged = d ++ (words_in (m ∷ ms) ++ tail)

    abbrev r : Reached d
    r = reached d

    to-the_second : Comes seeks damaged places (words_in ms ++ tail)
    to-the_second =
        let upto : LaidOut seeks damaged (frames_held r.beside.own) (found_in r.beside.own) (own_mode_at r.stage)
        (r.rest ++ (words_in (m ∷ ms) ++ tail)) =
        laid r.beside.own (r.beside.own_cut.goes_on (words_in (m ∷ ms) ++ tail)) in
        comes-on (comes upto) (damage_cut r.stage r.rest r.settled r.beside.kept)

    frames-after : own_frames damaged ≡ to-the_second.frames ++ concat_map (λ m. m) ms
    frames-after =
        own-frames damaged ∙ to-the_second.cut.frames-are
        ∙ ap (λ (l : List (List Word)). to-the_second.frames ++ l) ((rest-cut m ms tail w h).frames-are ∙ append-nil (concat_map (λ m. m) ms))

    pub damaged-majors : (before : List (List (List Word))) × (majors (own_frames damaged) ≡ before ++ ms)
    damaged-majors =
        let later = later-majors to-the_second.frames (concat_map (λ m. m) ms) in
        (later.0, ap majors frames-after ∙ later.1 ∙ ap (λ l. later.0 ++ l) (all-majors ms w.2))
