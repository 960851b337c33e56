-- Two minor frames are the least: four words of damage, and one minor frame, cost the major frame behind it. Assumes nothing.
use mathlib.Core.Path.{◌≡◌, refl, ap, ◌∙◌}
use mathlib.Core.Bool.{Bool, true, false}
use mathlib.Core.List.{List, [], ◌∷◌, ◌++◌, append-nil}
use Prim.Native.Nat.{ℕ, suc}
use native.Mathlib.Omega.{arith}
use lib.ListN.{length, take, drop, length-drop}
use Rattle.base.specs.Lists.{concat_map}
use Rattle.labelling.specs.declared.Word.{Word}
use Rattle.labelling.specs.MinorFrames.{is_word, synced}
use Rattle.labelling.specs.MajorFrames.{is_good, numbered, majors}
use Rattle.labelling.proofs.RunCuts.{begins-none, stops, goes_on}
use Rattle.own_sync.specs.OwnCut.{seeks, places, finds, own_frames}
use Rattle.own_sync.specs.Recovery.{WholeFrom, Conforms, AllConform}
use Rattle.own_sync.proofs.OwnCuts.{owns, frames_held, own-frames, sync, own-hunt_before}
use Rattle.own_sync.proofs.Recovery.{numbered-good, good-synced, LaidOut, then, laid, any_frame, good-frame, good-frames, hunt-finds}
use Rattle.own_sync.proofs.Recovery.{unsynced_class, not_synced, shifted, shifted_length, clear_left}
use Rattle.own_reels.specs.Damage.{Standing}
use Rattle.own_reels.proofs.SyncedFrame.{next-begins}

-- frames numbered from 1 on begin no run
none-begun : (n : ℕ) (fs : List (List Word)) → WholeFrom (suc n) fs → majors fs ≡ []
none-begun n [] w = refl
none-begun n (f ∷ fs) w = rw (stops 0 f fs (begins-none n f w.1)) (none-begun (suc n) fs w.2)

-- nor does one frame before a frame without sync
unsynced_number : (n : ℕ) (f : List Word) → synced f ≡ false → numbered n f ≡ false
unfolding numbered is_good
unsynced_number n f e = rw (unsynced_class f e)

none-complete : (x y : List Word) (fs : List (List Word)) → synced y ≡ false → majors fs ≡ [] → majors (x ∷ y ∷ fs) ≡ []
none-complete x y fs e none = go (numbered 0 x) refl
  where
    go : (b : Bool) → numbered 0 x ≡ b → majors (x ∷ y ∷ fs) ≡ []
    go true h = rw (goes_on 0 x (y ∷ fs) h, stops 1 y fs (unsynced_number 1 y e), stops 0 y fs (unsynced_number 0 y e), none)
    go false h = rw (stops 0 x (y ∷ fs) h, stops 0 y fs (unsynced_number 0 y e), none)

module _ (v : Word) (f : List Word) (plain : is_word 0xfa v ≡ false) (sf : Standing f) where
  -- the words of the false frame that are none of f's
  abbrev p : List Word
  p = sync ++ v ∷ []

  -- the major frame has a first frame g and a second h
  module _ (g h : List Word) (fs : List (List Word)) (w : WholeFrom 0 (g ∷ h ∷ fs)) (cg : Conforms g) (ch : Conforms h) where
    abbrev on : List Word
    on = concat_map (λ f. f) (h ∷ fs)

    abbrev reel_so : List Word
    reel_so = p ++ (f ++ (g ++ on))

    -- the two frames that are cut wrong, and what they leave of f and of g
    abbrev false_frame : List Word
    false_frame = p ++ take 124 f

    abbrev v₀ : List Word
    v₀ = drop 124 f

    abbrev second_frame : List Word
    second_frame = v₀ ++ take 124 g

    abbrev v₁ : List Word
    v₁ = drop 124 g

    left : length v₀ ≡ 4
    left = omega (arith, length-drop 124 f, sf.full)

    none : synced second_frame ≡ false
    none =
        let full : length second_frame ≡ 128 = shifted_length 124 v₀ g w.0 (omega (arith, left)) in
        let clear = clear_left 124 f (omega arith) sf.conforms in
        not_synced v₀ g 124 (omega (arith, left)) clear w.0 (good-synced g (numbered-good 0 g w.1)) (omega arith)

    deceived : LaidOut seeks reel_so [] 0 finds reel_so
    unfolding synced
    deceived = laid [] (own-hunt_before (v ∷ (f ++ (g ++ on))) [] refl plain)

    first-cut : LaidOut finds reel_so (false_frame ∷ []) 1 places (v₀ ++ (g ++ on))
    unfolding synced
    first-cut =
        let x = any_frame true false_frame (v₀ ++ (g ++ on)) (shifted_length 124 p f sf.full (omega arith)) in
        rw (shifted 124 p f (g ++ on)) (rw (next-begins false_frame refl) at x)

    second-cut : LaidOut places (v₀ ++ (g ++ on)) (second_frame ∷ []) 0 seeks (v₁ ++ on)
    second-cut =
        let x = any_frame false second_frame (v₁ ++ on) (shifted_length 124 v₀ g w.0 (omega (arith, left))) in
        rw (shifted 124 v₀ g on) (rw (unsynced_class second_frame none) at x)

    third_cut : LaidOut seeks (v₁ ++ on) [] 0 finds on
    third_cut =
        hunt-finds v₁ h (concat_map (λ (f : List Word). f) fs) (clear_left 124 g (omega arith) cg) w.2.0 (good-synced h (numbered-good 1 h w.2.1))
        ch.after_sync

    rest-cut : frames_held (owns finds on) ≡ h ∷ fs
    rest-cut =
        let ys = concat_map (λ (f : List Word). f) fs in
        let x = (good-frame 1 true h ys w.2.0 w.2.1).frames-are in
        let y = (good-frames 2 fs [] w.2.2).frames-are in
        x ∙ ap (λ (l : List (List Word)). h ∷ l) ((rw (append-nil ys) at y) ∙ append-nil fs)

    frames-so : own_frames reel_so ≡ false_frame ∷ second_frame ∷ h ∷ fs
    frames-so =
        let x = then deceived (then first-cut (then second-cut third_cut)) in
        own-frames reel_so ∙ x.frames-are ∙ ap (λ (l : List (List Word)). false_frame ∷ second_frame ∷ l) rest-cut

    nothing : majors (own_frames reel_so) ≡ []
    nothing = ap majors frames-so ∙ none-complete false_frame second_frame (h ∷ fs) none (none-begun 0 (h ∷ fs) w.2)

  pub one-too_few : (m : List (List Word)) → length m ≡ 128 → WholeFrom 0 m → AllConform m → majors (own_frames (p ++ (f ++ concat_map (λ f. f) m))) ≡ []
  one-too_few [] l w c = absurd (omega arith)
  one-too_few (g ∷ []) l w c = absurd (omega arith)
  one-too_few (g ∷ h ∷ fs) l w c = nothing g h fs w c.0 c.1.0
