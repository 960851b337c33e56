-- A frame with its sync: behind it the next begins. Assumes nothing.
use mathlib.Core.Path.{◌≡◌, refl}
use mathlib.Core.Bool.{Bool, true, false, cond}
use mathlib.Core.List.{List, ◌++◌}
use lib.ListN.{length}
use Rattle.labelling.specs.declared.FrameClass.TheVariants.{Good, Damaged}
use Rattle.labelling.specs.declared.Word.{Word}
use Rattle.labelling.specs.MinorFrames.{synced, any_erased, frame_class, mode_after}
use Rattle.own_sync.specs.OwnCut.{places, own_mode}
use Rattle.own_sync.proofs.OwnCuts.{beginning}
use Rattle.own_sync.proofs.Recovery.{any_frame, Comes, comes}

pub next-begins : (f : List Word) → synced f ≡ true → own_mode (mode_after (frame_class f)) ≡ places
unfolding frame_class
next-begins f s = rw s (go (any_erased f))
  where
    go : (e : Bool) → own_mode (mode_after (cond e Damaged Good)) ≡ places
    go true = refl
    go false = refl

pub synced-frame : (found : Bool) (f ys : List Word) → length f ≡ 128 → synced f ≡ true → Comes (beginning found) (f ++ ys) places ys
synced-frame found f ys l s = rw (next-begins f s) at (comes (any_frame found f ys l))
