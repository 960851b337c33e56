-- The class of a frame, from its words and from its bytes. An erasure is stored as 0, which is no sync word, so the sync may be looked for in
-- the bytes. Assumes nothing.
use mathlib.Core.Path.{◌≡◌, refl, sym}
use mathlib.Core.Bool.{Bool, ◌||◌, or-false, or_assoc}
use mathlib.Core.List.{List, [], ◌∷◌, ◌++◌}
use Prim.Native.Nat.{ℕ, suc, ◌+◌}
use lib.Dec.{eqb, eqb-zero-suc}
use lib.ListN.{get_or, get_or-map}
use Rattle.base.specs.Lists.{one}
use Rattle.base.proofs.Lists.{sum_by-append}
use Rattle.labelling.specs.declared.FrameClass.{FrameClass}
use Rattle.labelling.specs.declared.Word.{Word}
use Rattle.labelling.specs.declared.Word.TheVariants.{Voted, Erased}
use Rattle.labelling.specs.MinorFrames.{is_word, is_erased, synced, any_erased, frame_class, same_class, classed}
use Rattle.labelling.specs.MajorFrames.{value, values}
use Rattle.labelling.specs.Machine.{synced_bytes, bytes_class}

pub erased_snoc : (p : List Word) (w : Word) → any_erased (p ++ w ∷ []) ≡ (any_erased p || is_erased w)
erased_snoc [] w = or-false (is_erased w)
erased_snoc (x ∷ p) w = rw (erased_snoc p w) (sym (or_assoc (is_erased x) (any_erased p) (is_erased w)))

-- FA F3 20 may be looked for in the bytes: an erasure, which is 0 there, is none of the three
synced-bytes : (p : List Word) → synced p ≡ synced_bytes (values p)
unfolding synced synced_bytes
synced-bytes p = rw (at_place 0 0xf9, at_place 1 0xf2, at_place 2 0x1f)
  where
    is_byte : (w : Word) (n : ℕ) → is_word (suc n) w ≡ eqb (value w) (suc n)
    is_byte (Voted m) n = refl
    is_byte Erased n = sym (eqb-zero-suc n)

    at_place : (k n : ℕ) → is_word (suc n) (get_or p k Erased) ≡ eqb (get_or (values p) k 0) (suc n)
    at_place k n = rw (get_or-map value p k Erased) (is_byte (get_or p k Erased) n)

pub class_of-bytes : (p : List Word) (bytes : List ℕ) (erasure : Bool) → values p ≡ bytes → any_erased p ≡ erasure
    → frame_class p ≡ bytes_class (synced_bytes bytes) erasure
unfolding frame_class
class_of-bytes p bytes erasure ev ee = rw (synced-bytes p, ev, ee)

pub classed-append : (k : FrameClass) (fs gs : List (List Word)) → classed k (fs ++ gs) ≡ classed k fs + classed k gs
unfolding classed
classed-append k fs gs = sum_by-append (λ f. one (same_class k (frame_class f))) fs gs
