-- A frame put into a slot: it stands there, and every other slot's bytes stay. Assumes nothing.
use mathlib.Core.Path.{◌≡◌, refl, sym, ap, ◌∙◌}
use mathlib.Core.Bool.{Bool, true, false}
use mathlib.Core.List.{List, ◌++◌, append_assoc}
use mathlib.Core.Logic.{◌⊎◌, inl, inr}
use Prim.Native.Nat.{ℕ, ◌+◌, ◌-◌, ◌≤◌, ◌<◌}
use native.Mathlib.Nat.{add-sub_of_le}
use native.Mathlib.Omega.{arith}
use borrow.Author.Tests.{ltb-true, ltb-false}
use borrow.Rule.Slice.PartMut.{put_mid, Post-is}
use lib.Dec.{ltb}
use lib.ListN.{length, take, drop, get_or, length-append, length-take, length-drop, get_or-append}
use lib.Seq.{take_at, drop_at, get_or-take, get_or-drop, get_or-append-add, ext_get_or, length-take-le}
use Rattle.base.specs.Format.{major_frame}
use Rattle.frame_store.specs.Slots.{start, slot_bytes, with_frame}

pub slot-length : (i : ℕ) (area : List ℕ) → start i + major_frame ≤ length area → length (slot_bytes i area) ≡ major_frame
unfolding slot_bytes
slot-length i area h = length-take-le major_frame (drop (start i) area) (omega (arith, length-drop (start i) area))

-- the part that the code hands out
pub part-is : (i : ℕ) (area : List ℕ) → take (start i + major_frame - start i) (drop (start i) area) ≡ slot_bytes i area
unfolding slot_bytes
part-is i area = let size : start i + major_frame - start i ≡ major_frame = omega arith in rw size

module _ (i : ℕ) (frame area : List ℕ) (sized : length frame ≡ major_frame) (room : start i + major_frame ≤ length area) where
  abbrev new : List ℕ
  new = with_frame i frame area

  abbrev rest : List ℕ
  rest = drop (start i + major_frame) area

  head_length : length (take (start i) area) ≡ start i
  head_length = length-take-le (start i) area (omega arith)

  pub there : slot_bytes i new ≡ frame
  unfolding slot_bytes with_frame
  there = ap (take major_frame) (drop_at (take (start i) area) (frame ++ rest) (start i) head_length) ∙ take_at frame rest major_frame sized

  pub same_length : length new ≡ length area
  unfolding with_frame
  same_length =
      length-append (take (start i) area) (frame ++ rest)
      ∙ omega (arith, head_length, length-append frame rest, length-drop (start i + major_frame) area)

  -- ---- a byte before the slot, one after it, and so every byte of another slot

  byte_before : (k : ℕ) → k < start i → get_or new k 0 ≡ get_or area k 0
  unfolding with_frame
  byte_before k h =
      get_or-append (take (start i) area) (frame ++ rest) 0 k (omega (arith, head_length)) ∙ get_or-take (start i) area k 0 h

  byte_after : (m : ℕ) → get_or new (start i + major_frame + m) 0 ≡ get_or area (start i + major_frame + m) 0
  unfolding with_frame
  byte_after m =
      let head = take (start i) area ++ frame in
      let size : length head ≡ start i + major_frame = length-append (take (start i) area) frame ∙ omega (arith, head_length) in
      ap (λ (l : List ℕ). get_or l (start i + major_frame + m) 0) (sym (append_assoc (take (start i) area) frame rest))
      ∙ ap (λ (n : ℕ). get_or (head ++ rest) (n + m) 0) (sym size)
      ∙ get_or-append-add head rest m 0
      ∙ get_or-drop (start i + major_frame) area m 0

  byte_elsewhere : (k : ℕ) → (k < start i) ⊎ (start i + major_frame ≤ k) → get_or new k 0 ≡ get_or area k 0
  byte_elsewhere k (inl h) = byte_before k h
  byte_elsewhere k (inr h) =
      let e = add-sub_of_le h in
      ap (λ (n : ℕ). get_or new n 0) (sym e) ∙ byte_after (k - (start i + major_frame)) ∙ ap (λ (n : ℕ). get_or area n 0) e

  apart : (j k : ℕ) → (i ≡ j → ⊥) → k < major_frame → (start j + k < start i) ⊎ (start i + major_frame ≤ start j + k)
  apart j k other l = by_order (ltb j i) refl
    where
      by_order : (b : Bool) → ltb j i ≡ b → (start j + k < start i) ⊎ (start i + major_frame ≤ start j + k)
      by_order true e = inl (omega (arith, ltb-true j i e))
      by_order false e = inr (omega (arith, ltb-false j i e))

  pub elsewhere : (j : ℕ) → (i ≡ j → ⊥) → slot_bytes j new ≡ slot_bytes j area
  unfolding slot_bytes
  elsewhere j other = ext_get_or 0 (take major_frame (drop (start j) new)) (take major_frame (drop (start j) area)) lengths each
    where
      lengths : length (take major_frame (drop (start j) new)) ≡ length (take major_frame (drop (start j) area))
      lengths = let size = same_length in simp (length-take, length-drop) (rw size)

      byte : (l : List ℕ) (k : ℕ) → k < major_frame → get_or (take major_frame (drop (start j) l)) k 0 ≡ get_or l (start j + k) 0
      byte l k h = get_or-take major_frame (drop (start j) l) k 0 h ∙ get_or-drop (start j) l k 0

      each : (k : ℕ) → k < length (take major_frame (drop (start j) new))
          → get_or (take major_frame (drop (start j) new)) k 0 ≡ get_or (take major_frame (drop (start j) area)) k 0
      each k h =
          let l : k < major_frame = omega (arith, length-take major_frame (drop (start j) new)) in
          byte new k l ∙ byte_elsewhere (start j + k) (apart j k other l) ∙ sym (byte area k l)

-- what the code's copy into a part of the area leaves
pub copied : (i : ℕ) (frame area last : List ℕ) → start i + major_frame ≤ length area → last ≡ frame
    → put_mid (start i) (start i + major_frame - start i) area last ≡ with_frame i frame area
unfolding with_frame
copied i frame area last room whole = rw (whole, Post-is (start i) (start i + major_frame) area (omega arith))
