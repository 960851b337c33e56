-- Every list of calls keeps bits, area and what the calls did in step. `Sound` is what is kept, and each call keeps it by what it does to one slot:
-- nothing, a frame stored, or the slot freed. That a frame held is the last one stored there is read off the list. Assumes nothing.
use mathlib.Core.Path.{◌≡◌, refl, sym, ap, ◌∙◌}
use mathlib.Core.Bool.{Bool, true, false, cond, not, ◌&&◌}
use mathlib.Core.List.{List, [], ◌∷◌}
use mathlib.Core.Option.{Option, none, some}
use Prim.Native.Nat.{ℕ, ◌+◌, ◌-◌, ◌^◌, ◌≤◌, ◌<◌}
use native.Mathlib.Omega.{arith}
use borrow.Author.Tests.{eqb-true, eqb-false, ltb-true, ltb-false, lt-ltb, lt-leb}
use lib.Dec.{eqb, ltb}
use lib.ListN.{length}
use lib.Pow.{pow_mono, pow_pos}
use Rattle.base.specs.Format.{major_frame}
use Rattle.base.specs.declared.refusal.Refusal.TheVariants.{WrongLength, NotWholeSlots, NoFreeSlot, NoSuchSlot}
use Rattle.base.specs.Refusals.{◌when◌, refusal}
use Rattle.frame_store.specs.Slots.{slots, whole_slots, start, slot_bytes, with_frame, is_in_use, lowest, lowest_free}
use Rattle.frame_store.specs.Answers.{slot_lines, store_refusal, slot_refusal, part_of}
use Rattle.frame_store.specs.Calls.{Call, storing, releasing, reading, Handed, begun, accepted, refused, Deed, put, freed, nothing, deed}
use Rattle.frame_store.specs.Calls.{hold_after, held, is_held, part_held, bytes_after, last_bytes, Kept}
use Rattle.frame_store.proofs.Bits.{no_bits, set-bit, set_below, bit_le, clear_bit}
use Rattle.frame_store.proofs.Lowest.{clash, same-lowest}
use Rattle.frame_store.proofs.Areas.{there, same_length, elsewhere}
use Rattle.frame_store.proofs.Refusals.{Whole, permits, Granted, to-granted, is_granted, Storable, to-storable}
use Rattle.frame_store.proofs.Answered.{slot-taken, bits-taken, leaves_taken, put-taken, bits-freed, freed_taken, part-taken, part-refused, deed-refused}

-- ---- what is kept in step

record Sound (first : List ℕ) (cs : List Call) (bits : ℕ) (area : List ℕ) : Type 0 where
  size : length area ≡ length first
  below : bits < 2 ^ slots (length area)
  in_use : (i : ℕ) → is_in_use bits i ≡ is_held (held i cs)
  bytes : (i : ℕ) → slot_bytes i area ≡ last_bytes i cs (slot_bytes i first)
  -- a slot is in use only where there are slots
  whole : (i : ℕ) → is_in_use bits i ≡ true → Whole (length area)

module _ {first : List ℕ} {cs : List Call} {bits : ℕ} {area : List ℕ} (s : Sound first cs bits area) (c : Call) where
  -- a call that does nothing to a slot
  stays : deed c ≡ nothing → Sound first (c ∷ cs) bits area
  stays d =
      record {
        size = s.size;
        below = s.below;
        in_use = λ i. rw d (s.in_use i);
        bytes = λ i. rw d (s.bytes i);
        whole = s.whole;
      }

  -- one that stores a frame
  module _ (frame : List ℕ) (g : Storable (length area) bits frame) where
    abbrev slot : ℕ
    slot = lowest_free (slots (length area)) bits

    abbrev new : List ℕ
    new = with_frame slot frame area

    fits : start slot + major_frame ≤ length area
    fits = omega (arith, g.there, g.fitting.whole.exact)

    size_kept : length new ≡ length area
    size_kept = same_length slot frame area g.sized fits

    keeps : deed c ≡ put slot frame → Sound first (c ∷ cs) (bits + 2 ^ slot) new
    keeps d =
        record {
          size = size_kept ∙ s.size;
          below = rw size_kept (set_below slot (slots (length area)) bits g.there g.fitting.below g.free);
          in_use = λ i. rw d (set-bit slot i bits g.free ∙ used i (eqb slot i));
          bytes = λ i. rw d (stands i (eqb slot i) refl);
          whole = λ i h. rw size_kept g.fitting.whole;
        }
      where
        used : (i : ℕ) (b : Bool) → cond b true (is_in_use bits i) ≡ is_held (cond b (some frame) (held i cs))
        used i true = refl
        used i false = s.in_use i

        stands : (i : ℕ) (b : Bool) → eqb slot i ≡ b → slot_bytes i new ≡ cond b frame (last_bytes i cs (slot_bytes i first))
        stands i true e = rw (sym (eqb-true slot i e)) (there slot frame area g.sized fits)
        stands i false e = elsewhere slot frame area g.sized fits i (eqb-false slot i e) ∙ s.bytes i

  -- one that frees slot i
  frees : (i : ℕ) → Granted (length area) bits i → deed c ≡ freed i → Sound first (c ∷ cs) (bits - 2 ^ i) area
  frees i g d =
      record {
        size = s.size;
        below = omega (arith, s.below);
        in_use = λ j. rw d (clear_bit i j bits g.used ∙ used j (eqb i j));
        bytes = λ j. rw d (s.bytes j);
        whole = λ j h. g.fitting.whole;
      }
    where
      used : (j : ℕ) (b : Bool) → cond b false (is_in_use bits j) ≡ is_held (cond b none (held j cs))
      used j true = refl
      used j false = s.in_use j

sound : {first : List ℕ} {cs : List Call} {bits : ℕ} {area : List ℕ} → Handed first cs bits area → Sound first cs bits area
sound {first} begun =
    record {
      size = refl;
      below = pow_pos (slots (length first));
      in_use = no_bits;
      bytes = λ i. refl;
      whole = λ i h. absurd (clash h (no_bits i));
    }
sound (refused c n e before) = stays (sound before) c (deed-refused c n e)
sound (accepted (reading area bits i) e before) = stays (sound before) (reading area bits i) refl
sound (accepted (releasing area bits i) e before) =
    rw (bits-freed area bits i e)
    (frees (sound before) (releasing area bits i) i (to-granted (length area) bits i e) (freed_taken area bits i e))
sound (accepted (storing area bits frame) e before) =
    rw (bits-taken area bits frame e, leaves_taken area bits frame e)
    (keeps (sound before) (storing area bits frame) frame (to-storable (length area) bits frame e) (put-taken area bits frame e))

-- ---- the frame that is held is the last that was stored

held-last : (i : ℕ) (cs : List Call) (frame bytes : List ℕ) → held i cs ≡ some frame → last_bytes i cs bytes ≡ frame
held-last i [] frame bytes h = let z : ◌≡◌ {A = ℕ} 0 1 = cc in absurd (omega arith)
held-last i (c ∷ cs) frame bytes h = by_deed (deed c) h (held-last i cs frame bytes)
  where
    by_deed : (d : Deed) → hold_after i d (held i cs) ≡ some frame → (held i cs ≡ some frame → last_bytes i cs bytes ≡ frame)
        → bytes_after i d (last_bytes i cs bytes) ≡ frame
    by_deed (put j f) h rest = here (eqb j i) h
      where
        here : (b : Bool) → cond b (some f) (held i cs) ≡ some frame → cond b f (last_bytes i cs bytes) ≡ frame
        here true h = cc
        here false h = rest h
    by_deed (freed j) h rest = here (eqb j i) h
      where
        here : (b : Bool) → cond b none (held i cs) ≡ some frame → last_bytes i cs bytes ≡ frame
        here true h = let z : ◌≡◌ {A = ℕ} 0 1 = cc in absurd (omega arith)
        here false h = rest h
    by_deed nothing h rest = rest h

-- ---- the claim

module _ {first : List ℕ} {cs : List Call} {bits : ℕ} {area : List ℕ} (handed : Handed first cs bits area) where
  s : Sound first cs bits area
  s = sound handed

  -- a slot in use is there
  in_span_fact : (i : ℕ) → is_in_use bits i ≡ true → i < slots (length area)
  in_span_fact i h = by_order (ltb i (slots (length area))) refl
    where
      by_order : (b : Bool) → ltb i (slots (length area)) ≡ b → i < slots (length area)
      by_order true e = ltb-true i _ e
      by_order false e =
          let more : 2 ^ slots (length area) ≤ 2 ^ i = pow_mono (ltb-false i (slots (length area)) e) in
          absurd (omega (arith, bit_le i bits h, s.below))

  granted : (i : ℕ) → is_in_use bits i ≡ true → slot_refusal area bits i ≡ 0
  granted i h =
      permits (slot_lines (length area) bits i)
      (is_granted (length area) bits i
      (record { fitting = record { whole = s.whole i h; below = s.below }; there = in_span_fact i h; used = h }))

  reads : (i : ℕ) → part_of area bits i ≡ part_held (held i cs)
  reads i = by_held (held i cs) refl
    where
      by_held : (h : Option (List ℕ)) → held i cs ≡ h → part_of area bits i ≡ part_held h
      by_held none e = part-refused area bits i (λ z. clash (to-granted (length area) bits i z).used (s.in_use i ∙ ap is_held e))
      by_held (some frame) e =
          part-taken area bits i (granted i (s.in_use i ∙ ap is_held e)) ∙ s.bytes i ∙ held-last i cs frame (slot_bytes i first) e

  used_alone : (i : ℕ) → (ltb i (slots (length area)) && is_in_use bits i) ≡ is_held (held i cs)
  used_alone i = by_use (is_in_use bits i) refl ∙ s.in_use i
    where
      by_use : (b : Bool) → is_in_use bits i ≡ b → (ltb i (slots (length area)) && is_in_use bits i) ≡ is_in_use bits i
      by_use true e = rw (lt-ltb i (slots (length area)) (in_span_fact i e))
      by_use false e = rw e (never (ltb i (slots (length area))))
        where
          never : (x : Bool) → (x && false) ≡ false
          never true = refl
          never false = refl

  slot-refusal : (i : ℕ) → slot_refusal area bits i ≡ refusal (NotWholeSlots when not (whole_slots (length first)) ∷ NoSuchSlot when not (is_held (held i cs)) ∷ [])
  slot-refusal i = let size = s.size in rw (lt-leb (2 ^ slots (length area)) bits s.below, used_alone i, size)

  -- the lowest slot that holds no frame
  abbrev empty : ℕ
  empty = lowest (λ i. not (is_held (held i cs))) 0 (slots (length first))

  lowest-empty : lowest_free (slots (length area)) bits ≡ empty
  lowest-empty = let size = s.size in rw size (same-lowest _ _ (λ i. ap not (s.in_use i)) 0 (slots (length first)))

  store_refusal_fact : (frame : List ℕ) → store_refusal area bits frame
      ≡ refusal (WrongLength when not (eqb (length frame) major_frame)
      ∷ NotWholeSlots when not (whole_slots (length first))
      ∷ NoFreeSlot when eqb empty (slots (length first))
      ∷ [])
  store_refusal_fact frame = let size = s.size in rw (lt-leb (2 ^ slots (length area)) bits s.below, lowest-empty, size)

  pub kept : Kept first cs bits area
  kept =
      record {
        reads = reads;
        slot-refusal = slot-refusal;
        in_use = s.in_use;
        bytes = s.bytes;
        size = s.size;
        store_refusal_fact = store_refusal_fact;
        next = λ frame e. slot-taken area bits frame e ∙ lowest-empty;
      }
