-- What each entry promises: its complete answer and every lent byte, refused calls too. Each of them goes on any list of calls that led to
-- the bits and the area that it is handed, and `slot` and `try_slot` give out the claim about every such list. Definitions only.
use Rattle.std.specs.Prelude.{◌≡◌, List, ◌∷◌, ℕ, ◌+◌, length, Result, Ok}
use denote.Ref.{Bor}
use Rattle.base.specs.declared.refusal.Refusal.{Refusal}
use Rattle.base.specs.Format.{major_frame}
use Rattle.base.specs.Refusals.{number_of, given_or}
use Rattle.frame_store.specs.declared.Stored.{Stored}
use Rattle.frame_store.specs.Slots.{slot_bytes}
use Rattle.frame_store.specs.Answers.{store_refusal, slot_refusal, stored, slot_in, bits_in, store_leaves, released, part_of, part_in, start_of}
use Rattle.frame_store.specs.Calls.{Call, storing, releasing, reading, Handed, Kept}

-- `store` of the frame answers r and leaves new
pub record StorePromise (area : List ℕ) (bits : ℕ) (frame new : List ℕ) (r : Result Stored Refusal) : Type 0 where
  pub answer : r ≡ stored area bits frame
  pub after : new ≡ store_leaves area bits frame
  pub refusal_is : number_of r ≡ store_refusal area bits frame
  -- the frame stands in its slot, and all other slots' bytes stay
  pub there : store_refusal area bits frame ≡ 0 → slot_bytes (slot_in r) new ≡ frame
  pub others : (j : ℕ) → (slot_in r ≡ j → ⊥) → slot_bytes j new ≡ slot_bytes j area
  pub goes_on : {first : List ℕ} {cs : List Call} → Handed first cs bits area → Handed first (storing area bits frame ∷ cs) (bits_in bits r) new

-- `release` of slot i answers r
pub record ReleasePromise (area : List ℕ) (bits i : ℕ) (r : Result ℕ Refusal) : Type 0 where
  pub answer : r ≡ released area bits i
  pub refusal_is : number_of r ≡ slot_refusal area bits i
  pub goes_on : {first : List ℕ} {cs : List Call} → Handed first cs bits area → Handed first (releasing area bits i ∷ cs) (given_or bits r) area

-- `slot` of the area that lies at base answers the bytes that lie at place
pub record SlotPromise (area : List ℕ) (base : ℕ × ℕ) (bits i : ℕ) (bytes : List ℕ) (place : ℕ × ℕ) : Type 0 where
  pub contents : bytes ≡ part_of area bits i
  -- the caller's own memory: the same block, from the slot's first byte on
  pub block : place.0 ≡ base.0
  pub offset : place.1 ≡ base.1 + start_of area bits i
  -- a part that is not refused is a whole frame
  pub whole : slot_refusal area bits i ≡ 0 → length bytes ≡ major_frame
  pub goes_on : {first : List ℕ} {cs : List Call} → Handed first cs bits area → Handed first (reading area bits i ∷ cs) bits area
  -- every list of calls that leaves these bits and this area
  pub kept : {first : List ℕ} {cs : List Call} → Handed first cs bits area → Kept first cs bits area

-- `try_slot` of the area that lies at base answers r
pub record TrySlotPromise (area : List ℕ) (base : ℕ × ℕ) (bits i : ℕ) (r : Result (Bor (List ℕ)) Refusal) : Type 0 where
  pub refusal_is : number_of r ≡ slot_refusal area bits i
  pub contents : part_in r ≡ part_of area bits i
  -- the caller's own memory: the same block, from the slot's first byte on
  pub block : (part : Bor (List ℕ)) → r ≡ Ok part → part.ref_ptr.0 ≡ base.0
  pub offset : (part : Bor (List ℕ)) → r ≡ Ok part → part.ref_ptr.1 ≡ base.1 + start_of area bits i
  -- a part that is not refused is a whole frame
  pub whole : slot_refusal area bits i ≡ 0 → length (part_in r) ≡ major_frame
  pub goes_on : {first : List ℕ} {cs : List Call} → Handed first cs bits area → Handed first (reading area bits i ∷ cs) bits area
  -- every list of calls that leaves these bits and this area
  pub kept : {first : List ℕ} {cs : List Call} → Handed first cs bits area → Kept first cs bits area
