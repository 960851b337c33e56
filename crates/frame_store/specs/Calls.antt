-- Any sequence of calls, bits and area handed on, from no bits set (02, request 12), and what then holds. Definitions only.
use Rattle.std.specs.Prelude.{◌≡◌, Bool, true, false, cond, not, List, [], ◌∷◌, ℕ, suc, eqb, length}
use Rattle.std.proofs.Math.Option.{Option, none, some}
use Rattle.base.specs.Format.{major_frame}
use Rattle.base.specs.declared.refusal.Refusal.TheVariants.{WrongLength, NotWholeSlots, NoFreeSlot, NoSuchSlot}
use Rattle.base.specs.Refusals.{◌when◌, answered, refusal, given_or}
use Rattle.frame_store.specs.Slots.{slots, whole_slots, slot_bytes, is_in_use, lowest}
use Rattle.frame_store.specs.Answers.{store_lines, slot_lines, store_refusal, slot_refusal, stored, slot_in, bits_in, store_leaves, released, part_of}

-- a call and what it is handed: area, bits, and the frame or the slot
pub data Call : Type 0 where
  storing : List ℕ → ℕ → List ℕ → Call
  releasing : List ℕ → ℕ → ℕ → Call
  reading : List ℕ → ℕ → ℕ → Call

abbrev pub area_of : Call → List ℕ
area_of (storing area bits frame) = area
area_of (releasing area bits i) = area
area_of (reading area bits i) = area

abbrev pub bits_of : Call → ℕ
bits_of (storing area bits frame) = bits
bits_of (releasing area bits i) = bits
bits_of (reading area bits i) = bits

abbrev pub refusal_of : Call → ℕ
refusal_of (storing area bits frame) = store_refusal area bits frame
refusal_of (releasing area bits i) = slot_refusal area bits i
refusal_of (reading area bits i) = slot_refusal area bits i

-- the bits that it answers, and the area that it leaves
abbrev pub bits_after : Call → ℕ
bits_after (storing area bits frame) = bits_in bits (stored area bits frame)
bits_after (releasing area bits i) = given_or bits (released area bits i)
bits_after (reading area bits i) = bits

abbrev pub area_after : Call → List ℕ
area_after (storing area bits frame) = store_leaves area bits frame
area_after (releasing area bits i) = area
area_after (reading area bits i) = area

-- `Handed first cs bits area`: from no bits and the area first, each accepted call of cs, the latest first, is handed the bits and the area that
-- the accepted one before it left, and a refused one is handed anything; these bits and this area are left
pub data Handed (first : List ℕ) : List Call → ℕ → List ℕ → Type 0 where
  begun : Handed first [] 0 first
  accepted : {cs : List Call} (c : Call) → refusal_of c ≡ 0 → Handed first cs (bits_of c) (area_of c) → Handed first (c ∷ cs) (bits_after c) (area_after c)
  refused : {cs : List Call} {bits : ℕ} {area : List ℕ} (c : Call) (n : ℕ) → refusal_of c ≡ suc n → Handed first cs bits area
      → Handed first (c ∷ cs) bits area

-- ---- what the calls did to a slot, from the calls alone

-- a frame was stored in a slot, a slot was released, or neither
pub data Deed : Type 0 where
  put : ℕ → List ℕ → Deed
  freed : ℕ → Deed
  nothing : Deed

abbrev pub deed : Call → Deed
deed (storing area bits frame) = answered (λ n. nothing) (store_lines (length area) bits frame) (put (slot_in (stored area bits frame)) frame)
deed (releasing area bits i) = answered (λ n. nothing) (slot_lines (length area) bits i) (freed i)
deed (reading area bits i) = nothing

-- the frame last stored in slot i and not released since
abbrev pub hold_after : ℕ → Deed → Option (List ℕ) → Option (List ℕ)
hold_after i (put j frame) before = cond (eqb j i) (some frame) before
hold_after i (freed j) before = cond (eqb j i) none before
hold_after i nothing before = before

abbrev pub held : ℕ → List Call → Option (List ℕ)
held i [] = none
held i (c ∷ cs) = hold_after i (deed c) (held i cs)

abbrev pub is_held : Option (List ℕ) → Bool
is_held none = false
is_held (some frame) = true

-- it as a part: empty for none
abbrev pub part_held : Option (List ℕ) → List ℕ
part_held none = []
part_held (some frame) = frame

-- the frame last stored in slot i, released or not; where there is none, the bytes that stood there at first
abbrev pub bytes_after : ℕ → Deed → List ℕ → List ℕ
bytes_after i (put j frame) before = cond (eqb j i) frame before
bytes_after i (freed j) before = before
bytes_after i nothing before = before

abbrev pub last_bytes : ℕ → List Call → List ℕ → List ℕ
last_bytes i [] first = first
last_bytes i (c ∷ cs) first = bytes_after i (deed c) (last_bytes i cs first)

-- ---- the claim about the calls cs from the area first, which leave these bits and this area

pub record Kept (first : List ℕ) (cs : List Call) (bits : ℕ) (area : List ℕ) : Type 0 where
  -- reading a slot hands back the frame last stored there and not released since, and an empty part where there is none
  pub reads : (i : ℕ) → part_of area bits i ≡ part_held (held i cs)
  -- it is refused 27 exactly where there is none; no bit is set beyond the slots
  pub slot-refusal : (i : ℕ) → slot_refusal area bits i ≡ refusal (NotWholeSlots when not (whole_slots (length first)) ∷ NoSuchSlot when not (is_held (held i cs)) ∷ [])
  -- a slot is in use exactly where it holds such a frame
  pub in_use : (i : ℕ) → is_in_use bits i ≡ is_held (held i cs)
  -- every slot has the bytes of the last frame stored there; where there is none they are as they were
  pub bytes : (i : ℕ) → slot_bytes i area ≡ last_bytes i cs (slot_bytes i first)
  pub size : length area ≡ length first
  -- a frame is stored next in the lowest slot that holds none, whether it was released or never stored in; only where every slot holds one is
  -- it refused 26
  pub store_refusal_fact : (frame : List ℕ) → store_refusal area bits frame
      ≡ refusal (WrongLength when not (eqb (length frame) major_frame)
      ∷ NotWholeSlots when not (whole_slots (length first))
      ∷ NoFreeSlot when eqb (lowest (λ i. not (is_held (held i cs))) 0 (slots (length first))) (slots (length first))
      ∷ [])
  pub next : (frame : List ℕ) → store_refusal area bits frame ≡ 0
      → slot_in (stored area bits frame) ≡ lowest (λ i. not (is_held (held i cs))) 0 (slots (length first))
