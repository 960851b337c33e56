-- What each call answers and leaves (02, request 12; 01, "Refusal numbers"). Definitions only.
use Rattle.std.specs.Prelude.{not, ◌&&◌, List, [], ◌∷◌, ◌++◌, ℕ, ◌+◌, ◌-◌, ◌^◌, eqb, ltb, length, Result, Ok, Err}
use denote.Ref.{Bor}
use Rattle.base.specs.Format.{major_frame}
use Rattle.base.specs.declared.refusal.Refusal.{Refusal}
use Rattle.base.specs.declared.refusal.Refusal.TheVariants.{WrongLength, NotWholeSlots, BitsBeyondSlots, NoFreeSlot, NoSuchSlot}
use Rattle.base.specs.Refusals.{Line, ◌when◌, answered, refusal}
use Rattle.frame_store.specs.declared.Stored.{Stored}
use Rattle.frame_store.specs.Slots.{slots, whole_slots, start, slot_bytes, with_frame, is_in_use, bits_beyond, lowest_free}

-- ---- the lines of the refusal table, of an area of so many bytes

-- those that concern every call
abbrev pub area_lines : ℕ → ℕ → List Line
area_lines size bits = NotWholeSlots when not (whole_slots size) ∷ BitsBeyondSlots when bits_beyond (slots size) bits ∷ []

abbrev pub store_lines : ℕ → ℕ → List ℕ → List Line
store_lines size bits frame =
    WrongLength when not (eqb (length frame) major_frame) ∷ (area_lines size bits ++ (NoFreeSlot when eqb (lowest_free (slots size) bits) (slots size) ∷ []))

-- releasing and reading slot i
abbrev pub slot_lines : ℕ → ℕ → ℕ → List Line
slot_lines size bits i = area_lines size bits ++ (NoSuchSlot when not (ltb i (slots size) && is_in_use bits i) ∷ [])

abbrev pub store_refusal : List ℕ → ℕ → List ℕ → ℕ
store_refusal area bits frame = refusal (store_lines (length area) bits frame)

abbrev pub slot_refusal : List ℕ → ℕ → ℕ → ℕ
slot_refusal area bits i = refusal (slot_lines (length area) bits i)

-- ---- storing: the lowest free slot takes the frame

abbrev pub stored_in : ℕ → ℕ → Stored
stored_in i bits = record { slot = i; bits = bits + 2 ^ i }

unfoldable pub stored : List ℕ → ℕ → List ℕ → Result Stored Refusal
stored area bits frame =
    answered Err (store_lines (length area) bits frame) (Ok (stored_in (lowest_free (slots (length area)) bits) bits))

-- the slot, 0 beside a refusal; and the bits to hand on, which a refusal leaves as they were
abbrev pub slot_in : Result Stored Refusal → ℕ
slot_in (Ok s) = s.slot
slot_in (Err r) = 0

abbrev pub bits_in : ℕ → Result Stored Refusal → ℕ
bits_in bits (Ok s) = s.bits
bits_in bits (Err r) = bits

unfoldable pub store_leaves : List ℕ → ℕ → List ℕ → List ℕ
store_leaves area bits frame =
    answered (λ n. area) (store_lines (length area) bits frame) (with_frame (lowest_free (slots (length area)) bits) frame area)

-- ---- releasing slot i: the bits afterwards

unfoldable pub released : List ℕ → ℕ → ℕ → Result ℕ Refusal
released area bits i = answered Err (slot_lines (length area) bits i) (Ok (bits - 2 ^ i))

-- ---- reading slot i: the part, empty where it is refused, and how far into the area it starts

unfoldable pub part_of : List ℕ → ℕ → ℕ → List ℕ
part_of area bits i = answered (λ n. []) (slot_lines (length area) bits i) (slot_bytes i area)

unfoldable pub start_of : List ℕ → ℕ → ℕ → ℕ
start_of area bits i = answered (λ n. 0) (slot_lines (length area) bits i) (start i)

-- the part of an answer
abbrev pub part_in : Result (Bor (List ℕ)) Refusal → List ℕ
part_in (Ok part) = part.now
part_in (Err r) = []
