-- One frame after another: what a call answers and leaves, and lists of calls. Definitions only.
use Rattle.std.specs.Prelude.{◌≡◌, false, cond, not, List, [], ◌∷◌, ◌++◌, ℕ, suc, ◌+◌, ◌-◌, ◌^◌, ◌<◌, eqb, length, Result, Ok, Err}
use Rattle.base.specs.Format.{major_frame}
use Rattle.base.specs.declared.refusal.Refusal.{Refusal}
use Rattle.base.specs.declared.refusal.Refusal.TheVariants.{WrongLength, BitsBeyondSlots}
use Rattle.base.specs.Refusals.{Line, ◌when◌, answered, refusal}
use Rattle.cycle.specs.Cycle.{cycle_length, is_frame}
use Rattle.frame_store.specs.Slots.{with_frame}
use Rattle.cycle_frames.specs.declared.Brought.{Brought}

-- ---- the bits of the first n slots

abbrev pub bits_of : ℕ → ℕ
bits_of n = 2 ^ n - 1

-- of how many they are, fewer than four; else 4
unfoldable pub held_in : ℕ → ℕ
held_in bits = cond (eqb bits 0) 0 (cond (eqb bits 1) 1 (cond (eqb bits 3) 2 (cond (eqb bits 7) 3 4)))

abbrev pub IsCount : ℕ → Type 0
IsCount n = n < 4

-- ---- a call

abbrev pub next_lines : List ℕ → ℕ → List ℕ → List Line
next_lines area bits frame =
    WrongLength when not (eqb (length area) cycle_length) ∷ WrongLength when not (eqb (length frame) major_frame)
    ∷ BitsBeyondSlots when eqb (held_in bits) 4 ∷ []

-- a frame is held behind n others, the fourth of them making a cycle
abbrev pub kept_as : ℕ → ℕ → Brought
kept_as n left = record { bits = cond (eqb n 3) 0 (bits_of (suc n)); omitted = left; whole = eqb n 3 }

-- none is held
abbrev pub all_left : ℕ → Brought
all_left left = record { bits = 0; omitted = left; whole = false }

-- the frame follows the n that are held, or begins a cycle, or is in none
abbrev pub by_kind : {A : Type 0} → ℕ → ℕ → List ℕ → A → A → A → A
by_kind y n frame follows begins neither = cond (is_frame y n frame) follows (cond (is_frame y 0 frame) begins neither)

-- what a frame that is not refused brings
unfoldable pub brought : ℕ → ℕ → List ℕ → Brought
brought y bits frame = let n = held_in bits in by_kind y n frame (kept_as n 0) (kept_as 0 n) (all_left (n + 1))

unfoldable pub next_of : ℕ → List ℕ → ℕ → List ℕ → Result Brought Refusal
next_of y area bits frame = answered Err (next_lines area bits frame) (Ok (brought y bits frame))

unfoldable pub area_after : ℕ → List ℕ → ℕ → List ℕ → List ℕ
area_after y area bits frame =
    let n = held_in bits in
    answered (λ r. area) (next_lines area bits frame) (by_kind y n frame (with_frame n frame area) (with_frame 0 frame area) area)

abbrev pub next_refusal : List ℕ → ℕ → List ℕ → ℕ
next_refusal area bits frame = refusal (next_lines area bits frame)

-- the cycle that the area holds after a call
abbrev pub cycle_given : Brought → List ℕ → List (List ℕ)
cycle_given r area = cond r.whole (area ∷ []) []

-- ---- lists of calls

-- `Taken y frames cycles left bits area`: these frames were taken one after the other, from no bits and any area on, bits and area handed on; these
-- cycles were given, so many frames were left out, and these bits and this area are left
pub data Taken (y : ℕ) : List (List ℕ) → List (List ℕ) → ℕ → ℕ → List ℕ → Type 0 where
  begun : (area : List ℕ) → Taken y [] [] 0 0 area
  taken : {frames cycles : List (List ℕ)} {left bits : ℕ} {area : List ℕ} (frame : List ℕ) → next_refusal area bits frame ≡ 0
      → Taken y frames cycles left bits area
      → Taken y (frames ++ (frame ∷ [])) (cycles ++ cycle_given (brought y bits frame) (area_after y area bits frame))
      (left + (brought y bits frame).omitted) (brought y bits frame).bits (area_after y area bits frame)
  -- while no frame is held, another area may serve
  moved : {frames cycles : List (List ℕ)} {left : ℕ} {area : List ℕ} (other : List ℕ) → Taken y frames cycles left 0 area
      → Taken y frames cycles left 0 other
