-- A call before which the lead-in is handed, on a tally that is lent as its numbers and its frame. What it means is the machine fed the lead-in's
-- twelve bytes (`after_lead_in`); what the code does is `led_in`. Definitions only.
use Rattle.std.specs.Prelude.{◌≡◌, Bool, true, false, cond, List, [], ◌∷◌, ℕ, ◌+◌, ◌≤◌, ◌^◌, length, Result, Err}
use Rattle.base.specs.declared.refusal.Refusal.{Refusal}
use Rattle.base.specs.declared.refusal.Refusal.TheVariants.{NotInOrder}
use Rattle.base.specs.Format.{sync_word, minor_frame, major_frame}
use Rattle.labelling.specs.Machine.{State}
use Rattle.labelling.specs.Order.{in_order}
use Rattle.labelling.specs.Calls.{TakeCall}
use Rattle.nominal.specs.Effect.{after_placed}
use Rattle.own_sync.specs.Relocking.{lead_in_bytes, after_lead_in}
use Rattle.tally_numbers.specs.Numbers.{is_tally, groups_of, framing_of, tally_of}
use Rattle.in_place.specs.declared.Locked.{Locked}
use Rattle.in_place.specs.Places.{Kept, LockAnswered}

-- a lock awaits its word, and before a piece of this length the lead-in fits
pub record LeadFits (n : List ℕ) (piece : ℕ) : Type 0 where
  pub places : (framing_of n).hunting ≡ false
  pub at_first : (framing_of n).placed ≡ 0
  pub outside_group : (groups_of n).«open» ≡ 0
  pub fits : (groups_of n).bytes + piece + length lead_in_bytes ≤ 2 ^ 40

-- the call c, or c after the lead-in
abbrev pub after_lead : Bool → TakeCall → TakeCall
after_lead led c = cond led (after_lead_in c) c

-- `lead_and_take` of the call c: it is refused as c is, and else it answers as c does after the lead-in
abbrev pub LedInPlace : TakeCall → List ℕ → Result Locked Refusal → List ℕ → List ℕ → List ℕ → Type 0
LedInPlace c = LockAnswered c (after_lead_in c)

-- the same of any numbers: where no lock awaits its word, or the lead-in does not fit, it is refused as a tally not in order is
pub record LeadPromise (c : TakeCall) (n : List ℕ) (piece : ℕ) (r : Result Locked Refusal) (numbers frame area : List ℕ) : Type 0 where
  pub fits : LeadFits n piece → LedInPlace c n r numbers frame area
  pub misses : (LeadFits n piece → ⊥) → (r ≡ Err NotInOrder) × Kept c n numbers frame area

-- ---- its parts

-- what has been tested of a call before it is made
pub record Tested (led : Bool) (n frame piece area : List ℕ) : Type 0 where
  pub is_tally_fact : is_tally n ≡ true
  pub order : in_order (tally_of n frame) ≡ true
  pub frame-length : length frame ≡ minor_frame
  pub area_length : length area ≡ major_frame
  pub fits : (groups_of n).bytes + length piece ≤ 2 ^ 40
  pub leads : led ≡ true → LeadFits n (length piece)

-- FA F3 20 placed at once, from twelve bytes
abbrev pub led_in : State → State
led_in t = after_placed t (length lead_in_bytes) (sync_word 0 ∷ sync_word 1 ∷ sync_word 2 ∷ [])

abbrev pub begun_with : Bool → State → State
begun_with led t = cond led (led_in t) t
