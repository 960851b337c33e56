-- What storing a frame and releasing a slot leave in the lent places. Definitions only.
use Rattle.std.specs.Prelude.{◌≡◌, List, ℕ, length, Result}
use Rattle.base.specs.declared.refusal.Refusal.{Refusal}
use Rattle.base.specs.Refusals.{answered, given_or}
use Rattle.frame_store.specs.declared.Stored.{Stored}
use Rattle.frame_store.specs.Answers.{store_lines, store_refusal, slot_refusal, slot_in, bits_in}
use Rattle.frame_store.specs.Promise.{StorePromise, ReleasePromise}

-- `pcd_store` of the frame, lent an area, its bits and a place for the slot, returns r and leaves the primed ones
pub record StoreCrossed (area : List ℕ) (bits : ℕ) (frame : List ℕ) (slot r : ℕ) (area' : List ℕ) (bits' slot' : ℕ) : Type 0 where
  pub refusal_is : r ≡ store_refusal area bits frame
  -- what crosses is an answer of which all that `store` promises holds
  pub stored : Result Stored Refusal
  pub promised : StorePromise area bits frame area' stored
  pub bits_are : bits' ≡ bits_in bits stored
  -- the slot, or what was there
  pub slot_is : slot' ≡ answered (λ n. slot) (store_lines (length area) bits frame) (slot_in stored)

-- `pcd_release` of slot i likewise
pub record ReleaseCrossed (area : List ℕ) (bits i r bits' : ℕ) : Type 0 where
  pub refusal_is : r ≡ slot_refusal area bits i
  pub released : Result ℕ Refusal
  pub promised : ReleasePromise area bits i released
  pub bits_are : bits' ≡ given_or bits released
