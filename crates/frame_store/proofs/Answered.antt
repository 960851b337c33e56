-- What each call answers and leaves where it is accepted, and where it is refused. Assumes nothing.
use Rattle.std.proofs.Common.{◌≡◌, refl, ap, ◌∙◌, List, [], ℕ, suc, ◌+◌, ◌-◌, ◌^◌, Ok, Err}
use native.Mathlib.Omega.{arith}
use lib.ListN.{length}
use Rattle.base.specs.declared.refusal.Refusal.{Refusal}
use Rattle.base.specs.Refusals.{Line, permitted, given_or}
use Rattle.base.proofs.Lines.{NoneHolds, answered-given, refused-is}
use Rattle.frame_store.specs.Slots.{slots, start, slot_bytes, with_frame, lowest_free}
use Rattle.frame_store.specs.Answers.{store_lines, store_refusal, stored_in, stored, slot_in, bits_in, store_leaves}
use Rattle.frame_store.specs.Answers.{slot_lines, slot_refusal, released, part_of, start_of}
use Rattle.frame_store.specs.Calls.{Call, storing, releasing, reading, refusal_of, deed, put, freed, nothing}
use Rattle.frame_store.proofs.Refusals.{refused-by, slot-none, store_none}

module _ (area : List ℕ) (bits : ℕ) (frame : List ℕ) where
  abbrev lines : List Line
  lines = store_lines (length area) bits frame

  abbrev slot : ℕ
  slot = lowest_free (slots (length area)) bits

  module _ (e : store_refusal area bits frame ≡ 0) where
    none : NoneHolds lines
    none = store_none (length area) bits frame e

    pub stored-taken : stored area bits frame ≡ Ok (stored_in slot bits)
    unfolding stored
    stored-taken = answered-given Err lines (Ok (stored_in slot bits)) none

    pub slot-taken : slot_in (stored area bits frame) ≡ slot
    slot-taken = ap slot_in stored-taken

    pub bits-taken : bits_in bits (stored area bits frame) ≡ bits + 2 ^ slot
    bits-taken = ap (bits_in bits) stored-taken

    pub leaves_taken : store_leaves area bits frame ≡ with_frame slot frame area
    unfolding store_leaves
    leaves_taken = answered-given (λ n. area) lines (with_frame slot frame area) none

    pub put-taken : deed (storing area bits frame) ≡ put slot frame
    put-taken =
        answered-given (λ n. nothing) lines (put (slot_in (stored area bits frame)) frame) none
        ∙ ap (λ (i : ℕ). put i frame) slot-taken

  pub stored_refused : (r : Refusal) → Err r ≡ permitted lines → stored area bits frame ≡ Err r
  unfolding stored
  stored_refused r e = refused-by Err lines (Ok (stored_in slot bits)) r e

  pub leaves_refused : (store_refusal area bits frame ≡ 0 → ⊥) → store_leaves area bits frame ≡ area
  unfolding store_leaves
  leaves_refused z = refused-is area (with_frame slot frame area) lines z

module _ (area : List ℕ) (bits i : ℕ) where
  abbrev slot_lines_here : List Line
  slot_lines_here = slot_lines (length area) bits i

  module _ (e : slot_refusal area bits i ≡ 0) where
    slot-granted : NoneHolds slot_lines_here
    slot-granted = slot-none (length area) bits i e

    pub released-taken : released area bits i ≡ Ok (bits - 2 ^ i)
    unfolding released
    released-taken = answered-given Err slot_lines_here (Ok (bits - 2 ^ i)) slot-granted

    pub bits-freed : given_or bits (released area bits i) ≡ bits - 2 ^ i
    bits-freed = ap (given_or bits) released-taken

    pub freed_taken : deed (releasing area bits i) ≡ freed i
    freed_taken = answered-given (λ n. nothing) slot_lines_here (freed i) slot-granted

    pub part-taken : part_of area bits i ≡ slot_bytes i area
    unfolding part_of
    part-taken = answered-given (λ n. []) slot_lines_here (slot_bytes i area) slot-granted

    pub start-taken : start_of area bits i ≡ start i
    unfolding start_of
    start-taken = answered-given (λ n. 0) slot_lines_here (start i) slot-granted

  pub released-refused : (r : Refusal) → Err r ≡ permitted slot_lines_here → released area bits i ≡ Err r
  unfolding released
  released-refused r e = refused-by Err slot_lines_here (Ok (bits - 2 ^ i)) r e

  module _ (z : slot_refusal area bits i ≡ 0 → ⊥) where
    pub part-refused : part_of area bits i ≡ []
    unfolding part_of
    part-refused = refused-is [] (slot_bytes i area) slot_lines_here z

    pub start-refused : start_of area bits i ≡ 0
    unfolding start_of
    start-refused = refused-is 0 (start i) slot_lines_here z

-- a refused call does nothing to a slot
pub deed-refused : (c : Call) (n : ℕ) → refusal_of c ≡ suc n → deed c ≡ nothing
deed-refused (storing area bits frame) n e = refused-is nothing _ (store_lines (length area) bits frame) (λ z. omega arith)
deed-refused (releasing area bits i) n e = refused-is nothing _ (slot_lines (length area) bits i) (λ z. omega arith)
deed-refused (reading area bits i) n e = refl
