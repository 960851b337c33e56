-- Each promise, by its ways out. Assumes nothing.
use Rattle.std.proofs.Common.{◌≡◌, refl, sym, ap, ◌∙◌, List, [], ℕ, suc, ◌+◌, ◌-◌, ◌^◌, ◌≤◌, Ok, Err, Bor}
use native.Mathlib.Omega.{arith}
use lib.ListN.{length}
use Rattle.base.specs.declared.refusal.Refusal.{Refusal}
use Rattle.base.specs.Format.{major_frame}
use Rattle.base.specs.Refusals.{number, permitted}
use Rattle.base.proofs.Lines.{positive}
use Rattle.frame_store.specs.Slots.{slots, start, slot_bytes, with_frame, lowest_free}
use Rattle.frame_store.specs.Answers.{store_lines, slot_lines, stored_in, store_refusal, slot_refusal}
use Rattle.frame_store.specs.Calls.{storing, releasing, reading, accepted, refused}
use Rattle.frame_store.specs.Promise.{StorePromise, ReleasePromise, SlotPromise, TrySlotPromise}
use Rattle.frame_store.proofs.Areas.{slot-length, there, elsewhere}
use Rattle.frame_store.proofs.Refusals.{refuses, to-granted, room, Storable, to-storable}
use Rattle.frame_store.proofs.Answered.{stored-taken, bits-taken, leaves_taken, stored_refused, leaves_refused}
use Rattle.frame_store.proofs.Answered.{released-taken, bits-freed, released-refused, part-taken, start-taken, part-refused, start-refused}
use Rattle.frame_store.proofs.Keeping.{kept}

-- a refusal's number follows another
above : {m : ℕ} (r : Refusal) → m ≡ number r → m ≡ suc (number r - 1)
above r e = omega (arith, positive r)

module _ (area : List ℕ) (bits : ℕ) (frame : List ℕ) where
  pub store_refused : (r : Refusal) → Err r ≡ permitted (store_lines (length area) bits frame) → StorePromise area bits frame area (Err r)
  store_refused r p =
      let e = refuses (store_lines (length area) bits frame) r p in
      record {
        answer = sym (stored_refused area bits frame r p);
        after = sym (leaves_refused area bits frame (λ none. positive r (sym e ∙ none)));
        refusal_is = sym e;
        there = λ none. absurd (positive r (sym e ∙ none));
        others = λ j other. refl;
        goes_on = λ before. refused (storing area bits frame) (number r - 1) (above r e) before;
      }

  module _ (e : store_refusal area bits frame ≡ 0) where
    abbrev free : ℕ
    free = lowest_free (slots (length area)) bits

    g : Storable (length area) bits frame
    g = to-storable (length area) bits frame e

    fits : start free + major_frame ≤ length area
    fits = omega (arith, g.there, g.fitting.whole.exact)

    at-free : StorePromise area bits frame (with_frame free frame area) (Ok (stored_in free bits))
    at-free =
        record {
          answer = sym (stored-taken area bits frame e);
          after = sym (leaves_taken area bits frame e);
          refusal_is = sym e;
          there = λ none. there free frame area g.sized fits;
          others = λ j other. elsewhere free frame area g.sized fits j other;
          goes_on = λ before. rw (bits-taken area bits frame e, leaves_taken area bits frame e) at (accepted (storing area bits frame) e before);
        }

    pub store_taken : (slot b : ℕ) (new : List ℕ) → slot ≡ free → b ≡ bits + 2 ^ slot → new ≡ with_frame slot frame area
        → StorePromise area bits frame new (Ok (record { slot = slot; bits = b }))
    store_taken slot b new low set wrote = rw (set, wrote, low) at-free

module _ (area : List ℕ) (bits i : ℕ) where
  pub release_refused : (r : Refusal) → Err r ≡ permitted (slot_lines (length area) bits i) → ReleasePromise area bits i (Err r)
  release_refused r p =
      let e = refuses (slot_lines (length area) bits i) r p in
      record {
        answer = sym (released-refused area bits i r p);
        refusal_is = sym e;
        goes_on = λ before. refused (releasing area bits i) (number r - 1) (above r e) before;
      }

  pub release_taken : (b : ℕ) → slot_refusal area bits i ≡ 0 → b ≡ bits - 2 ^ i → ReleasePromise area bits i (Ok b)
  release_taken b e cleared =
      rw cleared
      (record {
        answer = sym (released-taken area bits i e);
        refusal_is = sym e;
        goes_on = λ before. rw (bits-freed area bits i e) at (accepted (releasing area bits i) e before);
      })

module _ (area : List ℕ) (base : ℕ × ℕ) (bits i : ℕ) where
  pub try_slot-refused : (r : Refusal) → Err r ≡ permitted (slot_lines (length area) bits i) → TrySlotPromise area base bits i (Err r)
  try_slot-refused r p =
      let e = refuses (slot_lines (length area) bits i) r p in
      record {
        refusal_is = sym e;
        contents = sym (part-refused area bits i (λ none. positive r (sym e ∙ none)));
        block = λ part same. absurd cc;
        offset = λ part same. absurd cc;
        whole = λ none. absurd (positive r (sym e ∙ none));
        goes_on = λ before. refused (reading area bits i) (number r - 1) (above r e) before;
        kept = λ handed. kept handed;
      }

  pub try_slot-taken : (bytes : Bor (List ℕ)) → slot_refusal area bits i ≡ 0 → bytes.now ≡ slot_bytes i area → bytes.ref_ptr.0 ≡ base.0
      → bytes.ref_ptr.1 ≡ base.1 + start i → TrySlotPromise area base bits i (Ok bytes)
  try_slot-taken bytes e part block offset =
      let g = to-granted (length area) bits i e in
      record {
        refusal_is = sym e;
        contents = part ∙ sym (part-taken area bits i e);
        block = λ part same. let it : bytes ≡ part = cc in rw (sym it) block;
        offset = λ part same. let it : bytes ≡ part = cc in rw (sym it) (offset ∙ ap (λ (n : ℕ). base.1 + n) (sym (start-taken area bits i e)));
        whole = λ none. rw part (slot-length i area (room (length area) bits i g));
        goes_on = λ before. accepted (reading area bits i) e before;
        kept = λ handed. kept handed;
      }

  -- `slot` where `try_slot` refuses: the empty part at the area's start
  pub slot-refused : (r : Refusal) → TrySlotPromise area base bits i (Err r) → SlotPromise area base bits i [] base
  slot-refused r p =
      record {
        contents = p.contents;
        block = refl;
        offset = omega (arith, start-refused area bits i (λ none. positive r (p.refusal_is ∙ none)));
        whole = p.whole;
        goes_on = p.goes_on;
        kept = p.kept;
      }
