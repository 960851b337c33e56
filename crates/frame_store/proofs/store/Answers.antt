-- `frame_store::store` meets its contract: each refusal is the table's, and the lowest free slot of 64 is the lowest of the area's where it is
-- among them. Assumes nothing.
use Rattle.std.proofs.Common.{◌≡◌, sym, ◌∙◌, List, ℕ, ◌+◌, ◌*◌, ◌^◌, ◌≤◌, ◌<◌, Err, rules}
use native.Mathlib.Omega.{arith}
use lib.ListN.{length}
use Rattle.base.specs.Format.{major_frame}
use Rattle.frame_store.specs.Slots.{slots, lowest_free}
use Rattle.frame_store.specs.Answers.{area_lines, store_refusal}
use Rattle.frame_store.proofs.Bits.{set_below, shifted}
use Rattle.frame_store.proofs.Lowest.{found, among, none-among}
use Rattle.frame_store.proofs.Areas.{copied}
use Rattle.frame_store.proofs.Refusals.{permits, Fitting, to-fitting, wrong-frame, wrong-area, all-used, is_storable}
use Rattle.frame_store.proofs.Promises.{store_refused, store_taken}
use Rattle.frame_store.proofs.store.Goals as goal
use Rattle.frame_store.proofs.store.Goals.{Else-area-slot, In_ok-permit}

-- the area is of whole slots, and the bits are within them
fitting : (c : In_ok-permit) → let a = c.args in Fitting (length a.area.now) a.bits
fitting c =
    let a = c.args in
    let size = length a.area.now in
    to-fitting size a.bits (permits (area_lines size a.bits) (sym c.in_ok-permit.was ∙ c.permit.ensures))

-- the frame has its slot
record Ready (area : List ℕ) (bits : ℕ) (frame : List ℕ) (slot : ℕ) : Type 0 where
  accepted : store_refusal area bits frame ≡ 0
  lowest : slot ≡ lowest_free (slots (length area)) bits
  room : slot * major_frame + major_frame ≤ length area
  small : slot < 64
  sum : bits + 2 ^ slot < 2 ^ 64

module _ (area : List ℕ) (bits : ℕ) (frame : List ℕ) (slot : ℕ) where
  ready : length frame ≡ major_frame → Fitting (length area) bits → slot ≡ lowest_free 64 bits → bits < 2 ^ 64 → slot < slots (length area)
      → Ready area bits frame slot
  ready sized g e h there =
      let small : slot < 64 = omega (arith, g.whole.most) in
      let low : lowest_free (slots (length area)) bits ≡ slot = among bits (slots (length area)) 64 g.whole.most (omega arith) ∙ sym e in
      let free = rw (sym e) at ((found bits 64).free (omega arith)) in
      record {
        accepted = is_storable (length area) bits frame sized g (omega arith);
        lowest = sym low;
        room = omega (arith, g.whole.exact);
        small = small;
        sum = set_below slot 64 bits small h free;
      }

at_slot : (c : Else-area-slot)
    → let a = c.args in
    Ready a.area.now a.bits a.frame.now c.lowest_free-slot.result
at_slot c =
    let a = c.args in
    ready a.area.now a.bits a.frame.now c.lowest_free-slot.result (omega arith)
    (to-fitting (length a.area.now) a.bits (permits (area_lines (length a.area.now) a.bits) (sym c.in_ok-permit.was ∙ c.permit.ensures))) c.lowest_free-slot.ensures
    (omega arith) (omega arith)

pub returns-then-frame-ne-MAJOR_FRAME : goal.returns-then-frame-ne-MAJOR_FRAME
returns-then-frame-ne-MAJOR_FRAME c =
    let a = c.args in
    store_refused a.area.now a.bits a.frame.now _ (wrong-frame (length a.area.now) a.bits a.frame.now c.if-frame-ne-MAJOR_FRAME.true)

pub returns-in_err-permit : goal.returns-in_err-permit
returns-in_err-permit c =
    let a = c.args in
    let r = c.in_err-permit.field-0.0 in
    let same : c.from_residual.result ≡ Err r = search rules in
    rw same
    (store_refused a.area.now a.bits a.frame.now r
    (wrong-area (length a.area.now) a.bits a.frame.now r c.if-frame-ne-MAJOR_FRAME.false (sym c.in_err-permit.was ∙ c.permit.ensures)))

pub returns-then-area-slot : goal.returns-then-area-slot
returns-then-area-slot c =
    let a = c.args in
    let g = fitting (goal.at.returns-then-area-slot c).In_ok-permit in
    let size = length a.area.now in
    let low = c.lowest_free-slot.ensures in
    store_refused a.area.now a.bits a.frame.now _
    (all-used size a.bits a.frame.now (omega arith) g (none-among a.bits (slots size) 64 g.whole.most (omega arith)))

pub overflow_add-result : goal.overflow_add-result
overflow_add-result c =
    let r = at_slot (goal.at.overflow_add-result c).Else-area-slot in
    record { fits = omega (arith, shifted c.lowest_free-slot.result r.small, r.sum) }

pub returns : goal.returns
returns c =
    let slot = c.lowest_free-slot.result in
    let a = c.args in
    let r = at_slot (goal.at.returns c).Else-area-slot in
    store_taken a.area.now a.bits a.frame.now r.accepted slot _ _ r.lowest (omega (arith, shifted slot r.small))
    (copied slot a.frame.now a.area.now _ r.room c.copy_from_slice.ensures.after)
