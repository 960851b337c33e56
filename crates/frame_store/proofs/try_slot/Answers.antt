-- `frame_store::try_slot` meets its contract: the part is that of the slot's places, at the caller's own pointer. Assumes nothing.
use Rattle.std.proofs.Common.{◌≡◌, refl, sym, ◌∙◌, ◌+◌, ◌*◌, ◌≤◌, Err, rules}
use native.Mathlib.Omega.{arith}
use lib.ListN.{length}
use Rattle.base.specs.Format.{major_frame}
use Rattle.frame_store.specs.Answers.{slot_lines, slot_refusal}
use Rattle.frame_store.proofs.Areas.{part-is}
use Rattle.frame_store.proofs.Refusals.{permits, to-granted, room}
use Rattle.frame_store.proofs.Promises.{try_slot-refused, try_slot-taken}
use Rattle.frame_store.proofs.try_slot.Goals as goal
use Rattle.frame_store.proofs.try_slot.Goals.{In_ok-permit_slot}

-- the slot may be read, and the area reaches to its end
accepted : (c : In_ok-permit_slot) → let a = c.args in slot_refusal a.area.now a.bits a.slot ≡ 0
accepted c =
    let a = c.args in
    permits (slot_lines (length a.area.now) a.bits a.slot) (sym c.in_ok-permit_slot.was ∙ c.permit_slot.ensures)

fits : (c : In_ok-permit_slot) → let a = c.args in a.slot * major_frame + major_frame ≤ length a.area.now
fits c =
    let a = c.args in
    let size = length a.area.now in
    room size a.bits a.slot (to-granted size a.bits a.slot (accepted c))

pub returns-in_err-permit_slot : goal.returns-in_err-permit_slot
returns-in_err-permit_slot c =
    let a = c.args in
    let r = c.in_err-permit_slot.field-0.0 in
    let same : c.from_residual.result ≡ Err r = search rules in
    rw same (try_slot-refused a.area.now a.area.ref_ptr a.bits a.slot r (sym c.in_err-permit_slot.was ∙ c.permit_slot.ensures))

pub overflow_mul-first : goal.overflow_mul-first
overflow_mul-first c = let h = fits (goal.at.overflow_mul-first c).In_ok-permit_slot in record { fits = omega arith }

pub overflow_add-end : goal.overflow_add-end
overflow_add-end c = let h = fits (goal.at.overflow_add-end c).In_ok-permit_slot in record { fits = omega arith }

pub slice_bounds-result-end : goal.slice_bounds-result-end
slice_bounds-result-end c = let h = fits (goal.at.slice_bounds-result-end c).In_ok-permit_slot in search rules

pub returns : goal.returns
returns c =
    let a = c.args in
    try_slot-taken a.area.now a.area.ref_ptr a.bits a.slot _ (accepted (goal.at.returns c).In_ok-permit_slot) (part-is a.slot a.area.now) refl (omega arith)
