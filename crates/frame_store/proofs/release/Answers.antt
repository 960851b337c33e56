-- `frame_store::release` meets its contract: a slot in use has its bit in the number. Assumes nothing.
use Rattle.std.proofs.Common.{◌≡◌, sym, ◌∙◌, ◌<◌, Err, rules}
use native.Mathlib.Omega.{arith}
use lib.ListN.{length}
use Rattle.frame_store.specs.Answers.{slot_lines, slot_refusal}
use Rattle.frame_store.proofs.Bits.{bit_le, shifted}
use Rattle.frame_store.proofs.Refusals.{permits, Granted, to-granted}
use Rattle.frame_store.proofs.Promises.{release_refused, release_taken}
use Rattle.frame_store.proofs.release.Goals as goal
use Rattle.frame_store.proofs.release.Goals.{In_ok-permit_slot}

-- the slot may be released
accepted : (c : In_ok-permit_slot) → let a = c.args in slot_refusal a.area.now a.bits a.slot ≡ 0
accepted c =
    let a = c.args in
    permits (slot_lines (length a.area.now) a.bits a.slot) (sym c.in_ok-permit_slot.was ∙ c.permit_slot.ensures)

granted : (c : In_ok-permit_slot) → let a = c.args in Granted (length a.area.now) a.bits a.slot
granted c = let a = c.args in to-granted (length a.area.now) a.bits a.slot (accepted c)

small : (c : In_ok-permit_slot) → c.args.slot < 64
small c = let g = granted c in omega (arith, g.there, g.fitting.whole.most)

pub returns-in_err-permit_slot : goal.returns-in_err-permit_slot
returns-in_err-permit_slot c =
    let a = c.args in
    let r = c.in_err-permit_slot.field-0.0 in
    let same : c.from_residual.result ≡ Err r = search rules in
    rw same (release_refused a.area.now a.bits a.slot r (sym c.in_err-permit_slot.was ∙ c.permit_slot.ensures))

pub overflow_sub-result : goal.overflow_sub-result
overflow_sub-result c =
    let a = c.args in
    let here = (goal.at.overflow_sub-result c).In_ok-permit_slot in
    omega (arith, shifted a.slot (small here), bit_le a.slot a.bits (granted here).used)

pub returns : goal.returns
returns c =
    let a = c.args in
    let here = (goal.at.returns c).In_ok-permit_slot in
    release_taken a.area.now a.bits a.slot _ (accepted here) (omega (arith, shifted a.slot (small here)))
