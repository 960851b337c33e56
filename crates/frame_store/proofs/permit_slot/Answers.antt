-- `frame_store::permit_slot` meets its contract: what every call tests, then the slot. Assumes nothing.
use Rattle.std.proofs.Common.{sym, ◌∙◌}
use native.Mathlib.Omega.{arith}
use Rattle.frame_store.specs.Answers.{area_lines}
use Rattle.frame_store.proofs.Bits.{bit-clear, bit-set}
use Rattle.frame_store.proofs.Refusals.{permits, Fitting, to-fitting, slot-free, is_granted}
use Rattle.frame_store.proofs.permit_slot.Goals as goal
use Rattle.frame_store.proofs.permit_slot.Goals.{In_ok-permit}

-- the area is of whole slots, and the bits are within them
fitting : (c : In_ok-permit) → let a = c.args in Fitting a.size a.bits
fitting c =
    let a = c.args in
    to-fitting a.size a.bits (permits (area_lines a.size a.bits) (sym c.in_ok-permit.was ∙ c.permit.ensures))

pub returns-then-bits-slot-eq0 : goal.returns-then-bits-slot-eq0
returns-then-bits-slot-eq0 c =
    let a = c.args in
    slot-free a.size a.bits a.slot (fitting (goal.at.returns-then-bits-slot-eq0 c).In_ok-permit) (bit-clear a.bits a.slot (omega arith))

pub returns : goal.returns
returns c =
    let a = c.args in
    is_granted a.size a.bits a.slot
    (record { fitting = fitting (goal.at.returns c).In_ok-permit; there = omega arith; used = bit-set a.bits a.slot c.if-bits-slot-eq0.false })
