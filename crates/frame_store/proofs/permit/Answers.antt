-- `frame_store::permit` meets its contract: the bits from the last slot's on are at most that slot's own. Assumes nothing.
use native.Mathlib.Omega.{arith}
use Rattle.frame_store.proofs.Refusals.{Whole, not_exact, no_slot, many_slots, beyond, fits}
use Rattle.frame_store.proofs.permit.Goals as goal

pub returns-then-size-ne0 : goal.returns-then-size-ne0
returns-then-size-ne0 c = let a = c.args in not_exact a.size a.bits c.if-size-ne0.true

pub returns-then-slots-eq0 : goal.returns-then-slots-eq0
returns-then-slots-eq0 c = let a = c.args in no_slot a.size a.bits (omega arith) (omega arith)

pub returns-then-slots-gt-MOST_SLOTS : goal.returns-then-slots-gt-MOST_SLOTS
returns-then-slots-gt-MOST_SLOTS c = let a = c.args in many_slots a.size a.bits (omega arith) (omega arith)

pub returns-then-bits-slots-gt1 : goal.returns-then-bits-slots-gt1
returns-then-bits-slots-gt1 c =
    let a = c.args in
    let w : Whole a.size = record { exact = omega arith; some = omega arith; most = omega arith } in
    beyond a.size a.bits w (omega arith)

pub returns : goal.returns
returns c =
    let a = c.args in
    let w : Whole a.size = record { exact = omega arith; some = omega arith; most = omega arith } in
    fits a.size a.bits w (omega arith)
