-- `relocking::lead_in` meets its contract: the promises of its two calls, the second on what the first left. Assumes nothing.
use native.Mathlib.Omega.{arith}
use Rattle.relocking.proofs.Relocking.{leads_so, lead-accepted, led_is, led_accepted, few_handed, take_answers, lock_answers}
use Rattle.relocking.proofs.lead_in.Goals as goal

pub returns-in_err-lead : goal.returns-in_err-lead
returns-in_err-lead c =
    let a = c.args in
    absurd (take_answers _ _ _ c.in_err-lead.ensures (lead-accepted a.f a.piece.now a.area.now c.requires))

pub returns-in_err-r : goal.returns-in_err-r
returns-in_err-r c =
    let a = c.args in
    let after = led_is a.f a.piece.now a.area.now c.requires c.in_ok-lead.lead _ c.in_ok-lead.ensures c.take.auto.area in
    absurd (lock_answers _ _ _ c.in_err-r.ensures
    (rw after (led_accepted a.f a.piece.now a.area.now c.requires c.in_ok-lead.lead _ c.in_ok-lead.ensures c.take.auto.area)))

pub overflow_add-next : goal.overflow_add-next
overflow_add-next c = record { fits = omega (arith, few_handed _ _ _ c.requires) }

pub returns : goal.returns
returns c =
    let a = c.args in
    leads_so a.f a.piece.now a.area.now c.requires c.in_ok-lead.lead _ c.in_ok-lead.ensures c.take.auto.area c.in_ok-r.r _ c.in_ok-r.ensures
