-- `pay_api::finding::pcd_pay_find` meets its contract: each arm is a case of the answer, and its two numbers fit the halves. Assumes nothing.
use Rattle.std.proofs.Common.{sym, ap, ◌∙◌}
use Rattle.base.specs.Refusals.{number_of}
use Rattle.pay_api.specs.Entries.{found_result}
use Rattle.pay_api.proofs.Results.{find_answer, halves}
use Rattle.pay_api.proofs.finding.pcd_pay_find.Goals as goal

pub halves-requires : goal.halves-requires
halves-requires c = halves c.find.ensures c.in-Ok.is

pub returns-in-Ok : goal.returns-in-Ok
returns-in-Ok c =
    let e = c.in-Ok.is in
    find_answer c.find.ensures (sym (ap number_of e)) (c.halves.ensures ∙ sym (ap found_result e)) c.put.ensures

pub returns-in-Err : goal.returns-in-Err
returns-in-Err c =
    let e = c.in-Err.is in
    find_answer c.find.ensures (sym (ap number_of e)) (sym (ap found_result e)) c.put-in-Err.ensures
