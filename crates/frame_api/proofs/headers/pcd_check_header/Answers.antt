-- `frame_api::headers::pcd_check_header` meets its contract: each arm is a case of the answer. Assumes nothing.
use native.Mathlib.Omega.{arith}
use Rattle.std.proofs.Common.{sym, ap, ◌∙◌}
use Rattle.base.specs.Refusals.{number_of}
use Rattle.frame_api.proofs.HeaderCrossed.{checked_or, check_crossed}
use Rattle.frame_api.proofs.headers.pcd_check_header.Goals as goal

pub returns-in-Ok : goal.returns-in-Ok
returns-in-Ok c =
    check_crossed c.check.ensures (ap number_of (sym c.in-Ok.is))
    (c.from.ensures ∙ grind arith ∙ ap (checked_or c.args.out.now) (sym c.in-Ok.is))

pub returns-in-Err : goal.returns-in-Err
returns-in-Err c =
    check_crossed c.check.ensures (c.number.ensures ∙ ap number_of (sym c.in-Err.is))
    (ap (checked_or c.args.out.now) (sym c.in-Err.is))
