-- `pcd_find::answer::element` meets its contract. Assumes nothing.
use mathlib.Core.Path.{sym}
use lib.ListN.{get_or-eq_default}
use Rattle.pcd_find.proofs.answer.element.Goals as goal

pub returns : goal.returns
returns c = sym (get_or-eq_default c.args.list.now 0 c.if-i-list.false)
