-- `number_order::rule_in_order` meets its contract: a rule that is not 1 is 2, and then there is no split. Assumes nothing.
use mathlib.Core.Path.{sym}
use lib.Dec.{eqb}
use lib.ListN.{get_or}
use borrow.Author.Tests.{ne_eqb}
use Rattle.number_order.proofs.Joined.{absorbed}
use Rattle.number_order.proofs.rule_in_order.Goals as goal

pub returns-then-n-eq1 : goal.returns-then-n-eq1
returns-then-n-eq1 c = rw c.if-n-eq1.true

pub returns : goal.returns
returns c =
    let n = c.args.n.now in
    rw (ne_eqb (get_or n 32 0) 1 c.if-n-eq1.false) (sym (absorbed (eqb (get_or n 32 0) 2) (eqb (get_or n 4 0) 0)))
