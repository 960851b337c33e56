-- `order::operators_bounded` meets its contract: its tests are the definition's, of a list of eight. Assumes nothing.
use mathlib.Core.Path.{◌≡◌}
use lib.ListN.{length}
use borrow.Author.Tests.{eq-eqb}
use Rattle.order.proofs.Tested.{each-of_eight}
use borrow.Author.Rules.{rules}
use Rattle.order.proofs.operators_bounded.Goals as goal

pub returns : goal.returns
returns c =
    let l = c.args.o.paid in
    let eight : length l ≡ 8 = search rules in
    rw (eq-eqb (length l) 8 eight, ← each-of_eight l eight)
