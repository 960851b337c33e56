-- `voted::votes::group_stands` meets its contract: where it says no, the piece has no whole group, no SYNC stands there, or all copies differ. Assumes
-- nothing.
use native.Mathlib.Omega.{arith}
use borrow.Author.Tests.{eqb-false}
use Rattle.voted.proofs.Joining.{copies-there}
use Rattle.voted.proofs.votes.group_stands.Goals as goal

pub returns-then-starts-at : goal.returns-then-starts-at
returns-then-starts-at c = λ e g s v. omega (arith, s.third.inside)

pub returns-then-piece-at-ne-SYNC : goal.returns-then-piece-at-ne-SYNC
returns-then-piece-at-ne-SYNC c = λ e g s v. c.if-piece-at-ne-SYNC.true s.sync.is

pub returns : goal.returns
returns c =
    let product = c.apart.result in
    λ e g s v. eqb-false product 0 e (c.apart.ensures (rw (copies-there s) at v))
