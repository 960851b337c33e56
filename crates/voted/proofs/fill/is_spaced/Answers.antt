-- `voted::fill::is_spaced` meets its contract: SYNC, four FILL, and the fifth. Assumes nothing.
use mathlib.Core.Path.{sym}
use mathlib.Core.Bool.{true≢false}
use native.Mathlib.Omega.{arith}
use borrow.Author.Tests.{eqb-true}
use Rattle.voted.proofs.fill.is_spaced.Goals as goal

pub returns-then-piece-at-ne-SYNC : goal.returns-then-piece-at-ne-SYNC
returns-then-piece-at-ne-SYNC c = λ e. absurd (true≢false (sym e))

pub returns-then-not-are_four : goal.returns-then-not-are_four
returns-then-not-are_four c = λ e. absurd (true≢false (sym e))

pub returns : goal.returns
returns c =
    λ q. record {
      sync = record { inside = omega (arith, c.requires); is = c.if-piece-at-ne-SYNC.false };
      four = c.are_four.ensures c.if-not-are_four.false;
      fifth = record { inside = c.requires; is = eqb-true _ _ q };
    }
