-- `voted::fill::is_cell` meets its contract. Assumes nothing.
use mathlib.Core.Path.{sym}
use mathlib.Core.Bool.{true≢false}
use borrow.Author.Tests.{eqb-true}
use Rattle.voted.proofs.fill.is_cell.Goals as goal

pub returns-then-starts-at : goal.returns-then-starts-at
returns-then-starts-at c = λ e. absurd (true≢false (sym e))

pub returns-then-not-is_spaced : goal.returns-then-not-is_spaced
returns-then-not-is_spaced c = λ e. absurd (true≢false (sym e))

pub returns-then-piece-at : goal.returns-then-piece-at
returns-then-piece-at c = λ e. absurd (true≢false (sym e))

pub returns : goal.returns
returns c =
    λ e. record { spaced = c.is_spaced.ensures c.if-not-is_spaced.false; second = c.if-piece-at.false; third = eqb-true _ _ e }
