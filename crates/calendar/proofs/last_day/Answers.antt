-- `calendar::last_day` meets its contract: 366 or 365 by the definition's test. Assumes nothing.
use Prim.Native.Nat.{ℕ, ◌%◌}
use mathlib.Core.Path.{◌≡◌, sym, ◌∙◌}
use mathlib.Core.Bool.{false}
use native.Mathlib.Omega.{arith}
use borrow.Author.Tests.{eqb-false}
use Rattle.calendar.specs.Calendar.{is_leap}
use Rattle.calendar.proofs.last_day.Goals as goal

-- a year of 365 days, said of its number, so that of a wrong body such a year is shown
common : (y : ℕ) → is_leap y ≡ false → y % 4 ≡ 0 → ⊥
unfolding is_leap
common y e = eqb-false (y % 4) 0 e

pub returns-then-is_leap : goal.returns-then-is_leap
returns-then-is_leap c = rw (sym c.is_leap.ensures ∙ c.if-is_leap.true) (omega arith)

pub returns-else-is_leap : goal.returns-else-is_leap
returns-else-is_leap c =
    let other = sym c.is_leap.ensures ∙ c.if-is_leap.false in
    rw other (omega (arith, common c.args.year other))
