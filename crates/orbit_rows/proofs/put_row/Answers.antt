-- `orbit_rows::put_row` meets its contract: one part behind the other. Assumes nothing.
use native.Mathlib.Omega.{arith}
use Rattle.std.proofs.Common.{◌≡◌, sym, List, ℕ}
use Rattle.command.specs.Text.{Adds}
use Rattle.command.proofs.TextLaws.{adds_append}
use Rattle.orbit_rows.specs.declared.Row.{Row}
use Rattle.orbit_rows.specs.Rows.{end_text}
use Rattle.orbit_rows.proofs.put_row.Goals as goal

-- the end of a line with a number is that with any number equal to it
module _ (row : Row) (m n : ℕ) (same : m ≡ n) {old new : List ℕ} {at end : ℕ} where
  ended : Adds old at (end_text row m) new end → Adds old at (end_text row n) new end
  ended h = rw (sym same) h

pub returns-in-Ok : goal.returns-in-Ok
returns-in-Ok g c =
    rw c.in-Ok.is (adds_append (adds_append c.put_start-begun.ensures c.put-told.ensures) c.put_end.ensures)

pub returns-in-Err : goal.returns-in-Err
returns-in-Err g c =
    let end = ended c.args.row _ c.in-Err.number (omega arith) c.put_end-in-Err.ensures in
    rw c.in-Err.is (adds_append c.put_start-begun.ensures end)
