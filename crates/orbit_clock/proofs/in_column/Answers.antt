-- `orbit_clock::in_column` meets its contract: the codec refuses for the record, and its number is the record's. Assumes nothing.
use Rattle.std.proofs.Common.{◌≡◌, arith, length, length-take, length-drop}
use Rattle.orbit_clock.specs.Record.{clock_update}
use Rattle.orbit_clock.proofs.Columns.{clock_read, clock_unread}
use Rattle.orbit_clock.proofs.in_column.Goals as goal
use Rattle.orbit_clock.proofs.in_column.Goals.{Start}

-- the part that is read has six bytes
six : (s : Start) → length (clock_update s.args.column.now) ≡ 6
six s = simp (length-take, length-drop) (omega (arith, s.told-column))

pub returns-in_err-updated : goal.returns-in_err-updated
returns-in_err-updated c =
    clock_unread c.args.column.now (six (goal.at.returns-in_err-updated c).Start) _ c.decode.ensures _ _ c.in_err-updated.was c.from_residual.ensures.1

pub returns : goal.returns
returns c =
    clock_read c.args.column.now (six (goal.at.returns c).Start) _ c.decode.ensures _ _ _ _ c.in_ok-updated.was c.count16.ensures
    c.count16-2.ensures c.count16-3.ensures
