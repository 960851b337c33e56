-- `command::text::put_number` meets its contract: the digits are those that `io::decimal` gives. Assumes nothing.
use mathlib.Core.Path.{sym}
use Rattle.command.proofs.TextLaws.{digits_are}
use Rattle.command.proofs.text.put_number.Goals as goal

pub returns : goal.returns
returns c =
    let digits = c.decimal-k.ensures in
    rw (sym (digits_are c.args.n _ c.ranges.n.fits digits.len), ← digits.digits) c.put.ensures
