-- `header_symbols::byte_at` meets its contract: past its end a list has the 0 that is asked for. Assumes nothing.
use mathlib.Core.Path.{sym}
use lib.ListN.{get_or-eq_default}
use Rattle.header_symbols.proofs.byte_at.Goals as goal

pub returns : goal.returns
returns c = sym (get_or-eq_default c.args.bytes.now 0 c.if-place-bytes.false)
