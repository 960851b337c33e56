-- `time_bytes::code` meets its contract: its seven bytes are those of the instant's fields. Assumes nothing.
use Rattle.time_bytes.proofs.Bytes.{code_bytes}
use Rattle.time_bytes.proofs.code.Goals as goal

pub returns : goal.returns
returns c =
    code_bytes c.args.spacecraft c.args.instant _ _ _ _ _ c.bcd_byte.ensures c.bcd_byte-2.ensures c.bcd_byte-3.ensures
    c.bcd_byte-4.ensures c.bcd_byte-5.ensures
