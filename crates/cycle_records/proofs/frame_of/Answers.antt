-- `cycle_records::frame_of` meets its contract. Assumes nothing.
use Rattle.std.proofs.Common.{arith}
use Rattle.cycle_records.proofs.Instants.{last_frame}
use Rattle.cycle_records.proofs.frame_of.Goals as goal

pub returns : goal.returns
returns c = rw c.min.ensures (omega arith, last_frame c.args.k)
