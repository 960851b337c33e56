-- `cycle_records::is_writable` meets its contract: spacecraft 0 has a code, so the days alone decide. Assumes nothing.
use Rattle.time_code.specs.Codec.{has_code}
use Rattle.cycle_records.proofs.is_writable.Goals as goal

pub returns : goal.returns
unfolding has_code
returns c = rw c.last_day.ensures
