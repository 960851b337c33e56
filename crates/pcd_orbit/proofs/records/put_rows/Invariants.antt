-- `pcd_orbit::records::put_rows` meets its contract: each line ends within the room. Assumes nothing.
use Rattle.io.specs.Counts.{IsPrefixLen}
use Rattle.pcd_orbit.proofs.records.put_rows.Given as goal

abbrev pub invariant-loop-i : goal.invariant-loop-i
invariant-loop-i g l = IsPrefixLen l.end l.out
