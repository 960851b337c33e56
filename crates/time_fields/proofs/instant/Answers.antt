-- `time_fields::instant` meets its contract: sums of half bytes, each by its weight. Assumes nothing.
-- The check finds this alone; it stands here so that of a wrong body values are shown at which it fails.
use native.Mathlib.Omega.{arith}
use Rattle.time_fields.proofs.instant.Goals as goal

pub returns : goal.returns
returns c = omega arith
