-- `reader_run::one_byte` meets its contract: it is a plain step. Assumes nothing.
use native.Mathlib.Omega.{arith}
use Rattle.reader_run.proofs.Onward.{now-onward}
use Rattle.reader_run.proofs.one_byte.Goals as goal

pub returns : goal.returns
returns c =
    record { onward = now-onward c.byte_step-s.ensures c.requires.0 c.requires.1; moves = omega arith }
