-- `quiet::skip` meets its contract: nothing where SYNC comes at once; else blocks, then bytes. Assumes nothing.
use native.Mathlib.Omega.{arith}
use Rattle.quiet.specs.Quiet.{ends}
use Rattle.quiet.proofs.Joining.{quiet_far}
use Rattle.quiet.proofs.skip.Goals as goal

pub returns-then-piece-from : goal.returns-then-piece-from
returns-then-piece-from c = record { quiet = ends; stops = λ l. absurd (omega arith) }

pub returns-then-piece-from-eq-SYNC : goal.returns-then-piece-from-eq-SYNC
returns-then-piece-from-eq-SYNC c = record { quiet = ends; stops = λ l. record { inside = l; is = c.if-piece-from-eq-SYNC.true } }

pub skip_bytes-requires : goal.skip_bytes-requires
skip_bytes-requires c = omega (arith, quiet_far c.skip_blocks.ensures)

pub returns : goal.returns
returns c = c.skip_bytes.ensures c.args.from c.skip_blocks.ensures
