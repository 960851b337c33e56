-- `cycle::time_bytes` meets its contract: it reads the seven places that the definition gathers. Assumes nothing.
use Rattle.cycle.proofs.Instants.{time_bytes_lem}
use Rattle.cycle.proofs.time_bytes.Goals as goal

pub returns : goal.returns
returns c =
    time_bytes_lem c.args.body.now _ _ _ _ _ _ _ c.byte_at.ensures c.byte_at-2.ensures c.byte_at-3.ensures
    c.byte_at-4.ensures c.byte_at-5.ensures c.byte_at-6.ensures c.byte_at-7.ensures
