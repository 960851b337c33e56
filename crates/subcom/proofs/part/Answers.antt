-- `subcom::part` meets its contract: the part of `try_part`, and the empty part at the column's
-- start where that is refused. Assumes nothing.
use Rattle.std.proofs.Common.{refl, arith}
use Rattle.subcom.proofs.Requests.{part_or_none}
use Rattle.subcom.proofs.part.Goals as goal

pub returns : goal.returns
returns c =
    let a = c.args in
    part_or_none a.column.now a.column.ref_ptr a.kind a.item _ _ _ c.unwrap_or.ensures c.try_part.ensures refl refl (omega arith)
