-- `subcom::try_part` meets its contract: the part is that of the item's places, which lie within the column. Assumes nothing.
use Rattle.std.proofs.Common.{arith, rules}
use Rattle.word72_items.proofs.Answers.{to-told}
use Rattle.subcom.proofs.try_part.Goals as goal

pub overflow_add-end : goal.overflow_add-end
overflow_add-end c =
    let S = (to-told _ _ _ c.in_ok-found.ensures).sound in
    record { fits = omega arith }

pub slice_bounds-part-end : goal.slice_bounds-part-end
slice_bounds-part-end c =
    let S = (to-told _ _ _ c.in_ok-found.ensures).sound in
    search rules
