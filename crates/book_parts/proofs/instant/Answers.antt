-- `book_parts::instant` meets its contract: the first eight bytes of the entry that is handed out. Assumes nothing.
use Rattle.std.proofs.Common.{sym, ◌∙◌}
use native.Mathlib.Omega.{arith}
use Rattle.book_parts.proofs.Held.{entry_is, entry-part, entry_length, instant-is, instant-refused, instant-there}
use Rattle.book_parts.proofs.instant.Goals as goal

pub slice_bounds-read-end : goal.slice_bounds-read-end
slice_bounds-read-end c =
    let h = rw c.in-Ok.is at c.try_entry.ensures in
    let l = entry_length _ _ (entry_is c.args.bytes c.args.i _ h) _ (entry-part c.args.bytes c.args.i _ h).contents_are in
    omega arith

pub returns-in-Ok : goal.returns-in-Ok
returns-in-Ok c =
    let h = rw c.in-Ok.is at c.try_entry.ensures in
    let e = entry_is c.args.bytes c.args.i _ h in
    instant-is _ _ e _ (entry-part c.args.bytes c.args.i _ h).contents_are _ c.read.ensures ∙ sym (instant-there _ _ e)

pub returns-in-Err : goal.returns-in-Err
returns-in-Err c = instant-refused c.args.bytes c.args.i _ (rw c.in-Err.is at c.try_entry.ensures)
