-- `book_parts::entry_place` meets its contract: nowhere beside a refusal, else the place that is given. Assumes nothing.
use Rattle.book.specs.Layout.{entry_start}
use Rattle.book_parts.specs.Parts.{part_lines, place, entry_place, try_entry_place}
use Rattle.book_parts.proofs.Places.{placed}
use Rattle.book_parts.proofs.entry_place.Goals as goal

pub returns : goal.returns
unfolding entry_place try_entry_place
returns c =
    let a = c.args in
    placed _ (part_lines a.bytes.now a.i) (place (entry_start a.i) 12) _ _ c.try_entry_place.ensures c.unwrap_or.ensures
