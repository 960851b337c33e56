-- `book_parts::body_place` meets its contract: nowhere beside a refusal, else the place that is given. Assumes nothing.
use Rattle.book.specs.Layout.{body_start, cycles_said}
use Rattle.book_parts.specs.Parts.{part_lines, place, body_place, try_body_place}
use Rattle.book_parts.proofs.Places.{placed}
use Rattle.book_parts.proofs.body_place.Goals as goal

pub returns : goal.returns
unfolding body_place try_body_place
returns c =
    let a = c.args in
    let given = place (body_start (cycles_said a.bytes.now) a.i) 65536 in
    placed _ (part_lines a.bytes.now a.i) given _ _ c.try_body_place.ensures c.unwrap_or.ensures
