-- `book_parts::part` meets its contract: the part is the caller's own memory, from the place's start on. Assumes nothing.
use mathlib.Core.Path.{refl}
use Rattle.book_parts.proofs.Places.{starts}
use Rattle.base.proofs.Rows.{part-is}
use Rattle.book_parts.proofs.part.Goals as goal

pub returns : goal.returns
returns c =
    let a = c.args in
    record { contents_are = part-is a.place.start a.place.length a.bytes.now; block = refl; offset = starts _ _ }
