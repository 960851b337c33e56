-- `book_parts::body` meets its contract: the place lies within the book, and the part is that one. Assumes nothing.
use Rattle.book_parts.proofs.body.Goals as goal

pub returns : goal.returns
returns c = rw c.body_place-place.ensures.is at c.part.ensures
