-- `book_shelf::left_out` meets its contract. Assumes nothing.
use mathlib.Core.Path.{refl}
use Rattle.book_shelf.proofs.left_out.Goals as goal

pub returns : goal.returns
returns c = refl
