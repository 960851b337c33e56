-- `book_shelf::added` meets its contract. Assumes nothing.
use mathlib.Core.Path.{refl}
use Rattle.book_shelf.proofs.added.Goals as goal

pub returns : goal.returns
returns c = refl
