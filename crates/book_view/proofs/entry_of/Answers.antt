-- `book_view::entry_of` meets its contract: a part of what a view holds is a part of the slice. Assumes nothing.
use Rattle.std.proofs.Common.{◌≡◌, refl, [], ℕ}
use Rattle.book.specs.Header.{has_size}
use Rattle.book_parts.specs.Parts.{entry_place, nowhere}
use Rattle.book_view.proofs.HeldLaws.{part-through}
use Rattle.book_view.proofs.entry_of.Goals as goal

none : (i : ℕ) → entry_place [] i ≡ nowhere
unfolding entry_place has_size
none i = refl

pub returns : goal.returns
returns c =
    let a = c.args in
    part-through (λ l. entry_place l a.i) (none a.i) c.entry.result c.view.result.bytes a.bytes c.view.ensures c.entry.ensures
