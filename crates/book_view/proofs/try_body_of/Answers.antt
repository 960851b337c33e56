-- `book_view::try_body_of` meets its contract: a part of what a view holds is a part of the slice. Assumes nothing.
use Rattle.std.proofs.Common.{◌≡◌, refl, [], ℕ, Err}
use Rattle.base.specs.declared.refusal.Refusal.TheVariants.{WrongBookLength}
use Rattle.book.specs.Header.{has_size}
use Rattle.book_parts.specs.Parts.{try_body_place}
use Rattle.book_view.proofs.HeldLaws.{tried-through}
use Rattle.book_view.proofs.try_body_of.Goals as goal

none : (i : ℕ) → try_body_place [] i ≡ Err WrongBookLength
unfolding try_body_place has_size
none i = refl

pub returns : goal.returns
returns c =
    let a = c.args in
    tried-through (λ l. try_body_place l a.i) WrongBookLength (none a.i) c.try_body.result c.view.result.bytes a.bytes c.view.ensures c.try_body.ensures
