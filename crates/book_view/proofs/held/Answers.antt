-- `book_view::held` meets its contract: all of the bytes, or none. Assumes nothing.
use Rattle.std.proofs.Common.{refl, sym, ap, ◌∙◌}
use Rattle.base.specs.Refusals.{number_of}
use Rattle.base.proofs.Lines.{positive}
use Rattle.book_view.proofs.HeldLaws.{all_held, none-held, from_start, whole, at-start}
use Rattle.book_view.proofs.held.Goals as goal

pub returns-in-Ok : goal.returns-in-Ok
returns-in-Ok c =
    let s = c.args.bytes in
    from_start s s _ _ (all_held s.now (sym c.accept.ensures.number ∙ ap number_of c.in-Ok.is)) (whole s.now) refl refl

pub returns-in-Err : goal.returns-in-Err
returns-in-Err c =
    let s = c.args.bytes in
    from_start _ s _ _ (none-held s.now (λ e. positive _ (sym (ap number_of c.in-Err.is) ∙ c.accept.ensures.number ∙ e))) refl refl (at-start _)
