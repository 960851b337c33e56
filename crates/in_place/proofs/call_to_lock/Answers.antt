-- `in_place::call_to_lock` meets its contract: the second layer, before and after the call, tells the lock. Assumes nothing.
use mathlib.Core.Path.{ap, ◌∙◌}
use Rattle.std.proofs.lemmas.Result.{err_from_is_err_and}
use Rattle.labelling.specs.declared.Framing.{Framing}
use Rattle.reader.specs.Shapes.{locked_by}
use Rattle.tally_numbers.specs.Numbers.{framing_of}
use Rattle.in_place.proofs.Laws.{lock_told, lock_untold}
use Rattle.in_place.proofs.LeadIn.{next-call}
use Rattle.in_place.proofs.call_to_lock.Goals as goal

pub call-requires : goal.call-requires
call-requires c = c.requires

pub returns-in_err-part : goal.returns-in_err-part
returns-in_err-part c =
    let p = err_from_is_err_and c.from_residual.result c.from_residual.ensures.1 in
    rw (p.1, p.2) (lock_untold _ c.in_err-part.ensures)

pub returns : goal.returns
returns c =
    let a = c.args in
    let n = a.numbers.now in
    let seen = c.framing_of-before.ensures in
    let told = c.has_locked-locked.ensures ∙ ap (λ (f : Framing). locked_by f c.framing_of-after.result) seen
    ∙ ap (λ (f : Framing). locked_by (framing_of n) f) c.framing_of-after.ensures in
    let next = next-call n a.frame.now a.piece.now a.area.now a.led c.requires in
    lock_told n a.frame.now a.piece.now a.area.now _ next _ _ _ _ c.in_ok-part.ensures _ told
