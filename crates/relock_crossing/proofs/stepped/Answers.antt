-- `relock_crossing::stepped` meets its contract: the call where no lock awaits its word, the step at a lock, or a refusal. Assumes nothing.
use mathlib.Core.Bool.{false}
use mathlib.Core.Path.{refl, sym, ◌∙◌}
use native.Mathlib.Omega.{arith}
use borrow.Author.Tests.{eqb-true}
use Rattle.std.proofs.lemmas.Result.{err_from_is_err_and}
use Rattle.in_place.proofs.Laws.{both}
use Rattle.relocking.proofs.Moves.{reads_all}
use Rattle.relock_crossing.proofs.Steps.{ready_none, step_reads, called-else, refused-so}
use Rattle.relock_crossing.proofs.stepped.Goals as goal

pub returns-then-awaits-fit : goal.returns-then-awaits-fit
returns-then-awaits-fit c =
    let tests = both _ _ c.if-awaits-fit.true in
    let fit = c.fits-fit.ensures.fit tests.1 in
    let awaits = eqb-true _ _ tests.0 in
    let piece = c.args.piece.now in
    rw c.read.ensures
    (step_reads _ _ _ piece _ _ (ready_none _ _ _ _ awaits fit.0 fit.1) piece (omega arith) false _ _ _ _ c.take_to_lock-r.ensures
    (λ a. reads_all _ piece _ _ a (rw awaits refl)))

pub at_lock-requires : goal.at_lock-requires
at_lock-requires c =
    let tests = both _ _ c.if-awaits-fit-2.true in
    let first = both _ _ tests.0 in
    let fit = c.fits-fit.ensures.fit first.1 in
    record {
      awaits = eqb-true _ _ first.0;
      stands = sym (c.stands.ensures c.args.frame.now) ∙ tests.1;
      few = fit.0;
      fits = fit.1;
    }

pub returns-in_err-permitted : goal.returns-in_err-permitted
returns-in_err-permitted c =
    let a = c.args in
    let p = err_from_is_err_and c.from_residual.result c.from_residual.ensures.1 in
    rw (p.1, p.2) (refused-so _ _ _ a.piece.now a.ends a.area.now _ c.in_err-permitted.ensures)

pub returns : goal.returns
returns c =
    let a = c.args in
    let stands = c.stands.ensures a.frame.now in
    absurd (called-else _ _ _ a.piece.now a.ends a.area.now (sym c.in_ok-permitted.ensures) _ _ c.fits-fit.ensures stands
    c.if-awaits-fit.false c.if-awaits-fit-2.false)
