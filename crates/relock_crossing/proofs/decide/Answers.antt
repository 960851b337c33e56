-- `relock_crossing::decide` meets its contract: each branch is a move. Assumes nothing.
use mathlib.Core.Bool.{true, false}
use mathlib.Core.Path.{refl, sym, ◌∙◌}
use native.Mathlib.Omega.{arith}
use Rattle.std.proofs.lemmas.Result.{err_from_is_err_and}
use Rattle.relocking.proofs.Moves.{reads_part, asks_again, reads_frame, leads_other}
use Rattle.relock_crossing.proofs.Steps.{feeder_tally, ready_waiting, lead-fits, step_reads, step_leads, refused-so, passed, asked-so}
use Rattle.relock_crossing.proofs.decide.Goals as goal

pub returns-then-ends-piece : goal.returns-then-ends-piece
returns-then-ends-piece c =
    let piece = c.args.piece.now in
    rw c.read.ensures
    (step_reads _ _ _ piece _ _ (ready_waiting _ _ _ _ c.requires.0) piece (omega arith) true _ _ _ _ c.take_to_lock-r.ensures
    (λ a. reads_part _ piece _ _ a (rw c.requires.0.awaits refl) c.requires.1 c.if-piece-lt4.true c.if-ends-piece.true))

pub returns-in_err-permitted : goal.returns-in_err-permitted
returns-in_err-permitted c =
    let a = c.args in
    let p = err_from_is_err_and c.from_residual.result c.from_residual.ensures.1 in
    rw (p.1, p.2) (refused-so _ _ _ a.piece.now a.ends a.area.now _ c.in_err-permitted.ensures)

pub asks-requires : goal.asks-requires
asks-requires c =
    let a = c.args in
    let e = sym c.in_ok-permitted.ensures in
    (feeder_tally _ _ (passed _ a.frame.now _ a.piece.now a.ends a.area.now e).0).0

pub returns-then-piece-lt4 : goal.returns-then-piece-lt4
returns-then-piece-lt4 c =
    let a = c.args in
    let n = a.numbers.now in
    let frame = a.frame.now in
    let feeder = a.feeder.now in
    let piece = a.piece.now in
    let old = a.area.now in
    let e = sym c.in_ok-permitted.ensures in
    let accepted = (passed n frame feeder piece a.ends old e).1 in
    asked-so n frame feeder piece a.ends old e c.asks.result _ _ c.requires.0.awaits c.asks.ensures
    (asks_again _ piece a.ends old accepted (rw c.requires.0.awaits refl) c.requires.1 c.if-piece-lt4.true c.if-ends-piece.false)

pub returns-then-begins_frame : goal.returns-then-begins_frame
returns-then-begins_frame c =
    let piece = c.args.piece.now in
    rw c.read-then-begins_frame.ensures
    (step_reads _ _ _ piece _ _ (ready_waiting _ _ _ _ c.requires.0) piece (omega arith) false _ _ _ _ c.take_to_lock-r-then-begins_frame.ensures
    (λ a. reads_frame _ piece _ _ a (rw c.requires.0.awaits refl) c.requires.1 (omega (arith, c.if-piece-lt4.false))
    (sym c.begins_frame.ensures ∙ c.if-begins_frame.true)))

pub overflow_add-handed : goal.overflow_add-handed
overflow_add-handed c =
    let w = c.requires.0 in
    record { fits = omega (arith, w.few, w.fits) }

pub returns : goal.returns
returns c =
    let piece = c.args.piece.now in
    rw c.read-2.ensures
    (step_leads _ _ _ piece _ _ (ready_waiting _ _ _ _ c.requires.0) _ _ _ _ (c.lead_and_take-r.ensures.fits (lead-fits _ _ _ _ c.requires.0))
    (λ a. leads_other _ piece _ _ a (rw c.requires.0.awaits refl) c.requires.1 (omega (arith, c.if-piece-lt4.false))
    (sym c.begins_frame.ensures ∙ c.if-begins_frame.false)))
