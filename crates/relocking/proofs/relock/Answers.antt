-- `relocking::relock` meets its contract: refused, or by its move one of the calls below. Assumes nothing.
use mathlib.Core.Path.{◌≡◌, sym, ◌∙◌}
use native.Mathlib.Omega.{arith}
use lib.ListN.{length, take}
use lib.Seq.{length-take-le}
use borrow.Author.Tests.{not-true, not-false}
use Rattle.relocking.specs.Relock.{relock_refusal}
use Rattle.std.proofs.lemmas.Result.{err_from_is_err_and}
use Rattle.relocking.proofs.Relocking.{step_refused, step_by, accepts_part}
use Rattle.relocking.proofs.Moves.{reads_all, reads_before}
use Rattle.relocking.proofs.relock.Goals as goal
use Rattle.relocking.proofs.relock.Goals.{In_ok-permitted}

pub returns-in_err-permitted : goal.returns-in_err-permitted
returns-in_err-permitted c =
    let p = err_from_is_err_and c.from_residual.result c.from_residual.ensures.1 in
    rw (p.1, p.2) (step_refused _ _ _ _ _ c.in_err-permitted.ensures)

-- past the first test
module _ (w : In_ok-permitted) where
  accepted : relock_refusal w.args.f (length w.args.piece.now) (length w.args.area.now) ≡ 0
  accepted = sym w.in_ok-permitted.ensures

pub read_on-requires : goal.read_on-requires
read_on-requires c = accepted (goal.at.read_on-requires c).In_ok-permitted

pub returns-then-not-f : goal.returns-then-not-f
returns-then-not-f c =
    step_by _ _ _ _ _ c.read_on.result _ c.read_on.ensures
    (λ r p. reads_all _ _ _ _ (accepted (goal.at.returns-then-not-f c).In_ok-permitted) (not-true _ c.if-not-f.true) r _ p)

pub slice_bounds-read_on-end : goal.slice_bounds-read_on-end
slice_bounds-read_on-end c = sym (length-take-le _ _ c.before_group-k.ensures.1)

pub read_on-requires-then-k-gt0 : goal.read_on-requires-then-k-gt0
read_on-requires-then-k-gt0 c =
    let args = c.args in
    let piece = args.piece.now in
    let k = c.before_group-k.result in
    let within = c.before_group-k.ensures.1 in
    accepts_part args.f (length piece) (length (take k piece)) (length args.area.now) (omega (arith, within, length-take-le k piece within))
    (accepted (goal.at.read_on-requires-then-k-gt0 c).In_ok-permitted)

pub returns-then-k-gt0 : goal.returns-then-k-gt0
returns-then-k-gt0 c =
    let found = c.before_group-k.ensures in
    step_by _ _ _ _ _ c.read_on-then-k-gt0.result _ c.read_on-then-k-gt0.ensures
    (λ r p. reads_before _ _ _ _ (accepted (goal.at.returns-then-k-gt0 c).In_ok-permitted) (not-false _ c.if-not-f.false)
    (omega (arith, found.0, c.if-k-gt0.true)) (omega (arith, found.0, found.1)) r _ (rw found.0 at p))

pub decide-requires : goal.decide-requires
decide-requires c =
    (accepted (goal.at.decide-requires c).In_ok-permitted, not-false _ c.if-not-f.false, omega (arith, c.before_group-k.ensures.0, c.if-k-gt0.false))
