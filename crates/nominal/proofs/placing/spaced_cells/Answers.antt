use native.Mathlib.Omega.{arith}
use Rattle.nominal.proofs.Joining.{nominal_far, stored-none, stored-fill, stored-join}
use Rattle.nominal.proofs.placing.spaced_cells.Goals as goal

pub loop-p-init : goal.loop-p-init
loop-p-init c =
    let a = c.args in
    (stored-none a.from a.start a.frame.now, omega arith, λ z. z)

pub returns-then-not-cell_stands : goal.returns-then-not-cell_stands
returns-then-not-cell_stands c =
    let k = c.loop-p in
    record { stored = k.invariant.0; fact = k.invariant.2 }

pub all_cells-run-requires : goal.all_cells-run-requires
all_cells-run-requires c = omega arith

pub loop-p-smaller : goal.loop-p-smaller
loop-p-smaller c =
    let cell = c.cell_stands.ensures c.if-not-cell_stands.false in
    let taken = c.all_cells-run.ensures in
    let further = taken.goes_on _ cell (omega arith) in
    omega (arith, further, nominal_far taken.stored.stretch, nominal_far c.skip_fill-at.ensures.stretch, cell.fifth.inside)

pub loop-p-preserved : goal.loop-p-preserved
loop-p-preserved c =
    let k = c.loop-p in
    let taken = c.all_cells-run.ensures.stored in
    let filled = c.skip_fill-at.ensures in
    (stored-join (stored-join k.invariant.0 taken) (stored-fill _ _ filled.stretch), taken.room k.invariant.1, λ z. filled.no_fill)

pub returns : goal.returns
returns c =
    let k = c.loop-p in
    record { stored = k.invariant.0; fact = k.invariant.2 }
