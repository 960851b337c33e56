-- `data_pointer::previous` meets its contract: below 38 and from 38 up. Assumes nothing.
use native.Mathlib.Omega.{arith}
use Rattle.data_pointer.proofs.Steps.{previous-below, previous-from}
use Rattle.data_pointer.proofs.Promises.{previous-refused, previous-given}
use Rattle.data_pointer.proofs.previous.Goals as goal

pub returns-then-p-ge-POINTERS : goal.returns-then-p-ge-POINTERS
returns-then-p-ge-POINTERS c = previous-refused c.args.p (omega arith)

pub returns-then-p-lt-ON : goal.returns-then-p-lt-ON
returns-then-p-lt-ON c =
    let p = c.args.p in
    previous-given p _ (omega arith) (omega (arith, previous-below p (omega arith)))

pub returns : goal.returns
returns c =
    let p = c.args.p in
    previous-given p _ (omega arith) (omega (arith, previous-from p (omega arith)))
