-- `data_pointer::next` meets its contract: below 47 and from 47 up. Assumes nothing.
use native.Mathlib.Omega.{arith}
use Rattle.data_pointer.proofs.Steps.{next-below, next-from}
use Rattle.data_pointer.proofs.Promises.{next-refused, next-given}
use Rattle.data_pointer.proofs.next.Goals as goal

pub returns-then-p-ge-POINTERS : goal.returns-then-p-ge-POINTERS
returns-then-p-ge-POINTERS c = next-refused c.args.p (omega arith)

pub returns-then-p-lt-BACK : goal.returns-then-p-lt-BACK
returns-then-p-lt-BACK c =
    let p = c.args.p in
    next-given p _ (omega arith) (omega (arith, next-below p (omega arith)))

pub returns : goal.returns
returns c =
    let p = c.args.p in
    next-given p _ (omega arith) (omega (arith, next-from p (omega arith)))
