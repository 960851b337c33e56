-- `data_pointer::after` meets its contract: n steps add 38 n modulo 85. Assumes nothing.
use mathlib.Core.Path.{refl}
use native.Mathlib.Omega.{arith}
use Rattle.data_pointer.proofs.Promises.{after-no_pointer, after-too_far, after-given}
use Rattle.data_pointer.proofs.after.Goals as goal

pub returns-then-p-ge-POINTERS : goal.returns-then-p-ge-POINTERS
returns-then-p-ge-POINTERS c = let a = c.args in after-no_pointer a.p a.n (omega arith)

pub returns-then-n-gt-MOST_FRAMES : goal.returns-then-n-gt-MOST_FRAMES
returns-then-n-gt-MOST_FRAMES c = let a = c.args in after-too_far a.p a.n (omega arith) (omega arith)

pub returns : goal.returns
returns c = let a = c.args in after-given a.p a.n _ (omega arith) (omega arith) refl
