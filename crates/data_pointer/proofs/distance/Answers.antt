-- `data_pointer::distance` meets its contract: as often 47 steps as q lies above p, modulo 85. Assumes nothing.
use native.Mathlib.Omega.{arith}
use Rattle.data_pointer.proofs.Promises.{distance-no_start, distance-no_end, distance-given}
use Rattle.data_pointer.proofs.distance.Goals as goal

pub returns-then-p-ge-POINTERS : goal.returns-then-p-ge-POINTERS
returns-then-p-ge-POINTERS c = let a = c.args in distance-no_start a.p a.q (omega arith)

pub returns-then-q-ge-POINTERS : goal.returns-then-q-ge-POINTERS
returns-then-q-ge-POINTERS c = let a = c.args in distance-no_end a.p a.q (omega arith) (omega arith)

pub returns : goal.returns
returns c = let a = c.args in distance-given a.p a.q _ (omega arith) (omega arith) (omega arith)
