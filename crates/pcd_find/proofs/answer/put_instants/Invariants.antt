-- `pcd_find::answer::put_instants` meets its contract: the instants of the entries that were passed are put. Assumes nothing.
use Rattle.pcd_find.proofs.Laws.{Put}
use Rattle.pcd_find.proofs.answer.put_instants.Given as goal

abbrev pub invariant-loop-i : goal.invariant-loop-i
invariant-loop-i l = Put l.book l.out l.i
