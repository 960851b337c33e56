-- `reader::take_to_lock` meets its contract: it is `take` of the part as far as a lock, and the second layer tells the lock. Assumes nothing.
use Rattle.std.proofs.lemmas.Result.{err_from_is_err_and}
use Rattle.reader.proofs.Answers.{lock_refused, lock_promise}
use Rattle.reader.proofs.take_to_lock.Goals as goal

pub returns-in_err-r : goal.returns-in_err-r
returns-in_err-r c =
    let p = err_from_is_err_and c.from_residual.result c.from_residual.ensures.1 in
    rw (p.1, p.2) (lock_refused _ c.in_err-r.ensures)

pub returns : goal.returns
returns c = lock_promise c.in_ok-r.ensures _ c.has_locked-locked.ensures
