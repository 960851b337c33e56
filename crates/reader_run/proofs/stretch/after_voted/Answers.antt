-- `reader_run::stretch::after_voted` meets its contract: where there are groups, the last of them is what the layer holds. Assumes nothing.
use Rattle.reader_run.proofs.VotedOnward.{no_groups, some_groups}
use Rattle.reader_run.proofs.stretch.after_voted.Goals as goal

pub returns-then-w-eq0 : goal.returns-then-w-eq0
returns-then-w-eq0 c =
    let a = c.args in
    λ gs h. no_groups a.g a.n a.k gs a.w a.weak a.x a.y h c.if-w-eq0.true

pub returns : goal.returns
returns c =
    let a = c.args in
    λ gs h. rw c.more_weak-next.ensures (some_groups a.g a.n a.k gs a.w a.weak a.x a.y h c.if-w-eq0.false)
