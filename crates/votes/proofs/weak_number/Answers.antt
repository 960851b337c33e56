-- `votes::weak_number` meets its contract: of the three numbers at most one is added. Assumes nothing.
use Rattle.votes.proofs.Voting.{numbered}
use Rattle.votes.proofs.weak_number.Goals as goal

pub returns : goal.returns
returns c =
    let a = c.args in
    rw (c.from-3.ensures, c.from-2.ensures, c.from.ensures) (numbered a.ab a.ac a.bc)
