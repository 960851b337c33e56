-- `pcd_tally::took` meets its contract: the read failed, or counts no byte, or so many, which are fed. Assumes nothing.
use Rattle.pcd_tally.proofs.Laws.{read-failed, read-ended, read_more}
use Rattle.pcd_tally.proofs.took.Goals as goal

pub returns-in_default : goal.returns-in_default
returns-in_default c = read-failed _ _ _ _ _ c.in_default.is

pub returns-then-n-eq0 : goal.returns-then-n-eq0
returns-then-n-eq0 c = read-ended _ _ _ _ _ _ c.in-Ok.is c.min-n.ensures c.if-n-eq0.true

pub returns : goal.returns
returns c = read_more _ _ _ _ _ _ c.in-Ok.is c.min-n.ensures c.if-n-eq0.false c.fed.ensures
