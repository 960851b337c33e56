use Rattle.pcd_frames.proofs.Laws.{all_read}
use borrow.Author.Rules.{rules}
use Rattle.pcd_frames.proofs.read_all.Goals as goal

pub loop-init : goal.loop-init
loop-init g c = c.begin-s.ensures

pub returns-then-not-s : goal.returns-then-not-s
returns-then-not-s g c = search (rules, all_read)

pub returns : goal.returns
returns g c = search (rules, all_read)
