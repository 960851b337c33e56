-- `voted::placing::longest` meets its contract: blocks and groups are one stretch, and the groups end it. Assumes nothing.
use Rattle.voted.proofs.Joining.{kept-none}
use Rattle.voted.proofs.placing.longest.Goals as goal

pub returns : goal.returns
returns c =
    let a = c.args in
    let from = a.from in
    let q = a.start in
    let f = a.frame.now in
    let ended = c.groups.ensures in
    record {
      kept = ended.runs_on.kept from q f (c.blocks-2.ensures.kept from q f (kept-none from q f));
      has_room = ended.runs_on.has_room;
      stops = ended.stops;
    }
