-- `pcd_frames::report::put_operator` meets its contract: one part behind the other. Assumes nothing.
use Rattle.command.proofs.TextLaws.{adds_append}
use borrow.Author.Rules.{rules}
use Rattle.pcd_frames.proofs.report.put_operator.Goals as goal

pub returns : goal.returns
returns c = search (rules, adds_append)
