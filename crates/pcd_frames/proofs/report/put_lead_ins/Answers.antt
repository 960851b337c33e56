-- `pcd_frames::report::put_lead_ins` meets its contract: one part behind the other. Assumes nothing.
use Rattle.command.proofs.TextLaws.{adds_append}
use borrow.Author.Rules.{rules}
use Rattle.pcd_frames.proofs.report.put_lead_ins.Goals as goal

pub returns : goal.returns
returns c = search (rules, adds_append)
