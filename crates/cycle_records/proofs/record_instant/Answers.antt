-- `cycle_records::record_instant` meets its contract: k major frames on and two back is what the book lists for k. Assumes nothing.
use Rattle.std.proofs.Common.{◌∙◌}
use Rattle.cycle_records.proofs.Instants.{moved}
use Rattle.cycle_records.proofs.record_instant.Goals as goal

pub returns : goal.returns
returns c = c.saturating_sub.ensures ∙ moved c.args.t c.args.k c.requires.1
