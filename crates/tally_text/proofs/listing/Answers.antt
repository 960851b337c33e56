-- `tally_text::listing` meets its contract: the heading, and then the lines of the three layers, for which there is room. Assumes nothing.
use Rattle.std.proofs.Common.{refl}
use Rattle.tally_text.proofs.TextLaws.{lined_append, whole-text}
use Rattle.tally_text.proofs.listing.Goals as goal

pub returns : goal.returns
returns c =
    let lines = lined_append (lined_append c.add_groups.ensures c.add_framing.ensures) c.add_runs.ensures in
    whole-text _ refl refl c.add.ensures lines
