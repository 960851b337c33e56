-- `tally_text::Text::add_groups` meets its contract: the labels' lines, the weak copies' and the open group's. Assumes nothing.
use Rattle.tally_text.proofs.TextLaws.{lined_append}
use Rattle.tally_text.proofs.Text.add_groups.Goals as goal

pub returns : goal.returns
returns c =
    lined_append (lined_append c.add_labels.ensures c.add_weak.ensures) c.add_line.ensures
