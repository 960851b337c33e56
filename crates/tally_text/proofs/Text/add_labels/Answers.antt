-- `tally_text::Text::add_labels` meets its contract: one line after the other. Assumes nothing.
use Rattle.tally_text.proofs.TextLaws.{lined_append}
use Rattle.tally_text.proofs.Text.add_labels.Goals as goal

pub returns : goal.returns
returns c =
    lined_append (lined_append (lined_append (lined_append c.add_line.ensures c.add_line-2.ensures) c.add_line-3.ensures) c.add_line-4.ensures) c.add_line-5.ensures
