-- `tally_text::Text::add_line` meets its contract: a name, the digits that `io::decimal` gives and a line feed are a line. Assumes nothing.
use Rattle.tally_text.proofs.TextLaws.{twenty, lined}
use Rattle.tally_text.proofs.Text.add_line.Goals as goal

pub returns : goal.returns
returns c =
    let d = c.decimal-k.ensures in
    let short = twenty c.args.n c.decimal-k.result c.ranges.n.fits d.len in
    lined _ _ _ _ d.len short d.in_bounds.0 d.digits c.add.ensures c.add-2.ensures c.add-3.ensures
