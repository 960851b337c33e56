-- `word72_descriptions::put_description` meets its contract: the field is the line of the table. Assumes nothing.
use mathlib.Core.Path.{sym}
use Rattle.word72_descriptions.specs.Descriptions.{description}
use Rattle.word72_descriptions.proofs.put_description.Goals as goal

pub returns : goal.returns
unfolding description
returns c = rw (← c.line_of.ensures, ← c.line.ensures) c.put_csv_field.ensures
