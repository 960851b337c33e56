-- `reel_map::mark` meets its contract: the class is that of what came since the cell began. Assumes nothing.
use mathlib.Core.Path.{◌∙◌}
use Rattle.reel_map.proofs.mark.Goals as goal

pub returns : goal.returns
returns c = c.raise.ensures ∙ rw (c.class_of-class.ensures, c.counts_of-after.ensures)
