-- `in_place::layers_of` meets its contract: each layer is read by itself. Assumes nothing.
use Rattle.in_place.proofs.layers_of.Goals as goal

pub returns : goal.returns
returns c = rw (c.runs_of-runs.ensures, c.framing_of-framing.ensures, c.groups_of-groups.ensures)
