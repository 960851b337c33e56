-- `tally_numbers::tally_of` meets its contract: its parts are the layers', the operators' and the rule. Assumes nothing.
use Rattle.tally_numbers.proofs.tally_of.Goals as goal

pub returns : goal.returns
returns c =
    rw (c.operators_of-operators.ensures, c.runs_of-runs.ensures, c.framing_of-framing.ensures, c.groups_of-groups.ensures)
