-- `fresh_tally::fresh` meets its contract: what it returns is the fresh tally of the rule that is given, of which demand 3 is a theorem. Assumes nothing.
use mathlib.Core.Path.{sym}
use Rattle.labelling.proofs.Promised.{rule_known, rule_unknown, fresh-promise}
use Rattle.fresh_tally.proofs.fresh.Goals as goal

pub returns-then-rule : goal.returns-then-rule
returns-then-rule c =
    let asked = c.args.rule in
    let known = rule_known asked c.if-rule.true in
    fresh-promise asked 0 c.blank.result (sym known.0) (rw known.1 c.blank.ensures)

pub returns : goal.returns
returns c =
    let asked = c.args.rule in
    let unknown = rule_unknown asked c.if-rule.false in
    fresh-promise asked 15 c.blank-2.result (sym unknown.0) (rw unknown.1 c.blank-2.ensures)
