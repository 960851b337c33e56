-- `relocking::begins_frame` meets its contract: the vote is that of the rule. Assumes nothing.
use mathlib.Core.Path.{◌∙◌}
use borrow.Author.Tests.{eq-eqb, ne_eqb}
use Rattle.labelling.specs.Votes.{rule_vote}
use Rattle.relocking.proofs.begins_frame.Goals as goal

pub returns-then-rule-eq2 : goal.returns-then-rule-eq2
unfolding rule_vote
returns-then-rule-eq2 c =
    c.is_first.ensures ∙ rw (c.vote_bits-by_bits.ensures.answer_is.word-is, eq-eqb c.args.rule 2 c.if-rule-eq2.true)

pub returns : goal.returns
unfolding rule_vote
returns c =
    c.is_first-2.ensures ∙ rw (c.vote-by_bytes.ensures.word-is, ne_eqb c.args.rule 2 c.if-rule-eq2.false)
