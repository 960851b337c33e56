-- `votes::vote_by` meets its contract: the rule picks the vote. Assumes nothing.
use borrow.Author.Tests.{eq-eqb, ne_eqb}
use Rattle.labelling.specs.Votes.{rule_vote}
use Rattle.votes.proofs.vote_by.Goals as goal

pub returns-then-rule-eq-BY_BITS : goal.returns-then-rule-eq-BY_BITS
unfolding rule_vote
returns-then-rule-eq-BY_BITS c = rw (eq-eqb _ _ c.if-rule-eq-BY_BITS.true) c.vote_bits.ensures.answer_is

pub returns : goal.returns
unfolding rule_vote
returns c = rw (ne_eqb _ _ c.if-rule-eq-BY_BITS.false) c.vote.ensures
