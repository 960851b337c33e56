-- `votes::vote_bits` meets its contract: the masks give 02's word. Assumes nothing.
use mathlib.Core.Path.{refl, ◌∙◌}
use borrow.Author.Tests.{ne_eqb}
use Rattle.labelling.specs.Words.{weak_copy}
use Rattle.labelling.proofs.Votes.{by_masks, masks_vote, masks_voted}
use Rattle.votes.proofs.vote_bits.Goals as goal

pub returns : goal.returns
unfolding weak_copy
returns c =
    let a = c.args in
    record {
      answer_is = record { word-is = masks_vote a.a a.b a.c; weak_is = c.weak_number.ensures };
      value = by_masks a.a a.b a.c;
      always_a_word = refl;
      by_bits = masks_voted a.a a.b a.c;
      none-weak = λ ab ac bc. c.weak_number.ensures ∙ rw (ne_eqb _ _ ab, ne_eqb _ _ ac, ne_eqb _ _ bc);
    }
