-- `voted::votes::by_masks` meets its contract: where two copies are equal the masks give their byte. Assumes nothing.
use mathlib.Core.Path.{sym}
use Rattle.labelling.proofs.Votes.{masks_voted}
use Rattle.voted.proofs.votes.by_masks.Goals as goal

pub returns : goal.returns
returns c = λ v. sym ((masks_voted c.args.a c.args.b c.args.c).as_by_bytes _ v)
