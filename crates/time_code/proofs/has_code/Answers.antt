-- `time_code::has_code` meets its contract: the code joins the definition's tests in the definition's order. Assumes nothing.
use borrow.Author.Rules.{rules}
use Rattle.time_code.specs.Codec.{has_code}
use Rattle.time_code.proofs.has_code.Goals as goal

pub returns : goal.returns
unfolding has_code
returns c = search rules
