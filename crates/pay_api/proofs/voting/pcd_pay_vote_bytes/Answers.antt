-- `pay_api::voting::pcd_pay_vote_bytes` meets its contract: the word is that of the vote. Assumes nothing.
use mathlib.Core.Path.{refl, ap}
use Rattle.pay_api.specs.Entries.{word_result}
use Rattle.pay_api.proofs.Results.{said}
use Rattle.pay_api.proofs.voting.pcd_pay_vote_bytes.Goals as goal

pub returns : goal.returns
returns c = said refl (ap word_result c.vote.ensures.word-is) c.put_word.ensures
