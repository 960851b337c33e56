-- `pay_api::voting::put_word` meets its contract: each arm is a case of the word. Assumes nothing.
use mathlib.Core.Path.{ap}
use native.Mathlib.Omega.{arith}
use Rattle.pay_api.specs.Entries.{word_result}
use Rattle.pay_api.proofs.Results.{said}
use Rattle.pay_api.proofs.voting.put_word.Goals as goal

pub returns-in-Voted : goal.returns-in-Voted
returns-in-Voted c = said (omega arith) (omega (arith, ap word_result c.in-Voted.is)) c.put.ensures

pub returns-in-Erased : goal.returns-in-Erased
returns-in-Erased c =
    said (omega arith) (omega (arith, ap word_result c.in-Erased.is)) c.put-in-Erased.ensures
