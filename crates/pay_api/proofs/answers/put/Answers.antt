-- `pay_api::answers::put` meets its contract: nothing is stored, or the two numbers one behind the other. Assumes nothing.
use native.Mathlib.Omega.{arith}
use Rattle.pay_api.proofs.Stores.{wrong-length, put}
use Rattle.pay_api.proofs.answers.put.Goals as goal

pub returns-then-answer-ne-ANSWER : goal.returns-then-answer-ne-ANSWER
returns-then-answer-ne-ANSWER c = rw c.number.ensures (wrong-length _ _ _ (λ whole. omega arith))

pub returns : goal.returns
returns c =
    let a = c.args in
    rw (← c.pass-number.ensures.code, ← c.pass-number.ensures.out, ← c.from.ensures) (put _ _ a.answer.now _ _ (omega arith) c.write.ensures c.write-2.ensures)
