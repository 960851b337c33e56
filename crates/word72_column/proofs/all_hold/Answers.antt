-- `word72_column::all_hold` meets its contract: the bytes pass the test one by one. Assumes nothing.
use Rattle.std.proofs.Common.{◌≡◌, rules, tests}
use Rattle.std.proofs.lemmas.Iterator.{cases_from_all, YieldsList-from_slice}
use Rattle.word72_column.proofs.Words.{tested}
use Rattle.word72_column.proofs.all_hold.Goals as goal

pub returns : goal.returns
returns c =
    let a = c.args in
    tested a.b a.bytes.now c.all.result
    (cases_from_all _ _ _ (λ x. x ≡ a.b) (λ x. x ≡ a.b → ⊥) c.all.ensures.ran (YieldsList-from_slice a.bytes.now cc)
    (λ x q k. search (rules, tests)) (λ x q k. search (rules, tests)))
