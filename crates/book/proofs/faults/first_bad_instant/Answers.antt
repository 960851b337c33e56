-- `book::faults::first_bad_instant` meets its contract: a search from the lowest on. Assumes nothing.
use Rattle.std.proofs.Common.{◌≡◌, true, false, rules}
use Rattle.std.proofs.lemmas.Iterator.{first_from_Range}
use Rattle.book.specs.Faults.{contents, bad_instant}
use Rattle.book.proofs.Searches.{found}
use Rattle.book.proofs.faults.first_bad_instant.Goals as goal

pub returns : goal.returns
returns c =
    let bad = bad_instant (contents c.args.bytes.now) in
    found bad c.args.n _
    (first_from_Range _ _ _ _ (λ i. bad i ≡ true) (λ i. bad i ≡ false) c.find.ensures.ran (λ x q k. search rules) (λ x q k. search rules))
