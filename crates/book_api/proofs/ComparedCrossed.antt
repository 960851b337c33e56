-- What `book_compare::compare` promises, said of what crosses: the lent number is a function of the answer. Assumes nothing.
use Rattle.std.proofs.Common.{◌≡◌, ap, ◌∙◌, List, ℕ, length, Result}
use Rattle.base.specs.declared.refusal.Refusal.{Refusal}
use Rattle.base.specs.Refusals.{number_of, given_or}
use Rattle.base.proofs.Lines.{numbered}
use Rattle.book_compare.specs.Answer.{compare_lines}
use Rattle.book_compare.specs.Promise.{ComparePromise}
use Rattle.book_api.specs.Comparing.{CompareCrossed}

pub compare_crossed : (a b table new : List ℕ) (r : Result ℕ Refusal) (n old lines : ℕ) → ComparePromise a b table new r → n ≡ number_of r
    → lines ≡ given_or old r → CompareCrossed a b n table new old lines
compare_crossed a b table new r n old lines p k is = record {
  refusal_is = k ∙ ap number_of p.answer ∙ numbered (compare_lines a b table) (length p.differences);
  compared = r;
  promised = p;
  lines_are = is;
}
