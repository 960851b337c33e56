-- `book_parts::try_entry_place` meets its contract: where it is not refused, the book has that entry. Assumes nothing.
use Rattle.std.proofs.Common.{sym, ◌∙◌, ◌≡◌, Err, rules}
use native.Mathlib.Omega.{arith}
use Rattle.book_parts.proofs.Places.{there, entry-refused, entry-there}
use Rattle.book_parts.proofs.try_entry_place.Goals as goal

pub returns-in_err-cycles_past : goal.returns-in_err-cycles_past
returns-in_err-cycles_past c =
    let same : c.from_residual.result ≡ Err c.in_err-cycles_past.field-0.0 = search rules in
    rw same (entry-refused _ _ _ (sym c.cycles_past.ensures ∙ c.in_err-cycles_past.was))

pub overflow_mul-result : goal.overflow_mul-result
overflow_mul-result c = let t = there _ _ _ (sym c.cycles_past.ensures ∙ c.in_ok-cycles_past.was) in let s = t.size in let l = t.below in record { fits = omega arith }

pub overflow_add-result : goal.overflow_add-result
overflow_add-result c = let t = there _ _ _ (sym c.cycles_past.ensures ∙ c.in_ok-cycles_past.was) in let s = t.size in let l = t.below in record { fits = omega arith }

pub returns : goal.returns
returns c = entry-there _ _ (there _ _ _ (sym c.cycles_past.ensures ∙ c.in_ok-cycles_past.was))
