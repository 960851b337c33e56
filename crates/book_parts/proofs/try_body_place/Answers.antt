-- `book_parts::try_body_place` meets its contract: where it is not refused, the book has that body. Assumes nothing.
use Rattle.std.proofs.Common.{sym, ap, ◌∙◌, ◌≡◌, Err, ℕ, rules}
use native.Mathlib.Omega.{arith}
use Rattle.book.specs.Layout.{body_start}
use Rattle.book_parts.proofs.Places.{there, counted, body_refused, body-there}
use Rattle.book_parts.proofs.try_body_place.Goals as goal

pub returns-in_err-n : goal.returns-in_err-n
returns-in_err-n c =
    let same : c.from_residual.result ≡ Err c.in_err-n.field-0.0 = search rules in
    rw same (body_refused _ _ _ (sym c.cycles_past.ensures ∙ c.in_err-n.was))

pub overflow_cast-n : goal.overflow_cast-n
overflow_cast-n c =
    let is = sym c.cycles_past.ensures ∙ c.in_ok-n.was in
    let n = counted _ _ _ is in
    let s = (there _ _ _ is).size in
    record { fits = omega arith }

pub overflow_cast-i : goal.overflow_cast-i
overflow_cast-i c =
    let t = there _ _ _ (sym c.cycles_past.ensures ∙ c.in_ok-n.was) in
    let s = t.size in
    let l = t.below in
    record { fits = omega arith }

pub returns : goal.returns
returns c =
    let is = sym c.cycles_past.ensures ∙ c.in_ok-n.was in
    body-there _ _ (there _ _ _ is) _ (c.body_start.ensures ∙ ap (λ (n : ℕ). body_start n c.args.i) (sym (counted _ _ _ is)))
