-- `book_compare::compare` meets its contract: each way out is a line of the refusal table, or all of the merge. What the borrow checker knows
-- of the two lent slices, that their elements are bytes, makes a book the one of its year and its cycles. Assumes nothing.
use Rattle.std.proofs.Common.{◌≡◌, Err, sym, ◌∙◌, rules}
use native.Mathlib.Omega.{arith}
use Rattle.book.proofs.Ways.{accepted-none}
use Rattle.book_compare.proofs.Promises.{wrong-table, first-faulty, second-faulty, placed_first, other-years, lines-put}
use Rattle.book_compare.proofs.compare.Goals as goal

pub returns-then-table-ne-TABLE : goal.returns-then-table-ne-TABLE
returns-then-table-ne-TABLE c =
    wrong-table _ _ _ (λ i. omega (arith, c.type_inv.first i)) (λ i. omega (arith, c.type_inv.second i))
    c.if-table-ne-TABLE.true

pub returns-in_err-accept : goal.returns-in_err-accept
returns-in_err-accept c =
    let same : c.from_residual.result ≡ Err c.in_err-accept.field-0.0 = search rules in
    rw same
    (first-faulty _ _ _ (λ i. omega (arith, c.type_inv.first i)) (λ i. omega (arith, c.type_inv.second i))
    c.if-table-ne-TABLE.false _ (sym c.accept.ensures.answer ∙ c.in_err-accept.was))

pub returns-in_err-accept-2 : goal.returns-in_err-accept-2
returns-in_err-accept-2 c =
    let same : c.from_residual-in_err-accept-2.result ≡ Err c.in_err-accept-2.field-0.0 = search rules in
    rw same
    (second-faulty _ _ _ (λ i. omega (arith, c.type_inv.first i)) (λ i. omega (arith, c.type_inv.second i))
    c.if-table-ne-TABLE.false (sym c.accept.ensures.answer ∙ c.in_ok-accept.was) _ (sym c.accept-2.ensures.answer ∙ c.in_err-accept-2.was))

pub returns-then-year : goal.returns-then-year
returns-then-year c =
    other-years _ _ _ (λ i. omega (arith, c.type_inv.first i)) (λ i. omega (arith, c.type_inv.second i))
    c.if-table-ne-TABLE.false (sym c.accept.ensures.answer ∙ c.in_ok-accept.was) (sym c.accept-2.ensures.answer ∙ c.in_ok-accept-2.was) _ _
    c.year.ensures c.year-2.ensures c.if-year.true

pub put_lines-requires : goal.put_lines-requires
put_lines-requires c =
    let placed =
    placed_first _ _ (accepted-none _ (sym c.accept.ensures.answer ∙ c.in_ok-accept.was))
    (accepted-none _ (sym c.accept-2.ensures.answer ∙ c.in_ok-accept-2.was)) in
    (placed, c.if-table-ne-TABLE.false)

pub returns : goal.returns
returns c =
    lines-put _ _ _ (λ i. omega (arith, c.type_inv.first i)) (λ i. omega (arith, c.type_inv.second i))
    c.if-table-ne-TABLE.false (sym c.accept.ensures.answer ∙ c.in_ok-accept.was) (sym c.accept-2.ensures.answer ∙ c.in_ok-accept-2.was) _ _
    c.year.ensures c.year-2.ensures _ _ c.if-year.false c.put_lines.ensures
