-- `subcom::read` meets its contract: the item's bytes suit its form and read as the definition says; a refused request is refused as
-- `part` is. Assumes nothing.
use Rattle.std.proofs.Common.{◌≡◌, true, sym, ◌∙◌, Err, arith, rules}
use Rattle.time_code.specs.Calendar.{in_span}
use Rattle.word72_items.proofs.Answers.{to-told}
use Rattle.subcom.proofs.Requests.{read_short, read-outside, read-refused, read_found}
use Rattle.subcom.proofs.read.Goals as goal
use Rattle.subcom.proofs.read.Goals.{Else-not-in_span}

-- past the second test the year is in the span
spanned : (c : Else-not-in_span) → in_span c.args.year ≡ true
spanned c = sym c.in_span.ensures ∙ c.if-not-in_span.false

pub returns-then-column-ne-PLACES : goal.returns-then-column-ne-PLACES
returns-then-column-ne-PLACES c =
    let a = c.args in
    read_short a.year a.column.now a.kind a.item c.if-column-ne-PLACES.true

pub returns-then-not-in_span : goal.returns-then-not-in_span
returns-then-not-in_span c =
    let a = c.args in
    read-outside a.year a.column.now a.kind a.item c.if-column-ne-PLACES.false (sym c.in_span.ensures ∙ c.if-not-in_span.true)

pub returns-in_err-found : goal.returns-in_err-found
returns-in_err-found c =
    let a = c.args in
    let refused : c.from_residual.result ≡ Err c.in_err-found.field-0.0 = search rules in
    rw refused
    (read-refused a.year a.column.now a.kind a.item (omega arith) (spanned (goal.at.returns-in_err-found c).Else-not-in_span) _
    c.in_err-found.ensures)

pub overflow_add-end : goal.overflow_add-end
overflow_add-end c =
    let S = (to-told _ _ _ c.in_ok-found.ensures).sound in
    record { fits = omega arith }

pub slice_bounds-read_as-end : goal.slice_bounds-read_as-end
slice_bounds-read_as-end c =
    let S = (to-told _ _ _ c.in_ok-found.ensures).sound in
    search rules

pub returns : goal.returns
returns c =
    let a = c.args in
    read_found a.year a.column.now a.kind a.item (omega arith) (spanned (goal.at.returns c).Else-not-in_span) _ _ c.in_ok-found.ensures
    c.read_as.ensures
