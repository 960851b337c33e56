-- `word72_column::kind` meets its contract: each way out is one of the promise's five. Assumes nothing.
use Rattle.std.proofs.Common.{◌≡◌, true, sym, ◌∙◌, arith}
use Rattle.time_code.specs.Calendar.{in_span}
use Rattle.word72_column.proofs.Answers.{kind_refused_2, kind_refused_13, kind_named, kind_timed, kind_refused_6}
use Rattle.word72_column.proofs.kind.Goals as goal
use Rattle.word72_column.proofs.kind.Goals.{Else-not-in_span}

-- past the second test the year is in the span
spanned : (c : Else-not-in_span) → in_span c.args.year ≡ true
spanned c = sym c.in_span.ensures ∙ c.if-not-in_span.false

pub returns-then-column-ne-PLACES : goal.returns-then-column-ne-PLACES
returns-then-column-ne-PLACES c =
    let a = c.args in
    kind_refused_2 a.year a.column.now c.if-column-ne-PLACES.true

pub returns-then-not-in_span : goal.returns-then-not-in_span
returns-then-not-in_span c =
    let a = c.args in
    kind_refused_13 a.year a.column.now c.if-column-ne-PLACES.false (sym c.in_span.ensures ∙ c.if-not-in_span.true)

pub returns-then-identifier-ne0 : goal.returns-then-identifier-ne0
returns-then-identifier-ne0 c =
    let a = c.args in
    kind_named a.year a.column.now (omega arith) (spanned (goal.at.returns-then-identifier-ne0 c).Else-not-in_span) _ c.identifier-identifier.ensures c.if-identifier-ne0.true

pub returns-then-is_time : goal.returns-then-is_time
returns-then-is_time c =
    let a = c.args in
    kind_timed a.year a.column.now (omega arith) (spanned (goal.at.returns-then-is_time c).Else-not-in_span) (sym c.identifier-identifier.ensures ∙ c.if-identifier-ne0.false)
    (sym c.is_time.ensures ∙ c.if-is_time.true)

pub returns : goal.returns
returns c =
    let a = c.args in
    kind_refused_6 a.year a.column.now (omega arith) (spanned (goal.at.returns c).Else-not-in_span) (sym c.identifier-identifier.ensures ∙ c.if-identifier-ne0.false)
    (sym c.is_time.ensures ∙ c.if-is_time.false)
