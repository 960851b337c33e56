-- `cycle_records::check_cycle` meets its contract: each test is a line of the table. Assumes nothing.
use Rattle.std.proofs.Common.{sym, ◌∙◌}
use borrow.Author.Tests.{ne_eqb, le-leb, lt-leb}
use Rattle.cycle_records.proofs.check_cycle.Goals as goal

pub returns-then-body-ne-CYCLE : goal.returns-then-body-ne-CYCLE
returns-then-body-ne-CYCLE c = rw (ne_eqb _ 65536 c.if-body-ne-CYCLE.true)

pub returns-then-not-in_span : goal.returns-then-not-in_span
returns-then-not-in_span c = rw (c.if-body-ne-CYCLE.false, sym c.in_span.ensures ∙ c.if-not-in_span.true)

pub returns-then-k-gt-LAST_FRAME : goal.returns-then-k-gt-LAST_FRAME
returns-then-k-gt-LAST_FRAME c =
    rw (c.if-body-ne-CYCLE.false, sym c.in_span.ensures ∙ c.if-not-in_span.false, lt-leb _ 3 c.if-k-gt-LAST_FRAME.true)

pub returns-then-not-is_cycle : goal.returns-then-not-is_cycle
returns-then-not-is_cycle c =
    rw (c.if-body-ne-CYCLE.false, sym c.in_span.ensures ∙ c.if-not-in_span.false, le-leb _ 3 c.if-k-gt-LAST_FRAME.false)
    (rw (sym c.is_cycle.ensures ∙ c.if-not-is_cycle.true))

pub returns : goal.returns
returns c =
    rw (c.if-body-ne-CYCLE.false, sym c.in_span.ensures ∙ c.if-not-in_span.false, le-leb _ 3 c.if-k-gt-LAST_FRAME.false)
    (rw (sym c.is_cycle.ensures ∙ c.if-not-is_cycle.false))
