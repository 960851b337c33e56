-- `book_writer::permit_contents` meets its contract: its tests are those of the list of faults, as far as they can hold. Assumes nothing.
use Rattle.std.proofs.Common.{sym, ◌∙◌}
use Rattle.book_writer.proofs.Answers.{refused-13, refused-16, refused-17, refused-18, none-refused}
use Rattle.book_writer.proofs.permit_contents.Goals as goal

pub returns-then-not-in_span : goal.returns-then-not-in_span
returns-then-not-in_span c =
    refused-13 c.args.year c.args.bodies.now c.args.n c.requires (sym c.in_span.ensures ∙ c.if-not-in_span.true)

pub returns-then-n-gt-MOST_CYCLES : goal.returns-then-n-gt-MOST_CYCLES
returns-then-n-gt-MOST_CYCLES c =
    let span = sym c.in_span.ensures ∙ c.if-not-in_span.false in
    refused-16 c.args.year c.args.bodies.now c.args.n c.requires span c.if-n-gt-MOST_CYCLES.true

pub returns-then-is_some : goal.returns-then-is_some
returns-then-is_some c =
    let span = sym c.in_span.ensures ∙ c.if-not-in_span.false in
    refused-17 c.args.year c.args.bodies.now c.args.n c.requires span c.if-n-gt-MOST_CYCLES.false _ c.first_bad_body.ensures
    (sym c.is_some.ensures ∙ c.if-is_some.true)

pub returns-then-is_some-2 : goal.returns-then-is_some-2
returns-then-is_some-2 c =
    let span = sym c.in_span.ensures ∙ c.if-not-in_span.false in
    refused-18 c.args.year c.args.bodies.now c.args.n c.requires span c.if-n-gt-MOST_CYCLES.false _ c.first_bad_body.ensures
    (sym c.is_some.ensures ∙ c.if-is_some.false) _ c.first_falling.ensures (sym c.is_some-2.ensures ∙ c.if-is_some-2.true)

pub returns : goal.returns
returns c =
    let span = sym c.in_span.ensures ∙ c.if-not-in_span.false in
    none-refused c.args.year c.args.bodies.now c.args.n c.requires span c.if-n-gt-MOST_CYCLES.false _ c.first_bad_body.ensures
    (sym c.is_some.ensures ∙ c.if-is_some.false) _ c.first_falling.ensures (sym c.is_some-2.ensures ∙ c.if-is_some-2.false)
