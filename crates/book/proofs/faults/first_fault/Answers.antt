-- `book::faults::first_fault` meets its contract: the faults of the whole book, and then those of its entries. Assumes nothing.
use Rattle.std.proofs.Common.{sym, ap, ◌∙◌}
use Rattle.time_code.specs.Calendar.{in_span}
use Rattle.book.proofs.Ways.{short}
use Rattle.book.proofs.Viewing.{refused-13, refused-16}
use Rattle.book.proofs.faults.first_fault.Goals as goal

pub returns-then-bytes-lt-HEADER : goal.returns-then-bytes-lt-HEADER
returns-then-bytes-lt-HEADER c = c.of_the_whole.ensures ∙ short c.args.bytes.now c.if-bytes-lt-HEADER.true

pub returns-then-not-in_span : goal.returns-then-not-in_span
returns-then-not-in_span c =
    let b = c.args.bytes.now in
    c.of_the_whole-then-not-in_span.ensures
    ∙ refused-13 b c.if-bytes-lt-HEADER.false (sym (c.in_span.ensures ∙ ap in_span c.year_said.ensures) ∙ c.if-not-in_span.true)

pub returns-then-not-is_sized : goal.returns-then-not-is_sized
returns-then-not-is_sized c =
    let b = c.args.bytes.now in
    c.of_the_whole-then-not-is_sized.ensures
    ∙ refused-16 b c.if-bytes-lt-HEADER.false (sym (c.in_span.ensures ∙ ap in_span c.year_said.ensures) ∙ c.if-not-in_span.false)
    (sym c.is_sized.ensures ∙ c.if-not-is_sized.true)

pub first_entry_fault-requires : goal.first_entry_fault-requires
first_entry_fault-requires c =
    record {
      header = c.if-bytes-lt-HEADER.false;
      span = sym (c.in_span.ensures ∙ ap in_span c.year_said.ensures) ∙ c.if-not-in_span.false;
      sized = sym c.is_sized.ensures ∙ c.if-not-is_sized.false;
    }
