-- `word72_column::gather` meets its contract: each way out is one of the three. Assumes nothing.
use Rattle.std.proofs.Common.{arith}
use Rattle.word72_column.proofs.Answers.{wrong-area, wrong-column, all-gathered}
use Rattle.word72_column.proofs.gather.Goals as goal

pub returns-then-area-ne-MAJOR_FRAME : goal.returns-then-area-ne-MAJOR_FRAME
returns-then-area-ne-MAJOR_FRAME c =
    let w = wrong-area _ c.args.column.now c.if-area-ne-MAJOR_FRAME.true in
    record { answer = w.answer; promise = w.promise }

pub returns-then-column-ne-PLACES : goal.returns-then-column-ne-PLACES
returns-then-column-ne-PLACES c =
    let w = wrong-column c.args.area.now _ (omega arith) c.if-column-ne-PLACES.true in
    record { answer = w.answer; promise = w.promise }

pub returns : goal.returns
returns c =
    let w = all-gathered _ c.args.column.now _ (omega arith) (omega arith) c.put_words.ensures in
    record { answer = w.answer; promise = w.promise }
