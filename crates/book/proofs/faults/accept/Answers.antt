-- `book::faults::accept` meets its contract: the first fault without its entry is the table's answer. Assumes nothing.
use native.Mathlib.Omega.{arith}
use Rattle.std.proofs.Common.{sym, ap, ◌∙◌}
use Rattle.book.specs.Faults.{fault_number}
use Rattle.book.proofs.Ways.{without_entry, number_by_first, answer_by_first}
use Rattle.book.proofs.faults.accept.Goals as goal

pub returns-in-Ok-clause-answer : goal.returns-in-Ok-clause-answer
returns-in-Ok-clause-answer c = ap without_entry (sym c.in-Ok.is) ∙ answer_by_first c.args.bytes.now (grind arith)

pub returns-in-Ok-clause-number : goal.returns-in-Ok-clause-number
returns-in-Ok-clause-number c = ap fault_number (sym c.in-Ok.is) ∙ number_by_first c.args.bytes.now (grind arith)

pub returns-in-Err-clause-answer : goal.returns-in-Err-clause-answer
returns-in-Err-clause-answer c = ap without_entry (sym c.in-Err.is) ∙ answer_by_first c.args.bytes.now (grind arith)

pub returns-in-Err-clause-number : goal.returns-in-Err-clause-number
returns-in-Err-clause-number c = ap fault_number (sym c.in-Err.is) ∙ number_by_first c.args.bytes.now (grind arith)
