-- `word72_descriptions::line_of` meets its contract. Assumes nothing.
use native.Mathlib.Omega.{arith}
use borrow.Author.Tests.{lt-ltb, le-ltb}
use Rattle.word72_descriptions.proofs.Laws.{first_small}
use Rattle.word72_descriptions.proofs.line_of.Goals as goal

pub returns-then-item-gt-LAST_ITEM : goal.returns-then-item-gt-LAST_ITEM
returns-then-item-gt-LAST_ITEM c = rw (lt-ltb 61 _ c.if-item-gt-LAST_ITEM.true)

pub overflow_add-result : goal.overflow_add-result
overflow_add-result c = record { fits = omega (arith, c.first_line.ensures, first_small c.args.kind) }

pub returns : goal.returns
returns c = rw (le-ltb 61 _ c.if-item-gt-LAST_ITEM.false, ← c.first_line.ensures)
