-- `pcd_book_compare::differences::put_line` meets its contract, case by case. Assumes nothing.
use Rattle.command.proofs.TextLaws.{adds_append}
use borrow.Author.Tests.{eq-eqb, ne_eqb}
use borrow.Author.Rules.{rules}
use Rattle.pcd_book_compare.proofs.differences.put_line.Goals as goal

pub returns-then-case-eq-ONLY_FIRST : goal.returns-then-case-eq-ONLY_FIRST
returns-then-case-eq-ONLY_FIRST c = rw (eq-eqb _ 1 c.if-case-eq-ONLY_FIRST.true) (search (rules, adds_append))

pub returns-then-case-eq-ONLY_SECOND : goal.returns-then-case-eq-ONLY_SECOND
returns-then-case-eq-ONLY_SECOND c =
    rw (ne_eqb _ 1 c.if-case-eq-ONLY_FIRST.false, eq-eqb _ 2 c.if-case-eq-ONLY_SECOND.true) (search (rules, adds_append))

pub returns : goal.returns
returns c =
    rw (ne_eqb _ 1 c.if-case-eq-ONLY_FIRST.false, ne_eqb _ 2 c.if-case-eq-ONLY_SECOND.false)
    (adds_append (adds_append c.put_field-timed.ensures c.put_field-placed.ensures) c.put-2.ensures)
