use native.Mathlib.Omega.{arith}
use Rattle.book.proofs.Headers.{count-is, few_cycles}
use Rattle.book_compare.proofs.Merging.{begun, no_line, one_line, ended, placed_on}
use borrow.Author.Rules.{rules}
use Rattle.std.proofs.Common.{◌≡◌, None}
use Rattle.book_compare.proofs.merge.put_lines.Goals as goal

pub overflow_add-end : goal.overflow_add-end
overflow_add-end c =
    let n = count-is _ c.requires.0.first_sized _ c.cycles.ensures in
    let m = count-is _ c.requires.0.second_sized _ c.cycles-2.ensures in
    let few = few_cycles _ c.requires.0.first_sized in
    let few-2 = few_cycles _ c.requires.0.second_sized in
    omega arith

pub loop-i-init : goal.loop-i-init
loop-i-init c = (c.requires.0, omega arith, search rules, begun _ _ _)

pub overflow_add-i : goal.overflow_add-i
overflow_add-i c =
    let placed = c.loop-i.invariant.0 in
    let few = few_cycles _ placed.first_sized in
    let few-2 = few_cycles _ placed.second_sized in
    omega arith

pub next_step-s-requires : goal.next_step-s-requires
next_step-s-requires c =
    let placed = c.loop-i.invariant.0 in
    let n = count-is _ placed.first_sized _ c.cycles.ensures in
    let m = count-is _ placed.second_sized _ c.cycles-2.ensures in
    (placed, omega arith)

pub put_line-requires : goal.put_line-requires
put_line-requires c =
    let placed = c.loop-i.invariant.0 in
    let n = count-is _ placed.first_sized _ c.cycles.ensures in
    let m = count-is _ placed.second_sized _ c.cycles-2.ensures in
    let few = few_cycles _ placed.first_sized in
    let few-2 = few_cycles _ placed.second_sized in
    let lines = c.loop-i.invariant in
    omega arith

pub overflow_add-k : goal.overflow_add-k
overflow_add-k c =
    let few = few_cycles _ c.loop-i.invariant.0.first_sized in
    let few-2 = few_cycles _ c.loop-i.invariant.0.second_sized in
    let placed = c.loop-i.invariant.0 in
    let lines = c.loop-i.invariant in
    omega arith

pub loop-i-smaller-in-Some : goal.loop-i-smaller-in-Some
loop-i-smaller-in-Some c =
    let on = c.next_step-s.ensures in
    let more = c.loop-i-test.true in
    omega arith

pub loop-i-preserved-in-Some : goal.loop-i-preserved-in-Some
loop-i-preserved-in-Some c =
    let on = c.next_step-s.ensures in
    let lines = c.loop-i.invariant in (
      placed_on _ _ _ _ _ lines.0 on,
      omega arith,
      search rules,
      one_line _ _ _ _ _ _ _ _ on lines.3 _ c.in-Some.is _ c.put_line.ensures,
    )

pub loop-i-smaller : goal.loop-i-smaller
loop-i-smaller c =
    let on = c.next_step-s.ensures in
    let more = c.loop-i-test.true in
    omega arith

pub loop-i-preserved : goal.loop-i-preserved
loop-i-preserved c =
    let on = c.next_step-s.ensures in
    let lines = c.loop-i.invariant in
    let none : c.next_step-s.result.line ≡ None = search rules in
    (placed_on _ _ _ _ _ lines.0 on, omega arith, lines.2, no_line _ _ _ _ _ _ _ _ on lines.3 none)

pub returns : goal.returns
returns c =
    let placed = c.loop-i.invariant.0 in
    let n = count-is _ placed.first_sized _ c.cycles.ensures in
    let m = count-is _ placed.second_sized _ c.cycles-2.ensures in
    let done = c.loop-i-test.false in
    ended _ _ _ _ _ _ _ (omega arith) (omega arith) c.loop-i.invariant.3
