-- `number_order::groups_in_order` meets its contract: within the wide bound the sum does not run over, and above it no sum holds. Assumes nothing.
use native.Mathlib.Omega.{arith}
use Rattle.tally_numbers.specs.Numbers.{groups_of}
use Rattle.number_order.proofs.Sums.{groups_refused, groups_passed, groups_sum}
use Rattle.number_order.proofs.groups_in_order.Goals as goal

pub returns-then-n : goal.returns-then-n
returns-then-n c = groups_refused _ (groups_of c.args.n.now) (omega arith) c.if-n.true

pub overflow_add-result : goal.overflow_add-result
overflow_add-result c = let p = groups_passed _ (groups_of c.args.n.now) c.if-n.false in omega arith

pub overflow_add-result-2 : goal.overflow_add-result-2
overflow_add-result-2 c = let p = groups_passed _ (groups_of c.args.n.now) c.if-n.false in omega arith

pub overflow_mul-result : goal.overflow_mul-result
overflow_mul-result c = let p = groups_passed _ (groups_of c.args.n.now) c.if-n.false in omega arith

pub overflow_add-result-3 : goal.overflow_add-result-3
overflow_add-result-3 c = let p = groups_passed _ (groups_of c.args.n.now) c.if-n.false in omega arith

pub overflow_add-result-4 : goal.overflow_add-result-4
overflow_add-result-4 c = let p = groups_passed _ (groups_of c.args.n.now) c.if-n.false in omega arith

pub returns : goal.returns
returns c =
    let g = groups_of c.args.n.now in
    let p = groups_passed _ g c.if-n.false in
    groups_sum g p.0 p.2 (omega arith)
