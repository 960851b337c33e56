-- `number_order::framing_in_order` meets its contract: within the wide bound the sum does not run over, and above it no sum holds. Assumes nothing.
use Prim.Native.Nat.{ℕ, ◌+◌}
use native.Mathlib.Omega.{arith}
use Rattle.labelling.specs.declared.Framing.{Framing}
use Rattle.tally_numbers.specs.Numbers.{groups_of, framing_of}
use Rattle.number_order.proofs.Sums.{framing_refused, framing_passed, framing_sum}
use Rattle.number_order.proofs.framing_in_order.Goals as goal
use Rattle.number_order.proofs.framing_in_order.Goals.{Start}

abbrev words : Start → ℕ
words s = (groups_of s.args.n.now).voted + (groups_of s.args.n.now).split

abbrev f : Start → Framing
f s = framing_of s.args.n.now

pub returns-then-n : goal.returns-then-n
returns-then-n c = let s = (goal.at.returns-then-n c).Start in framing_refused _ (words s) (f s) (omega arith) c.if-n.true

pub overflow_add-result-2 : goal.overflow_add-result-2
overflow_add-result-2 c = let s = (goal.at.overflow_add-result-2 c).Start in let p = framing_passed _ (words s) (f s) c.if-n.false in omega arith

pub overflow_add-result-3 : goal.overflow_add-result-3
overflow_add-result-3 c = let s = (goal.at.overflow_add-result-3 c).Start in let p = framing_passed _ (words s) (f s) c.if-n.false in omega arith

pub overflow_mul-result : goal.overflow_mul-result
overflow_mul-result c = let s = (goal.at.overflow_mul-result c).Start in let p = framing_passed _ (words s) (f s) c.if-n.false in omega arith

pub overflow_add-result-4 : goal.overflow_add-result-4
overflow_add-result-4 c = let s = (goal.at.overflow_add-result-4 c).Start in let p = framing_passed _ (words s) (f s) c.if-n.false in omega arith

pub overflow_add-result-5 : goal.overflow_add-result-5
overflow_add-result-5 c = let s = (goal.at.overflow_add-result-5 c).Start in let p = framing_passed _ (words s) (f s) c.if-n.false in omega arith

pub returns : goal.returns
returns c =
    let s = (goal.at.returns c).Start in
    let p = framing_passed _ (words s) (f s) c.if-n.false in
    framing_sum (words s) (f s) p.1 p.2
