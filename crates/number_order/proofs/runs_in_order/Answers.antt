-- `number_order::runs_in_order` meets its contract: within the wide bound the sum does not run over, and above it no sum holds. Assumes nothing.
use native.Mathlib.Omega.{arith}
use Prim.Native.Nat.{ℕ}
use Rattle.labelling.specs.declared.Runs.{Runs}
use Rattle.tally_numbers.specs.Numbers.{framing_of, runs_of}
use Rattle.number_order.proofs.Sums.{runs-refused, runs-passed, runs-sum}
use Rattle.number_order.proofs.runs_in_order.Goals as goal
use Rattle.number_order.proofs.runs_in_order.Goals.{Start}

abbrev good : Start → ℕ
good s = (framing_of s.args.n.now).good

abbrev r : Start → Runs
r s = runs_of s.args.n.now

pub returns-then-n : goal.returns-then-n
returns-then-n c = let s = (goal.at.returns-then-n c).Start in runs-refused _ (good s) (r s) (omega arith) c.if-n.true

pub overflow_mul-result : goal.overflow_mul-result
overflow_mul-result c = let s = (goal.at.overflow_mul-result c).Start in let p = runs-passed _ (good s) (r s) c.if-n.false in omega arith

pub overflow_add-result : goal.overflow_add-result
overflow_add-result c = let s = (goal.at.overflow_add-result c).Start in let p = runs-passed _ (good s) (r s) c.if-n.false in omega arith

pub overflow_add-result-2 : goal.overflow_add-result-2
overflow_add-result-2 c = let s = (goal.at.overflow_add-result-2 c).Start in let p = runs-passed _ (good s) (r s) c.if-n.false in omega arith

pub overflow_add-result-3 : goal.overflow_add-result-3
overflow_add-result-3 c = let s = (goal.at.overflow_add-result-3 c).Start in let p = runs-passed _ (good s) (r s) c.if-n.false in omega arith

pub returns : goal.returns
returns c =
    let s = (goal.at.returns c).Start in
    let p = runs-passed _ (good s) (r s) c.if-n.false in
    runs-sum (good s) (r s) p.1
