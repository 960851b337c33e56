-- `number_order::operators_in_order` meets its contract: above the wide bound the counts add up to more than the major frames. Assumes nothing.
use mathlib.Core.Path.{sym, ap}
use mathlib.Core.List.{List, [], ◌∷◌}
use Prim.Native.Nat.{ℕ}
use native.Mathlib.Omega.{arith}
use lib.Dec.{eqb}
use lib.ListN.{get_or}
use borrow.Author.Tests.{ne_eqb}
use Rattle.number_order.proofs.Joined.{each_within, sum_over}
use Rattle.number_order.proofs.operators_in_order.Goals as goal
use Rattle.number_order.proofs.operators_in_order.Goals.{Start}

abbrev n : Start → ℕ → ℕ
n s k = get_or s.args.n.now k 0

-- all but the first
abbrev others : Start → List ℕ
others s = n s 24 ∷ n s 25 ∷ n s 26 ∷ n s 27 ∷ n s 28 ∷ n s 29 ∷ n s 30 ∷ []

pub returns-then-n-gt-WIDE : goal.returns-then-n-gt-WIDE
returns-then-n-gt-WIDE c =
    let s = (goal.at.returns-then-n-gt-WIDE c).Start in
    sym (ne_eqb (n s 16) _ (λ e. omega (arith, sum_over (n s 23) (others s))))

pub overflow_add-result : goal.overflow_add-result
overflow_add-result c =
    let s = (goal.at.overflow_add-result c).Start in
    omega (arith, each_within _ (n s 23) (others s) c.if-n-gt-WIDE.false)

pub overflow_add-result-2 : goal.overflow_add-result-2
overflow_add-result-2 c =
    let s = (goal.at.overflow_add-result-2 c).Start in
    omega (arith, each_within _ (n s 23) (others s) c.if-n-gt-WIDE.false)

pub overflow_add-result-3 : goal.overflow_add-result-3
overflow_add-result-3 c =
    let s = (goal.at.overflow_add-result-3 c).Start in
    omega (arith, each_within _ (n s 23) (others s) c.if-n-gt-WIDE.false)

pub overflow_add-result-4 : goal.overflow_add-result-4
overflow_add-result-4 c =
    let s = (goal.at.overflow_add-result-4 c).Start in
    omega (arith, each_within _ (n s 23) (others s) c.if-n-gt-WIDE.false)

pub overflow_add-result-5 : goal.overflow_add-result-5
overflow_add-result-5 c =
    let s = (goal.at.overflow_add-result-5 c).Start in
    omega (arith, each_within _ (n s 23) (others s) c.if-n-gt-WIDE.false)

pub overflow_add-result-6 : goal.overflow_add-result-6
overflow_add-result-6 c =
    let s = (goal.at.overflow_add-result-6 c).Start in
    omega (arith, each_within _ (n s 23) (others s) c.if-n-gt-WIDE.false)

pub overflow_add-result-7 : goal.overflow_add-result-7
overflow_add-result-7 c =
    let s = (goal.at.overflow_add-result-7 c).Start in
    omega (arith, each_within _ (n s 23) (others s) c.if-n-gt-WIDE.false)

pub returns : goal.returns
returns c = let s = (goal.at.returns c).Start in ap (eqb (n s 16)) (omega arith)
