-- `number_order::weak_in_order` meets its contract: above the wide bound there are more weak copies than voted groups. Assumes nothing.
use mathlib.Core.Path.{refl, sym}
use mathlib.Core.List.{[], ◌∷◌}
use Prim.Native.Nat.{ℕ, ◌+◌}
use native.Mathlib.Omega.{arith}
use lib.ListN.{get_or}
use borrow.Author.Tests.{lt-leb}
use Rattle.number_order.proofs.Joined.{each_within, sum_over}
use Rattle.number_order.proofs.weak_in_order.Goals as goal
use Rattle.number_order.proofs.weak_in_order.Goals.{Start}

abbrev n : Start → ℕ → ℕ
n s k = get_or s.args.n.now k 0

pub returns-then-n-gt-WIDE : goal.returns-then-n-gt-WIDE
returns-then-n-gt-WIDE c =
    let s = (goal.at.returns-then-n-gt-WIDE c).Start in
    sym (lt-leb (n s 20 + n s 21 + n s 22) (n s 3) (omega (arith, sum_over (n s 20) (n s 21 ∷ n s 22 ∷ []))))

pub overflow_add-result : goal.overflow_add-result
overflow_add-result c =
    let s = (goal.at.overflow_add-result c).Start in
    omega (arith, each_within _ (n s 20) (n s 21 ∷ n s 22 ∷ []) c.if-n-gt-WIDE.false)

pub overflow_add-result-2 : goal.overflow_add-result-2
overflow_add-result-2 c =
    let s = (goal.at.overflow_add-result-2 c).Start in
    omega (arith, each_within _ (n s 20) (n s 21 ∷ n s 22 ∷ []) c.if-n-gt-WIDE.false)

pub returns : goal.returns
returns c = refl
