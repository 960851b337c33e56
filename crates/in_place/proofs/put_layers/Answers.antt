-- `in_place::put_layers` meets its contract: the numbers of the layers, and one more in a paid count or not. Assumes nothing.
use mathlib.Core.Path.{◌≡◌, ap, ◌∙◌}
use mathlib.Core.List.{List}
use Prim.Native.Nat.{ℕ, ◌+◌}
use native.Mathlib.Omega.{arith}
use lib.ListN.{get_or, set}
use Rattle.tally_numbers.specs.Numbers.{operators_of}
use Rattle.in_place.proofs.Laws.{with_layers, paid-within, payment, no_payment}
use Rattle.in_place.proofs.put_layers.Goals as goal
use Rattle.in_place.proofs.put_layers.Goals.{After-put_counts}

module _ (c : After-put_counts) where
  -- what is put back before the payment
  put_back : c.put_counts.new.n ≡ with_layers c.args.n.now c.args.l (operators_of c.args.n.now)
  put_back =
      c.put_counts.ensures ∙ ap (with_layers c.args.n.now c.args.l) c.operators_of-operators.ensures

pub overflow_add-n : goal.overflow_add-n
overflow_add-n c =
    let place = 23 + get_or c.args.n.now 31 0 in
    omega (arith, ap (λ (m : List ℕ). get_or m place 0) (put_back (goal.at.overflow_add-n c).After-put_counts), paid-within c.args.n.now c.requires c.args.l)

pub returns-then-complete : goal.returns-then-complete
returns-then-complete c =
    let place = 23 + get_or c.args.n.now 31 0 in
    rw c.if-complete.true
    (ap (λ (m : List ℕ). set m place (get_or m place 0 + 1)) (put_back (goal.at.returns-then-complete c).After-put_counts) ∙ payment c.args.n.now c.requires c.args.l)

pub returns-else-complete : goal.returns-else-complete
returns-else-complete c =
    rw c.if-complete.false (put_back (goal.at.returns-else-complete c).After-put_counts ∙ no_payment c.args.n.now c.requires c.args.l)
