-- `duty::change_duty` meets its contract: its tests are the refusal table's, in the table's order. Assumes nothing.
use mathlib.Core.Path.{◌≡◌, refl, sym, ◌∙◌}
use mathlib.Core.Bool.{true, false}
use native.Mathlib.Omega.{arith}
use Rattle.base.specs.declared.refusal.Refusal.TheVariants.{NotInOrder, NoSuchOperator}
use Rattle.labelling.specs.Order.{in_order}
use Rattle.labelling.proofs.CallLaws.{duty_not_in_order, no_such_operator, duty_no_refusal}
use Rattle.duty.proofs.Answers.{unchanged, changed}
use Rattle.duty.proofs.change_duty.Goals as goal
use Rattle.duty.proofs.change_duty.Goals.{Else-not-in_order}

pub returns-then-not-in_order : goal.returns-then-not-in_order
returns-then-not-in_order c =
    let a = c.args in
    let out : in_order a.t ≡ false = sym c.in_order.ensures ∙ c.if-not-in_order.true in
    unchanged NotInOrder 0 refl (duty_not_in_order a.t a.operator out)

-- past the first test the tally is in order
module _ (c : Else-not-in_order) where
  ordered : in_order c.args.t ≡ true
  ordered = sym c.in_order.ensures ∙ c.if-not-in_order.false

pub returns-then-operator-gt-LAST_OPERATOR : goal.returns-then-operator-gt-LAST_OPERATOR
returns-then-operator-gt-LAST_OPERATOR c =
    let a = c.args in
    unchanged NoSuchOperator 13 refl (no_such_operator a.t a.operator (ordered (goal.at.returns-then-operator-gt-LAST_OPERATOR c).Else-not-in_order) (omega (arith, c.if-operator-gt-LAST_OPERATOR.true)))

pub returns : goal.returns
returns c =
    let a = c.args in
    changed (duty_no_refusal a.t a.operator (ordered (goal.at.returns c).Else-not-in_order) (omega (arith, c.if-operator-gt-LAST_OPERATOR.false))) c.on_duty.ensures
