-- `crossing::change_duty` meets its contract: its tests are the refusal table's, in the table's order. Assumes nothing.
use mathlib.Core.Path.{◌≡◌, sym, ap, ◌∙◌}
use mathlib.Core.Bool.{true}
use native.Mathlib.Omega.{arith}
use Rattle.labelling.specs.declared.Tally.{Tally}
use Rattle.labelling.specs.Operators.{on_duty}
use Rattle.labelling.specs.Machine.{with_operators}
use Rattle.labelling.specs.Order.{in_order}
use Rattle.tally_numbers.specs.Numbers.{is_tally, tally_of}
use Rattle.in_place.proofs.Laws.{both}
use Rattle.crossing.proofs.Crossed.{duty_not_ordered, duty_no_operator, duty_changed}
use Rattle.crossing.proofs.operator.change_duty.Goals as goal
use Rattle.crossing.proofs.operator.change_duty.Goals.{Else-not-in_order}

-- past the test of the order
module _ (c : Else-not-in_order) where
  ordered : (is_tally c.args.numbers.now ≡ true) × (in_order (tally_of c.args.numbers.now c.args.frame.now) ≡ true)
  ordered = both _ _ (sym c.in_order.ensures.value ∙ c.if-not-in_order.false)

pub returns-then-not-in_order : goal.returns-then-not-in_order
returns-then-not-in_order c = rw c.number.ensures (duty_not_ordered _ _ (sym c.in_order.ensures.value ∙ c.if-not-in_order.true))

pub returns-then-operator-gt-LAST_OPERATOR : goal.returns-then-operator-gt-LAST_OPERATOR
returns-then-operator-gt-LAST_OPERATOR c =
    let o = ordered (goal.at.returns-then-operator-gt-LAST_OPERATOR c).Else-not-in_order in
    rw c.number-then-operator-gt-LAST_OPERATOR.ensures (duty_no_operator _ _ o.0 o.1 (omega (arith, c.if-operator-gt-LAST_OPERATOR.true)))

pub returns : goal.returns
returns c =
    let o = ordered (goal.at.returns c).Else-not-in_order in
    let a = c.args in
    let written = c.put_tally.ensures in
    rw (written.n_after, written.frame_after)
    (duty_changed _ _ o.0 o.1 (omega arith) _
    (c.on_duty-left.ensures ∙ ap (λ (t : Tally). with_operators (on_duty a.operator t.operators) t) c.tally_of-t.ensures))
