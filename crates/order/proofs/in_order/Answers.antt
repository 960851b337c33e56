-- `order::in_order` meets its contract: within the limits no sum runs over, and the tests are the definition's. Assumes nothing.
use mathlib.Core.Path.{◌≡◌, ◌∙◌}
use mathlib.Core.Bool.{true, ◌&&◌}
use Rattle.labelling.specs.declared.Tally.{Tally}
use Rattle.labelling.specs.Machine.{state_of}
use Rattle.labelling.specs.Order.{operators_bounded}
use Rattle.order.specs.Room.{StateRoom, OperatorsRoom}
use Rattle.order.proofs.Rooms.{bounded, bounded-room, operators_room}
use Rattle.order.proofs.Tested.{both_hold, all_bounded, bounded-as, out-of_bounds, within-bounds}
use Rattle.order.proofs.in_order.Goals as goal
use Rattle.order.proofs.in_order.Goals.{After-operators_bounded, Else-not-bounded}

-- the bounds of the three layers and of the operators are tested
module _ (c : After-operators_bounded) where
  abbrev t : Tally
  t = c.args.t

  bounds_are : all_bounded t
      ≡ (c.groups_bounded.result && c.framing_bounded.result && c.runs_bounded.result
      && c.operators_bounded.result)
  bounds_are =
      bounded-as t c.groups_bounded.ensures c.framing_bounded.ensures c.runs_bounded.ensures
      c.operators_bounded.ensures

-- and hold
module _ (c : Else-not-bounded) where
  held : all_bounded (t c.before) ≡ true
  held = bounds_are c.before ∙ c.if-not-bounded.false

  abbrev both : (bounded (state_of (t c.before)) ≡ true) × (operators_bounded (t c.before).operators ≡ true)
  both = both_hold (bounded (state_of (t c.before))) (operators_bounded (t c.before).operators) held

  in_layers : StateRoom (state_of (t c.before))
  in_layers = bounded-room (state_of (t c.before)) both.0

  in_operators : OperatorsRoom (t c.before).operators
  in_operators = operators_room (t c.before).operators both.1

pub returns-then-not-bounded : goal.returns-then-not-bounded
returns-then-not-bounded c = out-of_bounds (t (goal.at.returns-then-not-bounded c).After-operators_bounded) (bounds_are (goal.at.returns-then-not-bounded c).After-operators_bounded ∙ c.if-not-bounded.true)

pub sums-requires : goal.sums-requires
sums-requires c = in_layers (goal.at.sums-requires c).Else-not-bounded

pub few_weak-requires : goal.few_weak-requires
few_weak-requires c = (in_layers (goal.at.few_weak-requires c).Else-not-bounded).in_groups

pub paid_sum-requires : goal.paid_sum-requires
paid_sum-requires c = in_operators (goal.at.paid_sum-requires c).Else-not-bounded

pub returns : goal.returns
returns c =
    within-bounds (t (goal.at.returns c).After-operators_bounded) (held (goal.at.returns c).Else-not-bounded) c.framing_modes.ensures c.sums.ensures c.few_weak.ensures
    c.paid_sum.ensures c.rule_in_order.ensures
