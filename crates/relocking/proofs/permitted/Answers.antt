-- `relocking::permitted` meets its contract: its tests are the refusal table's, in the table's order. Assumes nothing.
use mathlib.Core.Path.{◌≡◌, sym, ◌∙◌}
use mathlib.Core.Bool.{true}
use Prim.Native.Nat.{◌≤◌, ◌^◌}
use native.Mathlib.Omega.{arith}
use Rattle.labelling.proofs.Ordered.{bytes_within}
use Rattle.relocking.specs.Relock.{feeder_in_order}
use Rattle.relocking.proofs.Relocking.{feeder_ordered, not_in_order, wrong-area, too_long, accepted-by}
use Rattle.relocking.proofs.permitted.Goals as goal
use Rattle.relocking.proofs.permitted.Goals.{Else-not-in_order}

pub returns-then-not-in_order : goal.returns-then-not-in_order
returns-then-not-in_order c =
    sym (not_in_order _ _ _ (sym c.in_order.ensures ∙ c.if-not-in_order.true))

-- past the first test
module _ (c : Else-not-in_order) where
  order : feeder_in_order c.args.f ≡ true
  order = sym c.in_order.ensures ∙ c.if-not-in_order.false

  within : c.args.f.tally.groups.bytes ≤ 2 ^ 40
  within = bytes_within c.args.f.tally (feeder_ordered c.args.f order).in_tally

pub returns-then-area-ne-MAJOR_FRAME : goal.returns-then-area-ne-MAJOR_FRAME
returns-then-area-ne-MAJOR_FRAME c = sym (wrong-area _ _ _ (order (goal.at.returns-then-area-ne-MAJOR_FRAME c).Else-not-in_order) c.if-area-ne-MAJOR_FRAME.true)

pub overflow_sub-left : goal.overflow_sub-left
overflow_sub-left c = within (goal.at.overflow_sub-left c).Else-not-in_order

pub returns-then-left-lt-LEAD_IN : goal.returns-then-left-lt-LEAD_IN
returns-then-left-lt-LEAD_IN c =
    sym (too_long _ _ _ (order (goal.at.returns-then-left-lt-LEAD_IN c).Else-not-in_order) c.if-area-ne-MAJOR_FRAME.false (omega (arith, c.if-left-lt-LEAD_IN.true, within (goal.at.returns-then-left-lt-LEAD_IN c).Else-not-in_order)))

pub returns-then-left-piece : goal.returns-then-left-piece
returns-then-left-piece c =
    sym (too_long _ _ _ (order (goal.at.returns-then-left-piece c).Else-not-in_order) c.if-area-ne-MAJOR_FRAME.false (omega (arith, c.if-left-piece.true, c.if-left-lt-LEAD_IN.false, within (goal.at.returns-then-left-piece c).Else-not-in_order)))

pub returns : goal.returns
returns c =
    sym (accepted-by _ _ _ record { order = order (goal.at.returns c).Else-not-in_order; whole-area = c.if-area-ne-MAJOR_FRAME.false; fits = omega (arith, c.if-left-piece.false, c.if-left-lt-LEAD_IN.false, within (goal.at.returns c).Else-not-in_order) })
