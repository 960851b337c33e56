-- `relock_crossing::permitted` meets its contract: its tests are the refusal table's, in the table's order. Assumes nothing.
use mathlib.Core.Path.{◌≡◌, sym, ◌∙◌}
use mathlib.Core.Bool.{true}
use Prim.Native.Nat.{◌≤◌, ◌^◌}
use native.Mathlib.Omega.{arith}
use lib.ListN.{get_or}
use Rattle.labelling.proofs.Ordered.{bytes_within}
use Rattle.relocking.specs.Relock.{feeder_in_order}
use Rattle.relocking.proofs.Relocking.{feeder_ordered, wrong-area, too_long, accepted-by}
use Rattle.in_place.proofs.Laws.{both}
use Rattle.relock_crossing.specs.Relocking.{is_feeder, feeder_of}
use Rattle.relock_crossing.proofs.Steps.{order_refused, line}
use Rattle.relock_crossing.proofs.permitted.Goals as goal
use Rattle.relock_crossing.proofs.permitted.Goals.{Else-not-in_order}

-- past the test of the order
module _ (c : Else-not-in_order) where
  order : (is_feeder c.args.n.now c.args.feeder.now ≡ true)
      × (feeder_in_order (feeder_of c.args.n.now c.args.frame.now c.args.feeder.now) ≡ true)
  order = both _ _ (sym c.in_order.ensures ∙ c.if-not-in_order.false)

  within : get_or c.args.n.now 0 0 ≤ 2 ^ 40
  within = bytes_within _ (feeder_ordered _ order.1).in_tally

pub returns-then-not-in_order : goal.returns-then-not-in_order
returns-then-not-in_order c = sym (order_refused _ _ _ _ _ (sym c.in_order.ensures ∙ c.if-not-in_order.true))

pub returns-then-area-ne-MAJOR_FRAME : goal.returns-then-area-ne-MAJOR_FRAME
returns-then-area-ne-MAJOR_FRAME c = let o = order (goal.at.returns-then-area-ne-MAJOR_FRAME c).Else-not-in_order in sym (line _ _ _ _ _ _ o.0 (wrong-area _ _ _ o.1 c.if-area-ne-MAJOR_FRAME.true))

pub overflow_sub-left : goal.overflow_sub-left
overflow_sub-left c = within (goal.at.overflow_sub-left c).Else-not-in_order

pub returns-then-left-lt-LEAD_IN : goal.returns-then-left-lt-LEAD_IN
returns-then-left-lt-LEAD_IN c =
    let o = order (goal.at.returns-then-left-lt-LEAD_IN c).Else-not-in_order in
    sym (line _ _ _ _ _ _ o.0 (too_long _ _ _ o.1 c.if-area-ne-MAJOR_FRAME.false (omega (arith, c.if-left-lt-LEAD_IN.true, within (goal.at.returns-then-left-lt-LEAD_IN c).Else-not-in_order))))

pub returns-then-left-piece : goal.returns-then-left-piece
returns-then-left-piece c =
    let o = order (goal.at.returns-then-left-piece c).Else-not-in_order in
    sym (line _ _ _ _ _ _ o.0 (too_long _ _ _ o.1 c.if-area-ne-MAJOR_FRAME.false (omega (arith, c.if-left-piece.true, c.if-left-lt-LEAD_IN.false, within (goal.at.returns-then-left-piece c).Else-not-in_order))))

pub returns : goal.returns
returns c =
    let o = order (goal.at.returns c).Else-not-in_order in
    sym
    (line _ _ _ _ _ _ o.0
    (accepted-by _ _ _ record { order = o.1; whole-area = c.if-area-ne-MAJOR_FRAME.false; fits = omega (arith, c.if-left-piece.false, c.if-left-lt-LEAD_IN.false, within (goal.at.returns c).Else-not-in_order) }))
