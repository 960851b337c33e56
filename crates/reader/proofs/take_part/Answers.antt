-- `reader::take_part` meets its contract: its tests are the refusal table's, in the table's order. Assumes nothing.
use native.Mathlib.Omega.{arith}
use mathlib.Core.Path.{◌≡◌, refl, sym, ◌∙◌}
use mathlib.Core.Bool.{true, false}
use Prim.Native.Nat.{◌+◌, ◌<◌, ◌^◌}
use lib.ListN.{length}
use Rattle.base.specs.declared.refusal.Refusal.TheVariants.{NotInOrder, WrongLength, TooManyBytes}
use Rattle.labelling.specs.Order.{in_order}
use Rattle.labelling.proofs.Ordered.{bytes_within}
use Rattle.labelling.proofs.CallLaws.{not_in_order, wrong-area, too_long, no_refusal}
use Rattle.reader.proofs.Answers.{refused-promise, refused-part, accepted-part}
use Rattle.reader.proofs.take_part.Goals as goal
use Rattle.reader.proofs.take_part.Goals.{After-in_order}

-- past the first test it is known whether the tally is in order
module _ (c : After-in_order) where
  in_order-so : c.in_order.result ≡ true → in_order c.args.t ≡ true
  in_order-so e = sym c.in_order.ensures ∙ e

  out-of_order_so : c.in_order.result ≡ false → in_order c.args.t ≡ false
  out-of_order_so e = sym c.in_order.ensures ∙ e

pub returns-then-not-in_order : goal.returns-then-not-in_order
returns-then-not-in_order c =
    let a = c.args in
    let e = not_in_order a.t a.piece.now a.area.now (out-of_order_so (goal.at.returns-then-not-in_order c).After-in_order c.if-not-in_order.true) in
    refused-part e (refused-promise NotInOrder 0 refl e)

pub returns-then-area-ne-MAJOR_FRAME : goal.returns-then-area-ne-MAJOR_FRAME
returns-then-area-ne-MAJOR_FRAME c =
    let o = in_order-so (goal.at.returns-then-area-ne-MAJOR_FRAME c).After-in_order c.if-not-in_order.false in
    let a = c.args in
    let e = wrong-area a.t a.piece.now a.area.now o c.if-area-ne-MAJOR_FRAME.true in
    refused-part e (refused-promise WrongLength 1 refl e)

pub overflow_sub-t : goal.overflow_sub-t
overflow_sub-t c =
    omega (arith, bytes_within c.args.t (in_order-so (goal.at.overflow_sub-t c).After-in_order c.if-not-in_order.false))

pub returns-then-t-piece : goal.returns-then-t-piece
returns-then-t-piece c =
    let o = in_order-so (goal.at.returns-then-t-piece c).After-in_order c.if-not-in_order.false in
    let a = c.args in
    let over : 2 ^ 40 < a.t.groups.bytes + length a.piece.now = omega (arith, bytes_within a.t o) in
    let e = too_long a.t a.piece.now a.area.now o c.if-area-ne-MAJOR_FRAME.false over in
    refused-part e (refused-promise TooManyBytes 2 refl e)

pub accepted-requires : goal.accepted-requires
accepted-requires c =
    let o = in_order-so (goal.at.accepted-requires c).After-in_order c.if-not-in_order.false in
    (o, c.if-area-ne-MAJOR_FRAME.false, omega (arith, bytes_within c.args.t o))

pub returns : goal.returns
returns c =
    let o = in_order-so (goal.at.returns c).After-in_order c.if-not-in_order.false in
    let a = c.args in
    accepted-part
    (no_refusal a.t a.piece.now a.area.now o c.if-area-ne-MAJOR_FRAME.false (omega (arith, bytes_within a.t o)))
    c.accepted.ensures
