-- `in_place::call` meets its contract: its tests are the refusal table's, in the table's order. Assumes nothing.
use mathlib.Core.Path.{◌≡◌, sym, ◌∙◌}
use mathlib.Core.Bool.{true}
use Prim.Native.Nat.{◌+◌, ◌≤◌, ◌<◌, ◌^◌}
use native.Mathlib.Omega.{arith}
use lib.ListN.{length, get_or}
use Rattle.base.specs.declared.refusal.Refusal.TheVariants.{WrongLength, TooManyBytes}
use Rattle.labelling.specs.declared.Tally.{Tally}
use Rattle.labelling.specs.Order.{in_order}
use Rattle.labelling.proofs.Ordered.{bytes_within}
use Rattle.labelling.proofs.CallLaws.{not_in_order, wrong-area, too_long, no_refusal}
use Rattle.tally_numbers.specs.Numbers.{is_tally, tally_of}
use Rattle.in_place.proofs.Laws.{both, not_ordered, refused-call, accepted-call}
use Rattle.in_place.proofs.call.Goals as goal
use Rattle.in_place.proofs.call.Goals.{After-in_order, Else-not-in_order}

-- past the test of the order
module _ (c : After-in_order) where
  abbrev tally : Tally
  tally = tally_of c.args.numbers.now c.args.frame.now

in_order-so : (c : Else-not-in_order)
    → (is_tally c.args.numbers.now ≡ true) × (in_order (tally_of c.args.numbers.now c.args.frame.now) ≡ true)
in_order-so c = both _ _ (sym c.in_order.ensures.value ∙ c.if-not-in_order.false)

pub returns-then-not-in_order : goal.returns-then-not-in_order
returns-then-not-in_order c =
    let a = c.args in
    let out = sym c.in_order.ensures.value ∙ c.if-not-in_order.true in
    (not_ordered _ _ _ _ _ out (not_in_order (tally (goal.at.returns-then-not-in_order c).After-in_order) a.piece.now a.area.now))

pub returns-then-area-ne-MAJOR_FRAME : goal.returns-then-area-ne-MAJOR_FRAME
returns-then-area-ne-MAJOR_FRAME c =
    let o = in_order-so (goal.at.returns-then-area-ne-MAJOR_FRAME c).Else-not-in_order in
    let a = c.args in
    (refused-call _ _ _ _ _ WrongLength o.0 (wrong-area (tally (goal.at.returns-then-area-ne-MAJOR_FRAME c).After-in_order) a.piece.now a.area.now o.1 c.if-area-ne-MAJOR_FRAME.true))

pub overflow_sub-numbers : goal.overflow_sub-numbers
overflow_sub-numbers c =
    omega (arith, bytes_within (tally (goal.at.overflow_sub-numbers c).After-in_order) (in_order-so (goal.at.overflow_sub-numbers c).Else-not-in_order).1)

pub returns-then-numbers-piece : goal.returns-then-numbers-piece
returns-then-numbers-piece c =
    let o = in_order-so (goal.at.returns-then-numbers-piece c).Else-not-in_order in
    let a = c.args in
    let over : 2 ^ 40 < get_or a.numbers.now 0 0 + length a.piece.now = omega (arith, bytes_within (tally (goal.at.returns-then-numbers-piece c).After-in_order) o.1, c.if-numbers-piece.true) in
    (refused-call _ _ _ _ _ TooManyBytes o.0 (too_long (tally (goal.at.returns-then-numbers-piece c).After-in_order) a.piece.now a.area.now o.1 c.if-area-ne-MAJOR_FRAME.false over))

pub accepted-requires : goal.accepted-requires
accepted-requires c =
    let o = in_order-so (goal.at.accepted-requires c).Else-not-in_order in
    let is-ordered = c.in_order.ensures.frame_len c.if-not-in_order.false in
    let few_bytes = bytes_within (tally (goal.at.accepted-requires c).After-in_order) o.1 in
    record {
      is_tally_fact = o.0;
      order = o.1;
      frame-length = is-ordered;
      area_length = c.if-area-ne-MAJOR_FRAME.false;
      fits = omega (arith, few_bytes, c.if-numbers-piece.false);
      leads = c.requires;
    }

pub returns : goal.returns
returns c =
    let o = in_order-so (goal.at.returns c).Else-not-in_order in
    let a = c.args in
    let fits : get_or a.numbers.now 0 0 + length a.piece.now ≤ 2 ^ 40 = omega (arith, bytes_within (tally (goal.at.returns c).After-in_order) o.1, c.if-numbers-piece.false) in
    let none = no_refusal (tally (goal.at.returns c).After-in_order) a.piece.now a.area.now o.1 c.if-area-ne-MAJOR_FRAME.false fits in
    accepted-call _ _ _ _ _ o.0 none c.accepted.ensures
