-- `reader::accepted` meets its contract: the tally, taken apart and put together again, is the state that the run leaves, with its payment booked.
-- Assumes nothing.
use mathlib.Core.Path.{refl, ap}
use native.Mathlib.Omega.{arith}
use Rattle.labelling.proofs.Ordered.{state_in_order_lem}
use Rattle.labelling.specs.Calls.{Progress, answer_with}
use Rattle.order.proofs.Rooms.{duty_room}
use Rattle.reader.proofs.Answers.{accepted-promise, part-fits}
use borrow.Author.Rules.{rules}
use Rattle.reader.proofs.accepted.Goals as goal

pub run-r-requires : goal.run-r-requires
run-r-requires c = (
  record {
    order = state_in_order_lem c.args.t c.requires.0;
    fits = record { inside = omega arith; limit = omega (arith, c.requires.2) };
    frame-length = search rules;
  },
  c.requires.1,
)

pub booked-operators-requires : goal.booked-operators-requires
booked-operators-requires c = duty_room c.args.t c.requires.0

pub returns : goal.returns
returns c =
    let a = c.args in
    let q = part-fits a.stop a.t a.piece.now a.area.now c.requires.0 c.requires.1 c.requires.2 in
    accepted-promise q
    (rw (c.together-tally.ensures, c.booked-operators.ensures) (ap (λ (r : Progress). answer_with a.t r) c.run-r.ensures))
