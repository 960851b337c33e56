-- A tally in order has room in each layer and in the operators' counts, since the bounds are among its tests. Assumes nothing.
use mathlib.Core.Path.{◌≡◌}
use mathlib.Core.Bool.{Bool, true, ◌&&◌}
use lib.Dec.{T, leb→le, eqb→eq}
use lib.Ieee.Fits.{and_l, and_r}
use denote.Floats.{passes, is_true}
use Rattle.labelling.specs.declared.Framing.{Framing}
use Rattle.labelling.specs.declared.Groups.{Groups}
use Rattle.labelling.specs.declared.Operators.{Operators}
use Rattle.labelling.specs.declared.Runs.{Runs}
use Rattle.labelling.specs.declared.Tally.{Tally}
use Rattle.labelling.specs.Machine.{State}
use Rattle.labelling.specs.Order.{within, every, groups_bounded, framing_bounded, runs_bounded, operators_bounded, state_in_order, in_order}
use Rattle.labelling.proofs.Booking.{each_within}
use Rattle.order.specs.Room.{GroupsRoom, FramingRoom, RunsRoom, StateRoom, OperatorsRoom, DutyRoom}

groups_room : (g : Groups) → T (groups_bounded g) → GroupsRoom g
groups_room g h = search (and_l, and_r, leb→le) depth 10

framing_room : (f : Framing) → T (framing_bounded f) → FramingRoom f
framing_room f h = search (and_l, and_r, leb→le) depth 10

runs-room : (r : Runs) → T (runs_bounded r) → RunsRoom r
runs-room r h = search (and_l, and_r, leb→le) depth 10

pub operators_room : (o : Operators) → operators_bounded o ≡ true → OperatorsRoom o
operators_room o e =
    let h : T (operators_bounded o) = passes (operators_bounded o) e in
    let w : T (every within o.paid) = search (and_l, and_r) depth 3 in
    record {
      eight = search (and_l, eqb→eq) depth 4;
      paid0_max = each_within o.paid 0 w;
      paid1_max = each_within o.paid 1 w;
      paid2_max = each_within o.paid 2 w;
      paid3_max = each_within o.paid 3 w;
      paid4_max = each_within o.paid 4 w;
      paid5_max = each_within o.paid 5 w;
      paid6_max = each_within o.paid 6 w;
      paid7_max = each_within o.paid 7 w;
    }

-- a payment fits where the tally is in order
pub duty_room : (t : Tally) → in_order t ≡ true → DutyRoom t.operators
unfolding in_order
duty_room t e =
    let o = t.operators in
    let h : T (in_order t) = passes (in_order t) e in
    let w : T (every within o.paid) = search (and_l, and_r) depth 5 in
    record { duty_max = search (and_l, and_r, leb→le) depth 5; paid_max = each_within o.paid o.duty w }

module _ (t : State) where
  -- the tests of the bounds
  abbrev pub bounded : Bool
  bounded = groups_bounded t.groups && framing_bounded t.framing && runs_bounded t.runs

  pub bounded-room : bounded ≡ true → StateRoom t
  bounded-room e =
      let h : T bounded = passes bounded e in
      let g : T (groups_bounded t.groups) = search (and_l, and_r) depth 3 in
      let f : T (framing_bounded t.framing) = search (and_l, and_r) depth 3 in
      let r : T (runs_bounded t.runs) = search (and_l, and_r) depth 3 in
      record { in_groups = groups_room t.groups g; in_framing = framing_room t.framing f; in_runs = runs-room t.runs r }

  pub state_room : state_in_order t ≡ true → StateRoom t
  unfolding state_in_order
  state_room o =
      let h : T (state_in_order t) = passes (state_in_order t) o in
      let b : T bounded = search (and_l, and_r) depth 5 in
      bounded-room (is_true bounded b)
