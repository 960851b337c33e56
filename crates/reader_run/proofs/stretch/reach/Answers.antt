-- `reader_run::stretch::reach` meets its contract: a nominal stretch; where the last place does not come next also what is no SYNC, and a voted
-- stretch; and then the first bytes of a group. Assumes nothing.
use mathlib.Core.Path.{◌≡◌}
use mathlib.Core.List.{List, []}
use Prim.Native.Nat.{ℕ}
use Rattle.labelling.specs.declared.Groups.{Groups}
use Rattle.labelling.specs.Machine.{State}
use Rattle.labelling.proofs.Votes.{majority}
use Rattle.order.proofs.Rooms.{state_room}
use Rattle.plain_steps.specs.Shapes.{state_with}
use Rattle.order.specs.Room.{GroupsRoom}
use Rattle.reader_run.specs.Onward.{Fits, Begun, Reaches}
use Rattle.reader_run.proofs.Onward.{none-onward, onward-begun, reaches_join}
use Rattle.reader_run.proofs.stretch.reach.Goals as goal
use Rattle.reader_run.proofs.stretch.reach.Goals.{After-nominal_run-nominal, After-quiet_run-before}

-- what the next part finds, which does not depend on the vote
reached-begun : {p : List ℕ} {i j : ℕ} {t u : State} → Reaches p i t j u → Begun p i t → Begun p j u
reached-begun r b = onward-begun (r.onward _ (majority 1) []) b

-- the nominal stretch
module _ (c : After-nominal_run-nominal) where
  abbrev filled : List ℕ
  filled = c.nominal_run-nominal.new.frame

  begun : Begun c.args.piece.now c.nominal_run-nominal.result.at (state_with c.nominal_run-nominal.result.layers filled)
  begun = reached-begun c.nominal_run-nominal.ensures.reaches c.requires

  abbrev left : Groups
  left = c.nominal_run-nominal.result.layers.groups

  -- what is asked of any part that comes next
  ready : (GroupsRoom left × Fits left c.args.piece.now c.nominal_run-nominal.result.at) × (left.«open» ≡ 0)
  ready = (((state_room _ begun.order).in_groups, begun.fits), c.nominal_run-nominal.ensures.open_value_2)

-- and what is no SYNC after it
module _ (c : After-quiet_run-before) where
  quiet_reached : Reaches c.args.piece.now c.nominal_run-nominal.result.at
      (state_with c.nominal_run-nominal.result.layers c.nominal_run-nominal.new.frame) c.quiet_run-before.result.at
      (state_with c.quiet_run-before.result.layers c.nominal_run-nominal.new.frame)
  quiet_reached =
      c.quiet_run-before.ensures.reaches_any_frame c.nominal_run-nominal.new.frame
      (reached-begun c.nominal_run-nominal.ensures.reaches c.requires)

  quiet_begun : Begun c.args.piece.now c.quiet_run-before.result.at
      (state_with c.quiet_run-before.result.layers c.nominal_run-nominal.new.frame)
  quiet_begun = reached-begun quiet_reached (reached-begun c.nominal_run-nominal.ensures.reaches c.requires)

pub returns-then-l-ne0 : goal.returns-then-l-ne0
returns-then-l-ne0 c = none-onward c.requires

pub open_group-requires : goal.open_group-requires
open_group-requires c =
    let r = ready (goal.at.open_group-requires c).After-nominal_run-nominal in record { groups_room = r.0; open_value = r.1 }

pub returns-then-last_comes : goal.returns-then-last_comes
returns-then-last_comes c =
    reaches_join c.nominal_run-nominal.ensures.reaches (c.open_group.ensures _ (begun (goal.at.returns-then-last_comes c).After-nominal_run-nominal))

pub quiet_run-before-requires : goal.quiet_run-before-requires
quiet_run-before-requires c =
    let r = ready (goal.at.quiet_run-before-requires c).After-nominal_run-nominal in record { groups_room = r.0; open_value = r.1 }

pub any_voted-voted-requires : goal.any_voted-voted-requires
any_voted-voted-requires c =
    record {
      begun = quiet_begun (goal.at.any_voted-voted-requires c).After-quiet_run-before;
      open_value = c.quiet_run-before.ensures.open_value_2;
    }

pub open_group-requires-2 : goal.open_group-requires-2
open_group-requires-2 c =
    let b = reached-begun c.any_voted-voted.ensures.reaches (quiet_begun (goal.at.open_group-requires-2 c).After-quiet_run-before) in
    record { groups_room = ((state_room _ b.order).in_groups, b.fits); open_value = c.any_voted-voted.ensures.open_value_2 }

pub returns : goal.returns
returns c =
    let second = c.any_voted-voted.ensures.reaches in
    let b = reached-begun second (quiet_begun (goal.at.returns c).After-quiet_run-before) in
    reaches_join c.nominal_run-nominal.ensures.reaches
    (reaches_join (quiet_reached (goal.at.returns c).After-quiet_run-before) (reaches_join second (c.open_group-2.ensures _ b)))
