-- `nominal::placing::place` meets its contract: FILL, cells with the FILL after them, rows, pairs and groups are one stretch, and the groups end it.
-- Assumes nothing.
use Prim.Native.Nat.{◌≤◌}
use native.Mathlib.Omega.{arith}
use Rattle.base.specs.Format.{FILL}
use Rattle.quiet.specs.Quiet.{Byte}
use Rattle.nominal.specs.Stretches.{last_place, Stored}
use Rattle.nominal.proofs.Joining.{stops_left, stops_unlike, stored-fill, stored-join, all-stored}
use Rattle.nominal.proofs.placing.place.Goals as goal
use Rattle.nominal.proofs.placing.place.Goals.{After-rows-rowed, After-spaced_cells-spaced}

-- FILL, and the cells after it
module _ (c : After-spaced_cells-spaced) where
  spaced-stored : Stored c.args.piece.now c.args.from c.spaced_cells-spaced.result.at c.args.start c.spaced_cells-spaced.result.placed
      c.args.frame.now c.spaced_cells-spaced.new.frame
  spaced-stored =
      stored-join (stored-fill c.args.start c.args.frame.now c.skip_fill-at.ensures.stretch) c.spaced_cells-spaced.ensures.stored

  no_fill : Byte c.args.piece.now c.spaced_cells-spaced.result.at FILL → ⊥
  no_fill = c.spaced_cells-spaced.ensures.fact c.skip_fill-at.ensures.no_fill

  room : c.spaced_cells-spaced.result.placed ≤ last_place
  room = c.spaced_cells-spaced.ensures.stored.room (omega arith)

room_rows : (c : After-rows-rowed) → c.rows-rowed.result.placed ≤ last_place
room_rows c = c.rows-rowed.ensures.room (omega arith)

pub returns-then-start-ge-LAST_PLACE : goal.returns-then-start-ge-LAST_PLACE
returns-then-start-ge-LAST_PLACE c =
    let filled = c.skip_fill-at.ensures in
    record {
      stored = stored-fill c.args.start c.args.frame.now filled.stretch;
      stops = stops_left filled.no_fill (λ x g. omega arith);
    }

pub returns-then-spaced-ge-LAST_PLACE : goal.returns-then-spaced-ge-LAST_PLACE
returns-then-spaced-ge-LAST_PLACE c =
    record { stored = spaced-stored (goal.at.returns-then-spaced-ge-LAST_PLACE c).After-spaced_cells-spaced; stops = stops_left (no_fill (goal.at.returns-then-spaced-ge-LAST_PLACE c).After-spaced_cells-spaced) (λ x g. omega arith) }

pub returns-then-not-group_stands : goal.returns-then-not-group_stands
returns-then-not-group_stands c =
    let stands = c.group_stands in
    record {
      stored = spaced-stored (goal.at.returns-then-not-group_stands c).After-spaced_cells-spaced;
      stops = stops_unlike (no_fill (goal.at.returns-then-not-group_stands c).After-spaced_cells-spaced) stands.result stands.ensures c.if-not-group_stands.true;
    }

pub pairs-paired-requires : goal.pairs-paired-requires
pairs-paired-requires c = room_rows (goal.at.pairs-paired-requires c).After-rows-rowed

pub groups-requires : goal.groups-requires
groups-requires c = c.pairs-paired.ensures.room (room_rows (goal.at.groups-requires c).After-rows-rowed)

pub returns : goal.returns
returns c =
    all-stored (stored-join (stored-join (spaced-stored (goal.at.returns c).After-spaced_cells-spaced) c.rows-rowed.ensures) c.pairs-paired.ensures) c.groups.ensures
