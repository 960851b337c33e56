-- `nominal::hunting::pass` meets its contract: FILL, cells, FILL, cells and groups are one stretch, and the groups end it; where no SYNC
-- stands after the first FILL, no group does. Assumes nothing.
use native.Mathlib.Omega.{arith}
use Rattle.nominal.proofs.Joining.{stops_short, stops_left, hunted_none, hunted_fill, hunted_far}
use Rattle.nominal.proofs.hunting.pass.Goals as goal

pub returns-then-piece-at : goal.returns-then-piece-at
returns-then-piece-at c =
    let filled = c.skip_fill-at.ensures in
    record {
      hunted = hunted_fill (hunted_none c.args.from) filled.stretch;
      stops = stops_short filled.no_fill (omega arith);
    }

pub returns-then-piece-at-ne-SYNC : goal.returns-then-piece-at-ne-SYNC
returns-then-piece-at-ne-SYNC c =
    let filled = c.skip_fill-at.ensures in
    record {
      hunted = hunted_fill (hunted_none c.args.from) filled.stretch;
      stops = stops_left filled.no_fill (λ x g. absurd (omega (arith, g.sync.is)));
    }

pub other_cells-requires : goal.other_cells-requires
other_cells-requires c =
    let from = c.args.from in
    let at_first = hunted_fill (hunted_none from) c.skip_fill-at.ensures.stretch in
    let at_second = hunted_fill (c.other_cells-first.ensures from at_first) c.skip_fill.ensures.stretch in
    omega (arith, hunted_far at_second)

pub other_groups-requires : goal.other_groups-requires
other_groups-requires c =
    let from = c.args.from in
    let at_first = hunted_fill (hunted_none from) c.skip_fill-at.ensures.stretch in
    let at_second = hunted_fill (c.other_cells-first.ensures from at_first) c.skip_fill.ensures.stretch in
    omega (arith, hunted_far (c.other_cells.ensures from at_second))

pub returns : goal.returns
returns c =
    let from = c.args.from in
    let at_first = hunted_fill (hunted_none from) c.skip_fill-at.ensures.stretch in
    let at_second = hunted_fill (c.other_cells-first.ensures from at_first) c.skip_fill.ensures.stretch in
    c.other_groups.ensures from (c.other_cells.ensures from at_second)
