-- `relock_crossing::in_order` meets its contract: its tests are the definition's, in another order. Assumes nothing.
use mathlib.Core.Bool.{not, ◌||◌}
use Prim.Native.Nat.{◌/◌}
use lib.Dec.{eqb, ltb, leb}
use lib.ListN.{get_or}
use Rattle.labelling.specs.Order.{in_order}
use Rattle.relocking.specs.Relock.{stands_at_lock, feeder_in_order}
use Rattle.tally_numbers.specs.Numbers.{is_tally, tally_of}
use Rattle.relock_crossing.specs.Relocking.{is_feeder}
use Rattle.relock_crossing.proofs.Steps.{shuffled}
use Rattle.relock_crossing.proofs.in_order.Goals as goal

pub returns : goal.returns
unfolding is_feeder feeder_in_order
returns c =
    let n = c.args.n.now in
    let frame = c.args.frame.now in
    let t = tally_of n frame in
    let feeder = c.args.feeder.now in
    rw (c.in_order.ensures.value, c.stands.ensures frame)
    (shuffled (is_tally n) (in_order t) (ltb (get_or feeder 0 0) 2) (not (eqb (get_or feeder 0 0) 1) || stands_at_lock t) (leb (get_or feeder 1 0) (get_or n 0 0 / 12)))
