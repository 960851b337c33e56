-- `pcd_tally::fed` meets its contract: its calls are those of `feeding::feed`, which takes the piece unless the bytes are too many. Assumes
-- nothing.
use Prim.Native.Nat.{◌≤◌}
use native.Mathlib.Omega.{arith}
use lib.ListN.{length}
use Rattle.pcd_tally.proofs.Laws.{within-limit, taken-within, piece_refused, piece_taken}
use Rattle.pcd_tally.proofs.fed.Goals as goal

pub returns-in_default : goal.returns-in_default
returns-in_default c = piece_refused _ _ _ _ c.requires _ c.in_default.ensures

pub overflow_add-result : goal.overflow_add-result
overflow_add-result c =
    let few = within-limit c.requires in
    let more : c.in-Ok.f.taken ≤ length c.args.piece.now = taken-within _ _ _ _ c.in-Ok.ensures in
    record { fits = omega (arith, few, more) }

pub returns : goal.returns
returns c = piece_taken _ _ _ _ c.requires _ c.in-Ok.ensures
