-- `cycle_columns::frame_column` meets its contract: what is gathered from rows of a cycle. Assumes nothing.
use mathlib.Core.Path.{ap, ◌∙◌}
use Prim.Native.Nat.{ℕ}
use lib.ListN.{length, replicate, length-replicate}
use Rattle.cycle_columns.proofs.Gathering.{column-is, column-length}
use Rattle.cycle_columns.proofs.frame_column.Goals as goal

pub returns : goal.returns
returns c =
    let body = c.args.body.now in
    let wide = length-replicate {A = ℕ} 128 0 in
    let is = column-is body c.args.k (replicate 128 0) _ c.requires.0 c.requires.1 wide c.gather.ensures.promise.after in
    (is, ap length is ∙ column-length body c.args.k)
